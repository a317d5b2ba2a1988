-- The laws of `hex_of`: two rows of bytes one after the other, none, one byte more, and all. Assumes nothing.
use Prim.Native.Nat.{ℕ, suc, ◌<◌, ◌≤◌, ◌/◌, ◌%◌}
use mathlib.Core.Path.{◌≡◌, refl, ap}
use mathlib.Core.List.{List, [], ◌∷◌, ◌++◌}
use lib.ListN.{length, take, get_or}
use lib.Seq.{take_all, take-suc}
use Rattle.buffer.specs.Put.{Put}
use Rattle.buffer.proofs.Putting.{put_nil, put_put}
use Rattle.test_frames.specs.Hex.{digit_of, hex_of}

hex_append : (s t : List ℕ) → hex_of (s ++ t) ≡ hex_of s ++ hex_of t
unfolding hex_of
hex_append [] t = refl
hex_append (b ∷ s) t = ap (λ (w : List ℕ). digit_of (b / 16) ∷ digit_of (b % 16) ∷ w) (hex_append s t)

pub hex_turn : {o : List ℕ} {at : ℕ} (s : List ℕ) {m : List ℕ} {a : ℕ} {n : List ℕ} {r : ℕ} (i : ℕ)
    → i < length s → Put o at (hex_of (take i s)) m a → Put m a (hex_of (get_or s i 0 ∷ [])) n r → Put o at (hex_of (take (suc i) s)) n r
hex_turn s i h p q = rw (take-suc s i 0 h, hex_append) (put_put p q)

pub hex_none : {o : List ℕ} {at : ℕ} → Put o at (hex_of []) o at
unfolding hex_of
hex_none = put_nil

pub hex_all : {o : List ℕ} {at : ℕ} (s : List ℕ) {n : List ℕ} {r : ℕ} (i : ℕ) → length s ≤ i → Put o at (hex_of (take i s)) n r → Put o at (hex_of s) n r
hex_all s i h p = rw (take_all i s h) at p
