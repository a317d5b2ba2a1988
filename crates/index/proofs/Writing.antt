-- Entries one after the other, and how long they are. Assumes nothing.
use Prim.Native.Nat.{ℕ, zero, suc, ◌+◌, ◌*◌, ◌/◌, ◌%◌, ◌≤◌, ◌<◌, min}
use mathlib.Core.Path.{◌≡◌, refl, sym, ap, ◌∙◌}
use mathlib.Core.List.{List, [], ◌∷◌, ◌++◌, map, append_assoc, append-nil}
use mathlib.Core.Bool.{Bool, true, false, cond, ◌&&◌}
use native.Mathlib.Omega.{arith}
use native.Mathlib.Nat.{one-mul}
use native.Mathlib.Numerals.{add-one}
use lib.Dec.{leb}
use lib.ListN.{length, get_or, take, drop, length-append}
use lib.Seq.{take_at, take_all, drop_at}
use borrow.Author.Tests.{le-leb, leb-true}
use Rattle.answers.specs.declared.Refusal.{Refusal}
use Rattle.answers.specs.Tells.{success}
use Rattle.buffer.specs.Put.{Put}
use Rattle.buffer.specs.Written.{Outcome, refused}
use Rattle.buffer.proofs.Putting.{put_put, put_nil, front_is}
use Rattle.order_at.specs.OrderAt.{plain_at}
use Rattle.rising.proofs.Counts.{ends}
use Rattle.entries.specs.Entry.{entry_of}
use Rattle.entries.proofs.Long.{entry_long}
use Rattle.index.specs.Index.{firsts, count_in, entries_at, index_of, index_written}
use Rattle.index.specs.Steps.{unit_of, count_step, Gathered, Uncounted, entries_with, entries_held}
use Rattle.index.proofs.Words.{map_long, places_long, counts_long}
use Rattle.index.proofs.Sound.{key_at_long}

-- each entry has 76 bytes
pub with_long : (s qs ns : List ℕ) → length qs ≡ length ns → length (entries_with s qs ns) ≡ length qs * 76
unfolding entries_with
with_long s [] ns h = refl
with_long s (q ∷ qs) [] h = ends h
with_long s (q ∷ qs) (n ∷ ns) h =
    let e = entry_long (plain_at s q) q n (key_at_long s q) in
    omega (arith, length-append (entry_of (plain_at s q) q n) (entries_with s qs ns), e, with_long s qs ns (omega arith))

-- with the counts of the run they are its entries
pub with_are : (s : List ℕ) (f : ℕ → ℕ) → ((q : ℕ) → f q ≡ count_in s q) → (qs : List ℕ) → entries_with s qs (map f qs) ≡ entries_at s qs
unfolding entries_with entries_at
with_are s f is [] = refl
with_are s f is (q ∷ qs) = rw (is q) (ap (λ (l : List ℕ). entry_of (plain_at s q) q (count_in s q) ++ l) (with_are s f is qs))

pub entries_long : (s qs : List ℕ) → length (entries_at s qs) ≡ length qs * 76
entries_long s qs = ap length (sym (with_are s (count_in s) (λ q. refl) qs)) ∙ with_long s qs (map (count_in s) qs) (sym (map_long (count_in s) qs))

module _ (s : List ℕ) (b : Bool) where
  abbrev entry_held : ℕ → List ℕ
  entry_held w = entry_of (plain_at s (w / unit_of b)) (w / unit_of b) (w % unit_of b)

  -- one entry more
  entries_more : (l : List ℕ) (j : ℕ) → j < length l → entries_held s b (take (suc j) l) ≡ entries_held s b (take j l) ++ entry_held (get_or l j 0)
  unfolding entries_with
  entries_more [] j h = absurd (omega arith)
  entries_more (w ∷ l) zero h = append-nil (entry_held w)
  entries_more (w ∷ l) (suc j) h =
      ap (λ (k : List ℕ). entry_held w ++ k) (entries_more l j (omega arith))
      ∙ sym (append_assoc (entry_held w) (entries_held s b (take j l)) _)

  -- a turn of the writer
  pub put_more : (held : List ℕ) (j : ℕ) {o m n : List ℕ} {p r : ℕ} (offset count : ℕ) → j < length held → offset ≡ get_or held j 0 / unit_of b → count ≡ get_or held j 0 % unit_of b
      → Put o 0 (entries_held s b (take j held)) m p → Put m p (entry_of (plain_at s offset) offset count) n r → Put o 0 (entries_held s b (take (j + 1) held)) n r
  put_more held j offset count h e f p q = rw (add-one, entries_more held j h) (put_put p (rw (e, f) at q))

  -- it begins with none
  pub put_none : {o : List ℕ} → Put o 0 (entries_held s b []) o 0
  unfolding entries_with
  put_none = put_nil

  -- and ends with all
  pub put_to : (held : List ℕ) (j : ℕ) {o n : List ℕ} {r : ℕ} → length held ≤ j → Put o 0 (entries_held s b (take j held)) n r → Put o 0 (entries_held s b held) n r
  put_to held j e p = rw take_all at p

-- where two tests don't both hold
chosen_no : {A : Type 0} (a b : Bool) (x y : A) → (a ≡ true → b ≡ true → ⊥) → cond (a && b) x y ≡ y
chosen_no true true x y n = absurd (n refl refl)
chosen_no true false x y n = refl
chosen_no false b x y n = refl

-- how many fit
module _ (s : List ℕ) (held : List ℕ) (old : List ℕ) (room r : ℕ) (is : room ≡ min 1024 (length old / 76)) where
  -- more than there is room for
  pub index_more : (b : Bool) → Gathered s room b held r → room < r → refused Refusal.ShortBuffer old ≡ index_written s old
  unfolding index_written
  index_more b g h =
      let n = g.more h in
      let l = entries_long s (firsts s) in
      sym (chosen_no (leb (length (firsts s)) 1024) (leb (length (index_of s)) (length old)) _ _ (λ e f. too_many n l e f))
    where
      too_many : room < length (firsts s) → length (index_of s) ≡ length (firsts s) * 76 → leb (length (firsts s)) 1024 ≡ true → leb (length (index_of s)) (length old) ≡ true → ⊥
      too_many n l e f = omega (arith, leb-true (length (firsts s)) 1024 e, leb-true (length (index_of s)) (length old) f)

  module _ (b : Bool) (g : Gathered s room b held r) (h : r ≤ room) where
    index_long : length (index_of s) ≡ r * 76
    index_long = entries_long s (firsts s) ∙ ap (λ (i : ℕ). i * 76) (sym (g.all h))

    put_long : length (entries_held s b (take r held)) ≡ length (index_of s)
    put_long =
        let there : r ≤ length held = omega (arith, g.long) in
        let l = places_long b held r there in
        with_long s _ _ (l ∙ sym (counts_long b held r there)) ∙ ap (λ (i : ℕ). i * 76) l ∙ sym index_long

    put_front : {new : List ℕ} {p : ℕ} → Put old 0 (entries_held s b (take r held)) new p → new ≡ entries_held s b (take r held) ++ drop (length (index_of s)) old
    put_front put =
        front_is put (omega (arith, put_long, index_long)) ∙ ap (λ (i : ℕ). entries_held s b (take r held) ++ drop i old) put_long

    -- all of it
    pub index_wrote : {new : List ℕ} → new ≡ index_of s ++ drop (length (index_of s)) old → record { tells = success r; leaves = new } ≡ index_written s old
    unfolding index_written
    index_wrote f =
        let e = g.all h in
        rw (le-leb (length (firsts s)) 1024 (omega (arith, e)), le-leb (length (index_of s)) (length old) (omega (arith, index_long))) (same e f)
      where
        same : {a c : ℕ} {x y : List ℕ} → a ≡ c → x ≡ y → ◌≡◌ {A = Outcome} (record { tells = success a; leaves = x }) (record { tells = success c; leaves = y })
        same d e = cc

    -- where counts are held it is put with them
    pub counted_index : {new : List ℕ} {p : ℕ} → b ≡ true → Put old 0 (entries_held s b (take r held)) new p → new ≡ index_of s ++ drop (length (index_of s)) old
    counted_index e put =
        put_front put
        ∙ ap (λ (l : List ℕ). l ++ drop (length (index_of s)) old)
        (pairs (g.places h) (g.counts h) ∙ with_are s (λ q. count_step b * count_in s q) (λ q. rw e (one-mul (count_in s q))) (firsts s))
      where
        pairs : {q x : List ℕ} {n y : List ℕ} → q ≡ x → n ≡ y → entries_with s q n ≡ entries_with s x y
        pairs d f = cc

    -- where none are held the counts are still to come
    module _ {new : List ℕ} {p : ℕ} (e : b ≡ false) (put : Put old 0 (entries_held s b (take r held)) new p) where
      front_put : take (length (index_of s)) new ≡ entries_held s b (take r held)
      front_put = ap (take (length (index_of s))) (put_front put) ∙ take_at (entries_held s b (take r held)) (drop (length (index_of s)) old) _ put_long

      rest_put : drop (length (index_of s)) new ≡ drop (length (index_of s)) old
      rest_put = ap (drop (length (index_of s))) (put_front put) ∙ drop_at (entries_held s b (take r held)) (drop (length (index_of s)) old) _ put_long

      pub uncounted : Uncounted s held r new
      uncounted =
          record {
            long = omega (arith, g.long);
            places = rw e at (g.places h);
            front = rw e at front_put;
          }

      pub recounted_index : {after : List ℕ} → after ≡ index_of s ++ drop (length (index_of s)) new → after ≡ index_of s ++ drop (length (index_of s)) old
      recounted_index f = f ∙ ap (λ (l : List ℕ). index_of s ++ l) rest_put
