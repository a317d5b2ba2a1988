-- Laws of said places. Assumes nothing.
use Prim.Native.Nat.{ℕ}
use mathlib.Core.Path.{◌≡◌, refl, ◌∙◌}
use mathlib.Core.Bool.{Bool, true, false}
use mathlib.Core.List.{List, [], ◌∷◌, ◌++◌, append_assoc}
use native.Mathlib.Omega.{arith}
use borrow.Author.Tests.{lt-ltb, eq-eqb, ne_eqb}
use Rattle.buffer.specs.Put.{Put}
use Rattle.buffer.proofs.Putting.{put_put, put_nil, put_same, put_past, put_stays, put_moves}
use Rattle.places.specs.Say.{say, dash_after, dash_at, Place, say_all, Says}
use Rattle.places.specs.Places.{some}

-- the dash that offset at asks for, and then the words
joined : (base t w : List ℕ) {o : List ℕ} {at : ℕ} {n : List ℕ} {r : ℕ}
    → Put base 0 t o at → Put o at (dash_at at ++ w) n r → Put base 0 (t ++ dash_after t ++ w) n r
unfolding dash_after
joined base [] w p q = rw (put_stays p) at (put_put p q)
joined [] (b ∷ t) w p q = put_past _ (omega arith) (put_put p q)
joined (x ∷ base) (b ∷ t) w {at = at} p q = rw append_assoc (rw (lt-ltb 0 at (put_moves (omega arith) p)) at (put_put p q))

-- a place that is said, its dash and words put at once
pub dashed_said : {o : List ℕ} {at : ℕ} {said : Bool} {w : List ℕ} {n : List ℕ} {r : ℕ}
    → said ≡ true → Put o at (dash_at at ++ w) n r → Says o at ((said, w) ∷ []) n r
unfolding say_all say
dashed_said {w = w} e q = record { keeps = put_same q; goes = λ base t p. rw e (joined base t w p q) }

-- the dash first, and then the words
pub place_said : {o : List ℕ} {at : ℕ} {said : Bool} {m : List ℕ} {a : ℕ} {w : List ℕ} {n : List ℕ} {r : ℕ}
    → said ≡ true → Put o at (dash_at at) m a → Put m a w n r → Says o at ((said, w) ∷ []) n r
place_said e d q = dashed_said e (put_put d q)

-- one that is not
pub place_silent : {o : List ℕ} {at : ℕ} {said : Bool} (w : List ℕ) → said ≡ false → Says o at ((said, w) ∷ []) o at
unfolding say_all say
place_silent w e = record { keeps = refl; goes = λ base t p. rw e p }

-- a number that isn't 0 is said, and one that is 0 is not
pub some_said : (n : ℕ) → (n ≡ 0 → ⊥) → some n ≡ true
some_said n h = rw (ne_eqb n 0 h)

pub none_said : (n : ℕ) → n ≡ 0 → some n ≡ false
none_said n h = rw (eq-eqb n 0 h)

-- places after a place
pub says_more : {o : List ℕ} {at : ℕ} {p : Place} {m : List ℕ} {a : ℕ} {ps : List Place} {n : List ℕ} {r : ℕ}
    → Says o at (p ∷ []) m a → Says m a ps n r → Says o at (p ∷ ps) n r
unfolding say_all
says_more {p = p} f g = record { keeps = g.keeps ∙ f.keeps; goes = λ base t h. g.goes base (say t p.0 p.1) (f.goes base t h) }

all_append : (t : List ℕ) (ps qs : List Place) → say_all t (ps ++ qs) ≡ say_all (say_all t ps) qs
unfolding say_all
all_append t [] qs = refl
all_append t (p ∷ ps) qs = all_append (say t p.0 p.1) ps qs

-- and places after places
pub says_both : {o : List ℕ} {at : ℕ} {ps : List Place} {m : List ℕ} {a : ℕ} {qs : List Place} {n : List ℕ} {r : ℕ}
    → Says o at ps m a → Says m a qs n r → Says o at (ps ++ qs) n r
says_both {ps = ps} {qs = qs} f g =
    record { keeps = g.keeps ∙ f.keeps; goes = λ base t h. rw all_append (g.goes base (say_all t ps) (f.goes base t h)) }

-- all the places, from an empty text on
pub said_all : {o : List ℕ} {ps : List Place} {n : List ℕ} {r : ℕ} → Says o 0 ps n r → Put o 0 (say_all [] ps) n r
said_all {o} f = f.goes o [] put_nil

-- and places behind a text of places
pub said_more : {o : List ℕ} (ps : List Place) {m : List ℕ} {a : ℕ} {qs : List Place} {n : List ℕ} {r : ℕ}
    → Put o 0 (say_all [] ps) m a → Says m a qs n r → Put o 0 (say_all [] (ps ++ qs)) n r
said_more {o} ps p g = rw all_append (g.goes o (say_all [] ps) p)
