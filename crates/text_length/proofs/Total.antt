-- What places add to a text, and how long it is with them. Assumes nothing.
use Prim.Native.Nat.{ℕ, suc, ◌+◌, ◌-◌}
use mathlib.Core.Path.{◌≡◌, refl, sym, ◌∙◌}
use mathlib.Core.Bool.{Bool, true, false, cond, not, true≢false}
use mathlib.Core.List.{List, [], ◌∷◌, ◌++◌}
use native.Mathlib.Omega.{arith}
use lib.Dec.{eqb}
use lib.ListN.{length, length-append}
use borrow.Author.Tests.{ne_eqb}
use Rattle.laws.proofs.Lists.{Each}
use Rattle.buffer.specs.Ascii.{ascii}
use Rattle.buffer.specs.Decimal.{decimal}
use Rattle.places.specs.Places.{some, minor_words, label_place, dp_place}
use Rattle.places.specs.Say.{Place, say, dash_after, say_all}

-- a place adds a dash and its words where it is said
abbrev pub cost : Place → ℕ
cost p = cond p.0 (1 + length p.1) 0

-- places in a row add what each adds
abbrev pub total : List Place → ℕ
total [] = 0
total (p ∷ ps) = cost p + total ps

-- a place makes a text that isn't empty so much longer, if the places behind it do
adds_by : (b : ℕ) (t : List ℕ) (said : Bool) (w : List ℕ) (ps : List Place)
    → ((u : List ℕ) → length (say_all (b ∷ u) ps) ≡ suc (length u) + total ps)
    → length (say_all (say (b ∷ t) said w) ps) ≡ suc (length t) + (cost (said, w) + total ps)
unfolding say dash_after
adds_by b t false w ps h = omega (arith, h t)
adds_by b t true w ps h = omega (arith, h (t ++ ascii "-" ++ w), length-append (t ++ ascii "-") w, length-append t (ascii "-"))

-- and so do places in a row
pub all_adds : (b : ℕ) (t : List ℕ) (ps : List Place) → length (say_all (b ∷ t) ps) ≡ suc (length t) + total ps
unfolding say_all
all_adds b t [] = omega arith
all_adds b t (p ∷ ps) = adds_by b t p.0 p.1 ps (λ u. all_adds b u ps)

-- places add n: so much longer is what they say behind a dash
abbrev pub Adds : ℕ → List Place → Type 0
Adds n ps = suc n ≡ length (say_all (ascii "-") ps)

-- this is their total, and nothing else is
pub adds_total : {n : ℕ} (ps : List Place) → Adds n ps → n ≡ total ps
adds_total ps h = omega (arith, h, all_adds 45 [] ps)

pub total_adds : {n : ℕ} (ps : List Place) → n ≡ total ps → Adds n ps
total_adds ps h = omega (arith, h, all_adds 45 [] ps)

-- the total of places behind places
total_append : (ps qs : List Place) → total (ps ++ qs) ≡ total ps + total qs
total_append [] qs = omega arith
total_append (p ∷ ps) qs = omega (arith, total_append ps qs)

-- places behind places
pub adds_both : {m n : ℕ} (ps qs : List Place) → Adds m ps → Adds n qs → Adds (m + n) (ps ++ qs)
adds_both ps qs f g = total_adds (ps ++ qs) (omega (arith, adds_total ps f, adds_total qs g, total_append ps qs))

-- and between places
pub adds_between : {m n : ℕ} (ps qs between : List Place) → Adds m (ps ++ qs) → Adds n between → Adds (m + n) (ps ++ between ++ qs)
adds_between ps qs between f g =
    total_adds (ps ++ between ++ qs)
    (omega (arith, adds_total (ps ++ qs) f, adds_total between g, total_append ps qs, total_append (ps ++ between) qs, total_append ps between))

-- one place that is said, and one that is not
pub said_adds : {n : ℕ} (p : Place) → p.0 ≡ true → n ≡ 1 + length p.1 → Adds n (p ∷ [])
said_adds p e h = total_adds (p ∷ []) (rw e (omega (arith, h)))

pub silent_adds : (p : Place) → p.0 ≡ false → Adds 0 (p ∷ [])
silent_adds p e = total_adds (p ∷ []) (rw e refl)

-- a number behind fixed words, and a number of dp
number_adds : {k : ℕ} (said : Bool) (w : List ℕ) (n : ℕ) → k ≡ cond said n 0 → n ≡ 1 + length w → Adds k ((said, w) ∷ [])
number_adds true w n h e = said_adds (true, w) refl (h ∙ e)
number_adds false w n h e = rw h (silent_adds (false, w) refl)

pub label_adds : {k : ℕ} (front : List ℕ) (n : ℕ) → k ≡ cond (some n) (suc (length front) + length (decimal n)) 0 → Adds k (label_place front n ∷ [])
label_adds front n h = number_adds (some n) (front ++ decimal n) _ h (omega (arith, length-append front (decimal n)))

pub dp_adds : {k : ℕ} (front : List ℕ) (n : ℕ) → k ≡ cond (some n) (suc (length front + 2) + length (decimal n)) 0 → Adds k (dp_place front n ∷ [])
dp_adds front n h =
    number_adds (some n) (front ++ decimal n ++ ascii "dp") _ h (omega (arith, length-append (front ++ decimal n) (ascii "dp"), length-append front (decimal n)))

-- whether there are words
abbrev pub some_words : List ℕ → Bool
some_words [] = false
some_words (b ∷ w) = true

-- a place has words where it is said
abbrev pub Worded : Place → Type 0
Worded p = cond p.0 (some_words p.1) true ≡ true

-- how long a text of front bytes is with places that add n: where it was empty, the first that is said has no dash
abbrev pub joined : ℕ → ℕ → ℕ
joined front n = cond (eqb front 0) (n - 1) (front + n)

-- behind something all of it is added
joined_more : (t n : ℕ) → joined (suc t) n ≡ suc t + n
joined_more t n = rw (ne_eqb (suc t) 0 (λ e. omega arith))

-- one place, with words or not
one_by : (t : List ℕ) (said : Bool) (w : List ℕ) → length (say t said w) ≡ joined (length t) (cost (said, w))
unfolding say dash_after
one_by [] false w = refl
one_by [] true w = omega arith
one_by (b ∷ t) false w = omega (arith, joined_more (length t) 0)
one_by (b ∷ t) true w = omega (arith, joined_more (length t) (1 + length w), length-append (b ∷ t ++ ascii "-") w, length-append (b ∷ t) (ascii "-"))

pub one_joined : (t : List ℕ) (p : Place) → length (say_all t (p ∷ [])) ≡ joined (length t) (cost p)
unfolding say_all
one_joined t p = one_by t p.0 p.1

-- and one that is alone
pub alone_adds : {n : ℕ} (p : Place) → Adds n (p ∷ []) → length (say_all [] (p ∷ [])) ≡ joined 0 n
alone_adds p h = omega (arith, one_joined [] p, adds_total (p ∷ []) h)

-- the first place that is said and has words starts the text, with no dash
first_by : (said : Bool) (w : List ℕ) (ps : List Place) → Worded (said, w) → length (say_all [] ps) ≡ total ps - 1
    → length (say_all (say [] said w) ps) ≡ cost (said, w) + total ps - 1
unfolding say dash_after
first_by false w ps k h = omega (arith, h)
first_by true [] ps k h = absurd (true≢false (sym k))
first_by true (b ∷ w) ps k h = omega (arith, all_adds b w ps)

first : (ps : List Place) → Each Worded ps → length (say_all [] ps) ≡ total ps - 1
unfolding say_all
first [] h = refl
first (p ∷ ps) h = first_by p.0 p.1 ps h.0 (first ps h.1)

-- places that have words where they are said
pub all_joined : (t : List ℕ) (ps : List Place) → Each Worded ps → length (say_all t ps) ≡ joined (length t) (total ps)
all_joined [] ps h = first ps h
all_joined (b ∷ t) ps h = all_adds b t ps ∙ sym (joined_more (length t) (total ps))

-- places that have words, one that need have none, and again such that have
pub three_joined : (ps : List Place) (q : Place) (qs : List Place) {a m l : ℕ} → Each Worded ps → Each Worded qs
    → Adds a ps → Adds m (q ∷ []) → Adds l qs → length (say_all (say_all (say_all [] ps) (q ∷ [])) qs) ≡ joined (joined (joined 0 a) m) l
three_joined ps q qs {a} {m} {l} first last f g h =
    let one : m ≡ cost q = omega (arith, adds_total (q ∷ []) g) in
    rw (all_joined (say_all (say_all [] ps) (q ∷ [])) qs last, one_joined (say_all [] ps) q, all_joined [] ps first, adds_total ps f, one, adds_total qs h)

-- a minor version adds its dot and digits
minor_by : (none : Bool) (w : List ℕ) → length (cond none [] (ascii "." ++ w)) ≡ cond (not none) (1 + length w) 0
minor_by true w = refl
minor_by false w = omega arith

pub minor_long : (m : ℕ) → length (minor_words m) ≡ cond (some m) (1 + length (decimal m)) 0
minor_long m = minor_by (eqb m 0) (decimal m)
