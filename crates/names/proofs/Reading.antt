-- Laws of reading a name part by part. Assumes nothing.
use Prim.Native.Nat.{ℕ, suc, ◌+◌, ◌-◌, ◌≤◌, ◌<◌}
use mathlib.Core.Path.{◌≡◌, refl, sym, ap, ◌∙◌}
use mathlib.Core.List.{List, [], ◌∷◌}
use mathlib.Core.Bool.{Bool, true, false, cond, not, true≢false}
use native.Mathlib.Omega.{arith}
use native.Mathlib.Numerals.{add-one}
use native.Mathlib.Decide.{dec_le}
use lib.Dec.{leb, eqb}
use lib.ListN.{length, get_or, take, drop, set, length-drop}
use lib.Seq.{take_all, drop-drop, length-take-le}
use borrow.Author.Tests.{eq-eqb, ne_eqb, eqb-false, not-true}
use Rattle.std.specs.Bool.{then_some}
use Rattle.std.specs.Option.{SomeIff}
use Rattle.std.proofs.Common.{Option}
use Rattle.laws.proofs.Choice.{chosen_by}
use Rattle.laws.proofs.Tests.{and_both}
use Rattle.answers.specs.declared.Refusal.{Refusal}
use Rattle.reading.specs.Reading.{parse_took, parse_refused}
use Rattle.compare.specs.Compare.{up_to}
use Rattle.compare.proofs.Compare.{up_most}
use Rattle.grammar.specs.Slots as slot
use Rattle.grammar.specs.Made.{made}
use Rattle.grammar.specs.Names.{unnamed_values}
use Rattle.grammar.proofs.Sized.{sized}
use Rattle.parts.specs.declared.Found.{Found}
use Rattle.parts.specs.Recognised.{recognised}
use Rattle.names.specs.Reading.{parts_of, Read, may, step, read_parts, start, read_name}
use Rattle.names.specs.Named.{name_of}
use Rattle.names.proofs.Exact.{sound}

-- a name without a dash is one part
pub parts_last : (s : List ℕ) → length s ≤ up_to 45 s → parts_of s ≡ s ∷ []
unfolding up_to parts_of
parts_last [] = λ h. refl
parts_last (b ∷ s) =
    chosen_by (λ (k : ℕ). suc (length s) ≤ k → parts_of (b ∷ s) ≡ (b ∷ s) ∷ []) (eqb b 45)
    (λ e h. absurd (omega arith))
    (λ e h. rw (e, parts_last s (omega arith)))

-- otherwise the first part ends at the first dash
pub parts_first : (s : List ℕ) → up_to 45 s < length s → parts_of s ≡ take (up_to 45 s) s ∷ parts_of (drop (suc (up_to 45 s)) s)
unfolding up_to parts_of
parts_first [] = λ h. absurd (omega arith)
parts_first (b ∷ s) =
    chosen_by (λ (k : ℕ). k < suc (length s) → parts_of (b ∷ s) ≡ take k (b ∷ s) ∷ parts_of (drop (suc k) (b ∷ s))) (eqb b 45)
    (λ e h. rw e)
    (λ e h. rw (e, parts_first s (omega arith)))

-- one part, and the parts behind it
pub read_more : (r : Read) (at : ℕ) (p : List ℕ) (ps : List (List ℕ)) → read_parts r at (p ∷ ps) ≡ read_parts (step r at p) (at + length p + 1) ps
unfolding read_parts
read_more r at p ps = refl

-- what is refused stays so
pub kept : (o at : ℕ) (ps : List (List ℕ)) → read_parts (Read.refused o) at ps ≡ Read.refused o
unfolding read_parts step
kept o at [] = refl
kept o at (p ∷ ps) = kept o (at + length p + 1) ps

turn : (r : Read) (at : ℕ) (p : List ℕ) (ps : List (List ℕ)) (a : ℕ) (q : List ℕ) (qs : List (List ℕ))
    → p ≡ q → ps ≡ qs → at + length p + 1 ≡ a → read_parts r at (p ∷ ps) ≡ read_parts (step r at q) a qs
turn r at p ps a q qs e f g = read_more r at p ps ∙ rw (← e, ← f, ← g)

-- one turn: the part from at to the next dash, at e
pub read_turn : (r : Read) (s : List ℕ) (at e : ℕ) → at ≤ length s → e ≡ at + up_to 45 (drop at s) → e < length s
    → read_parts r at (parts_of (drop at s)) ≡ read_parts (step r at (take (e - at) (drop at s))) (e + 1) (parts_of (drop (e + 1) s))
read_turn r s at e h q l =
    let k = up_to 45 (drop at s) in
    let d : length (drop at s) ≡ length s - at = length-drop at s in
    let m : k ≡ e - at = omega arith in
    let z : length (take k (drop at s)) ≡ k = length-take-le k (drop at s) (omega arith) in
    let y : at + suc k ≡ e + 1 = omega arith in
    ap (read_parts r at) (parts_first (drop at s) (omega arith))
    ∙ turn r at (take k (drop at s)) (parts_of (drop (suc k) (drop at s))) (e + 1) (take (e - at) (drop at s)) (parts_of (drop (e + 1) s))
    (ap (λ (j : ℕ). take j (drop at s)) m)
    (ap parts_of (drop-drop (suc k) at s ∙ ap (λ (j : ℕ). drop j s) y))
    (omega arith)

-- the last part: no dash is left
pub read_last : (r : Read) (s : List ℕ) (at e : ℕ) → at ≤ length s → e ≡ at + up_to 45 (drop at s) → length s ≤ e
    → read_parts r at (parts_of (drop at s)) ≡ step r at (drop at s)
unfolding read_parts
read_last r s at e h q l = let d : length (drop at s) ≡ length s - at = length-drop at s in rw (parts_last (drop at s) (omega arith))

-- a name that isn't empty and begins with no dash
pub read_all : (s : List ℕ) → (length s ≡ 0 → ⊥) → (get_or s 0 0 ≡ 45 → ⊥) → read_name s ≡ read_parts start 0 (parts_of s)
unfolding read_name
read_all [] h f = absurd (h refl)
read_all (b ∷ s) h f = rw (ne_eqb b 45 f)

-- the empty name
pub read_none : (s : List ℕ) → length s ≡ 0 → read_name s ≡ start
unfolding read_name
read_none [] h = refl
read_none (b ∷ s) h = absurd (omega arith)

-- a name that begins with a dash
pub read_dash : (s : List ℕ) → (length s ≡ 0 → ⊥) → get_or s 0 0 ≡ 45 → read_name s ≡ Read.refused 1
unfolding read_name
read_dash [] h f = absurd (h refl)
read_dash (b ∷ s) h f = rw (eq-eqb b 45 f)

-- a part that can't stand there
pub step_bad : (next : ℕ) (vs : List ℕ) (at : ℕ) (p : List ℕ) → may next (recognised p) ≡ false → step (Read.so_far next vs) at p ≡ Read.refused at
unfolding step
step_bad next vs at p m = rw m

-- one that can
pub step_taken : (next : ℕ) (vs : List ℕ) (at : ℕ) (p : List ℕ) → may next (recognised p) ≡ true
    → step (Read.so_far next vs) at p ≡ Read.so_far (suc (recognised p).slot) (set vs (recognised p).slot (recognised p).value)
unfolding step
step_taken next vs at p m = rw m

-- what may stand somewhere has a value
pub may_value : (next : ℕ) (f : Found) → may next f ≡ true → 1 ≤ f.value
unfolding may
may_value next f e =
    let v = eqb-false f.value 0 (not-true _ (and_both {a = not (eqb f.value 0)} {b = cond (eqb f.slot slot.region) (eqb next slot.region) (leb next f.slot)} e).0) in
    some f.value v
  where
    some : (n : ℕ) → (n ≡ 0 → ⊥) → 1 ≤ n
    some n h = omega arith

-- what has a value may stand where its slot is free
stands_in : (next : ℕ) (f : Found) → 0 < f.value → may next f ≡ cond (eqb f.slot slot.region) (eqb next slot.region) (leb next f.slot)
unfolding may
stands_in next f h = rw (ne_eqb f.value 0 (λ e. omega arith))

-- a part that is kept where it may stand
kept_if : (b : Bool) (next : ℕ) (f : Found) {r : Option Found} → may next f ≡ b → r ≡ then_some b f → SomeIff r (may next f ≡ true) f
kept_if true next f m q = rw q (m, refl)
kept_if false next f m q = rw q (λ h. true≢false (sym h ∙ m))

-- of what has a value, a region
pub stands_region : (next : ℕ) (f g : Found) {r : Option Found} → (0 < g.value) × (f ≡ g) → f.slot ≡ slot.region → r ≡ then_some (eqb next slot.region) f → SomeIff r (may next g ≡ true) g
stands_region next f g (h, e) i q = kept_if (eqb next slot.region) next g (stands_in next g h ∙ rw (← e, eq-eqb f.slot slot.region i)) (rw e at q)

-- and any other part
pub stands_later : (next : ℕ) (f g : Found) {r : Option Found} → (0 < g.value) × (f ≡ g) → (f.slot ≡ slot.region → ⊥) → r ≡ then_some (leb next f.slot) f → SomeIff r (may next g ≡ true) g
stands_later next f g (h, e) n q = kept_if (leb next g.slot) next g (stands_in next g h ∙ rw (← e, ne_eqb f.slot slot.region n)) (rw e at q)

-- its slot is one of the twenty-five
pub may_slot : (next : ℕ) (p : List ℕ) → may next (recognised p) ≡ true → (recognised p).slot ≤ 24
may_slot next p e = (sized (sound p (may_value next (recognised p) e))).placed

-- and so is the slot of what was found of a part
pub found_slot : (next : ℕ) (p : List ℕ) {f : Found} → f ≡ recognised p → may next f ≡ true → f.slot ≤ 24
found_slot next p {f} g m = let h = may_slot next p (rw g at m) in omega (arith, h, ap (λ (x : Found). x.slot) g)

-- what reading comes to
pub name_refused : (s : List ℕ) (o : ℕ) → read_name s ≡ Read.refused o → parse_refused (Refusal.NotAName o) ≡ name_of s
name_refused s o e = rw e

pub name_read : (s : List ℕ) (next : ℕ) (vs : List ℕ) → read_name s ≡ Read.so_far next vs → parse_took (length s) (made vs) ≡ name_of s
name_read s next vs e = rw e

pub name_empty : (s : List ℕ) → length s ≡ 0 → parse_took 0 (made unnamed_values) ≡ name_of s
name_empty s h = ap (λ (n : ℕ). parse_took n (made unnamed_values)) (sym h) ∙ name_read s 0 unnamed_values (read_none s h)

-- a part that begins within s ends there
pub within : (s : List ℕ) (at e : ℕ) → at ≤ length s → e ≡ at + up_to 45 (drop at s) → e ≤ length s
within s at e l q = omega (arith, up_most 45 (drop at s), length-drop at s)

-- behind a part of k bytes less is left
pub less_left : (n at e k : ℕ) → e ≡ at + k → e ≤ n → (e ≡ n → ⊥) → n - (e + 1) < n - at
less_left n at e k q l d = omega arith

-- the code's ways, where s was read up to offset at, with the slots from next on free: the part there ends at e, and f is what it is
module _ (s vs : List ℕ) (next at e : ℕ) (f : Found) (so : read_name s ≡ read_parts (Read.so_far next vs) at (parts_of (drop at s))) (l : at ≤ length s)
    (q : e ≡ at + up_to 45 (drop at s)) (g : f ≡ recognised (take (e - at) (drop at s))) where
  -- a part that may stand there is taken
  took : may next f ≡ true → step (Read.so_far next vs) at (take (e - at) (drop at s)) ≡ Read.so_far (f.slot + 1) (set vs f.slot f.value)
  took m = step_taken next vs at (take (e - at) (drop at s)) (rw g at m) ∙ rw (← g, add-one f.slot)

  -- no more parts are left
  last : length s ≤ e → read_name s ≡ step (Read.so_far next vs) at (take (e - at) (drop at s))
  last h =
      let whole = take_all (e - at) (drop at s) (omega (arith, length-drop at s)) in
      so ∙ read_last (Read.so_far next vs) s at e l q h ∙ ap (step (Read.so_far next vs) at) (sym whole)

  -- more are left
  more : e < length s → read_name s ≡ read_parts (step (Read.so_far next vs) at (take (e - at) (drop at s))) (e + 1) (parts_of (drop (e + 1) s))
  more h = so ∙ read_turn (Read.so_far next vs) s at e l q h

  -- the part is taken, and more are left
  pub goes_on : e < length s → may next f ≡ true → read_name s ≡ read_parts (Read.so_far (f.slot + 1) (set vs f.slot f.value)) (e + 1) (parts_of (drop (e + 1) s))
  goes_on h m = more h ∙ ap (λ (r : Read). read_parts r (e + 1) (parts_of (drop (e + 1) s))) (took m)

  -- or it is the last
  pub ends : e ≡ length s → may next f ≡ true → read_name s ≡ Read.so_far (f.slot + 1) (set vs f.slot f.value)
  ends h m = last (omega arith) ∙ took m

  -- or it is refused
  pub stops : may next f ≡ false → read_name s ≡ Read.refused at
  stops m =
      let bad = step_bad next vs at (take (e - at) (drop at s)) (rw g at m) in
      elim (dec_le (length s) e) [
        | yes h ↦ last h ∙ bad
        | no h ↦ more (omega arith) ∙ ap (λ (r : Read). read_parts r (e + 1) (parts_of (drop (e + 1) s))) bad ∙ kept at (e + 1) (parts_of (drop (e + 1) s))
      ]
