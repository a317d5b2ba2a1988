-- What is said of the values that rising parts leave: the parts, in their order. Assumes nothing.
use Prim.Native.Nat.{ℕ, zero, suc, ◌+◌, ◌≤◌, ◌<◌}
use mathlib.Core.Path.{◌≡◌, refl, sym, ap, ◌∙◌}
use mathlib.Core.List.{List, [], ◌∷◌}
use native.Mathlib.Omega.{arith}
use native.Mathlib.Decide.{ℕ_discrete}
use lib.ListN.{set, length, length-set}
use lib.Seq.{get_or-set_same, get_or-set_other}
use Rattle.places.specs.Say.{Place}
use Rattle.grammar.specs.Rows.{Has}
use Rattle.grammar.specs.Names.{Part, Follows, Rising, part_bytes, values_after}
use Rattle.grammar.specs.Made.{at}
use Rattle.grammar.specs.Slots as slot
use Rattle.grammar.proofs.Sized.{sized}
use Rattle.grammar.proofs.Said.{said_words, say_silent, say_said}
use Rattle.grammar.proofs.Placed.{place_at, has_said, silent}

-- what follows isn't earlier
follows_le : {next s : ℕ} → Follows next s → next ≤ s
follows_le Follows.region = omega arith
follows_le (Follows.later f l) = l

-- later parts leave earlier slots alone
below : (ps : List Part) (next s : ℕ) (vs : List ℕ) → Rising next ps → s < next → at (values_after vs ps) s ≡ at vs s
below [] next s vs r h = refl
below (p ∷ ps) next s vs (Rising.then f r) h =
    let l = follows_le f in
    below ps (suc p.slot) s (set vs p.slot p.value) r (omega arith) ∙ get_or-set_other vs p.slot s p.value 0 (λ e. omega arith)

-- what is said of n slots, the first of which is s
unfoldable pub slots_from : ℕ → ℕ → List ℕ → List Place
slots_from s zero vs = []
slots_from s (suc n) vs = place_at s (at vs s) ∷ slots_from (suc s) n vs

-- a part of another slot than the next may as well stand one later
later_still : {next s : ℕ} → Follows next s → (s ≡ next → ⊥) → Follows (suc next) s
later_still Follows.region h = absurd (h refl)
later_still (Follows.later {next = next} {s = s} f l) h = let k : suc next ≤ s = omega arith in Follows.later f k

-- what is said of the slots from next on, where nothing stands yet, is what rising parts put there
pub gathered : (n next : ℕ) (ps : List Part) (vs : List ℕ) → next + n ≡ slot.slots → Rising next ps → length vs ≡ slot.slots
    → ((s : ℕ) → next ≤ s → at vs s ≡ 0) → said_words (slots_from next n (values_after vs ps)) ≡ part_bytes ps
unfolding slots_from said_words
gathered zero next [] vs e r l z = refl
gathered zero next (p ∷ ps) vs e (Rising.then f r) l z = absurd (omega (arith, follows_le f, (sized p.has).placed))
gathered (suc n) next [] vs e r l z =
    say_silent (place_at next (at vs next)) (slots_from (suc next) n vs) (ap (λ (v : ℕ). (place_at next v).0) (z next (omega arith)) ∙ silent next)
    ∙ gathered n (suc next) [] vs (omega arith) Rising.end l (λ s h. z s (omega arith))
gathered (suc n) next (p ∷ ps) vs e (Rising.then f r) l z =
    elim (ℕ_discrete p.slot next) [
      | yes g ↦
          let us = set vs p.slot p.value in
          let v : at (values_after us ps) next ≡ p.value =
          rw (← g) (below ps (suc p.slot) p.slot us r (omega arith) ∙ get_or-set_same vs p.slot p.value 0 (omega (arith, (sized p.has).placed))) in
          say_said (place_at next (at (values_after us ps) next)) p.bytes (slots_from (suc next) n (values_after us ps)) (rw (v, ← g) (has_said p.has))
          ∙ ap (λ (t : List (List ℕ)). p.bytes ∷ t)
          (gathered n (suc next) ps us (omega arith) (rw g at r) (length-set vs p.slot p.value ∙ l)
          (λ s h. get_or-set_other vs p.slot s p.value 0 (λ d. omega arith) ∙ z s (omega arith)))
      | no g ↦
          let w = later_still f g in
          say_silent (place_at next (at (values_after vs (p ∷ ps)) next)) (slots_from (suc next) n (values_after vs (p ∷ ps)))
          (ap (λ (v : ℕ). (place_at next v).0) (below (p ∷ ps) (suc next) next vs (Rising.then w r) (omega arith) ∙ z next (omega arith)) ∙ silent next)
          ∙ gathered n (suc next) (p ∷ ps) vs (omega arith) (Rising.then w r) l (λ s h. z s (omega arith))
    ]

-- slot s has a part whose value is v
pub record Held (s v : ℕ) : Type 0 where
  pub bytes : List ℕ
  pub has : Has s v bytes

-- a language was put
abbrev Language : List ℕ → Type 0
Language vs = Held slot.language (at vs slot.language)

-- where there is a region, a language was put
abbrev pub Led : List ℕ → Type 0
Led vs = 1 ≤ at vs slot.region → Language vs

-- a part that isn't the language: a region follows a language, and another part puts no region
led_other : {next s : ℕ} (v : ℕ) (vs : List ℕ) → Follows next s → Led vs → (next ≡ slot.region → Language vs)
    → 1 ≤ at (set vs s v) slot.region → Language vs
led_other v vs Follows.region h g = λ z. g refl
led_other v vs (Follows.later {s = s} f l) h g = λ z. h (omega (arith, get_or-set_other vs s slot.region v 0 (λ e. f (sym e))))

-- so it stays with each part, and where the next slot is the region's, a language was just put
led_by : {next : ℕ} (p : Part) (vs : List ℕ) → Follows next p.slot → length vs ≡ slot.slots → Led vs → (next ≡ slot.region → Language vs)
    → Led (set vs p.slot p.value) × (suc p.slot ≡ slot.region → Language (set vs p.slot p.value))
led_by p vs f l h g =
    elim (ℕ_discrete slot.language p.slot) [
      | yes e ↦
          let u : at (set vs p.slot p.value) slot.language ≡ p.value = rw e (get_or-set_same vs p.slot p.value 0 (omega arith)) in
          let q : Language (set vs p.slot p.value) = record { bytes = p.bytes; has = rw (u, e) p.has } in
          (λ z. q, λ z. q)
      | no e ↦
          let u : at (set vs p.slot p.value) slot.language ≡ at vs slot.language = get_or-set_other vs p.slot slot.language p.value 0 e in
          (λ z. rw u (led_other p.value vs f h g z), λ z. absurd (omega arith))
    ]

-- after all parts too
pub led : (ps : List Part) (next : ℕ) (vs : List ℕ) → Rising next ps → length vs ≡ slot.slots → Led vs → (next ≡ slot.region → Language vs)
    → Led (values_after vs ps)
led [] next vs r l h g = h
led (p ∷ ps) next vs (Rising.then f r) l h g =
    let q = led_by p vs f l h g in
    led ps (suc p.slot) (set vs p.slot p.value) r (length-set vs p.slot p.value ∙ l) q.0 q.1
