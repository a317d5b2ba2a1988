-- Bytes held against a key, the key that is put, and what is found at a place. Assumes nothing.
use Prim.Native.Nat.{ℕ, ◌+◌, ◌*◌, ◌≤◌, ◌<◌}
use mathlib.Core.Path.{◌≡◌, refl, sym, ap, ◌∙◌}
use mathlib.Core.List.{List, [], ◌∷◌, ◌++◌, append-nil}
use mathlib.Core.Bool.{Bool, true, false, true≢false}
use native.Mathlib.Numerals.{add-one}
use native.Mathlib.Omega.{arith}
use lib.ListN.{length, get_or, drop, drop_of_length-le}
use lib.Seq.{drop-cons, get_or-take, get_or-drop}
use borrow.Author.Tests.{eq-eqb, eqb-true, lt-ltb, le-ltb}
use Rattle.std.specs.Prelude.{Option, None, Some}
use Rattle.laws.proofs.Tests.{and_both, not_yes}
use Rattle.laws.proofs.Least.{NoneBelow, Least, least_is, least_none}
use Rattle.laws.proofs.Lists.{part_long}
use Rattle.buffer.specs.Put.{Put}
use Rattle.buffer.proofs.Putting.{front_is}
use Rattle.record.specs.Table.{part}
use Rattle.record.specs.declared.ResTableConfig.{ResTableConfig}
use Rattle.order.specs.Order.{agree}
use Rattle.keys.specs.Keys.{key_of, Sound}
use Rattle.keys.proofs.KeyOrder.{key_long}
use Rattle.finding.specs.Finding.{whole_in, has_key, place_of, found_at, find_of}

-- lists that agree are one
agree_true : (s t : List ℕ) → agree s t ≡ true → s ≡ t
agree_true [] [] e = refl
agree_true [] (y ∷ t) e = absurd (true≢false (sym e))
agree_true (x ∷ s) [] e = absurd (true≢false (sym e))
agree_true (x ∷ s) (y ∷ t) e =
    let b = and_both e in
    let p = eqb-true x y b.0 in
    let q = agree_true s t b.1 in
    cc

-- sixty bytes of e from offset at on, held against a key
module _ (e : List ℕ) (at : ℕ) (k : List ℕ) where
  byte_of : (i : ℕ) → i < 60 → get_or (part e at 60) i 0 ≡ get_or e (at + i) 0
  byte_of i h = get_or-take 60 (drop at e) i 0 h ∙ get_or-drop at e i 0

  -- one byte that differs is enough
  pub byte_apart : (i : ℕ) → i < 60 → (get_or e (at + i) 0 ≡ get_or k i 0 → ⊥) → agree (part e at 60) k ≡ false
  byte_apart i h d =
      not_yes (agree (part e at 60) k) (λ p. d (sym (byte_of i h) ∙ ap (λ (l : List ℕ). get_or l i 0) (agree_true (part e at 60) k p)))

  module _ (there : at + 60 ≤ length e) (long : length k ≡ 60) where
    -- one byte that doesn't, and the rest
    pub byte_passed : (i : ℕ) → i < 60 → get_or e (at + i) 0 ≡ get_or k i 0
        → agree (drop i (part e at 60)) (drop i k) ≡ agree (drop (i + 1) (part e at 60)) (drop (i + 1) k)
    byte_passed i h q =
        let g : i < length (part e at 60) = omega (arith, part_long e at 60 there) in
        let l : i < length k = omega arith in
        rw (drop-cons (part e at 60) i 0 g, drop-cons k i 0 l, add-one, eq-eqb _ _ (byte_of i h ∙ q))

    -- all bytes are passed
    pub all_passed : (i : ℕ) → 60 ≤ i → agree (drop i (part e at 60)) (drop i k) ≡ true
    all_passed i h =
        let g : length (part e at 60) ≤ i = omega (arith, part_long e at 60 there) in
        let l : length k ≤ i = omega arith in
        rw (drop_of_length-le (part e at 60) g, drop_of_length-le k l)

-- what is found from looking at one entry after the other
module _ (e k : List ℕ) where
  pub place_found : (i : ℕ) → i < whole_in e → Least (has_key e k) i → Some i ≡ found_at (whole_in e) (place_of e k)
  unfolding place_of
  place_found i h l = rw (least_is (whole_in e) (has_key e k) i h l, lt-ltb i (whole_in e) h)

  pub place_none : NoneBelow (has_key e k) (whole_in e) → None ≡ found_at (whole_in e) (place_of e k)
  unfolding place_of
  place_none h = rw (least_none (whole_in e) (has_key e k) h, le-ltb (whole_in e) (whole_in e) (omega arith))

  -- an entry has the key as its sixty bytes agree with it
  pub entry_agrees : (i : ℕ) {b : Bool} → agree (part e (76 * i) 60) k ≡ b → has_key e k i ≡ b
  unfolding has_key
  entry_agrees i p = p

-- a record's key, put into sixty bytes
pub key_filled : (r : ResTableConfig) {old new : List ℕ} {n : ℕ} → Sound r → length old ≡ 60 → Put old 0 (key_of r) new n → new ≡ key_of r
key_filled r {old} s h p =
    let l = key_long r s in
    front_is p (omega arith) ∙ ap (λ (w : List ℕ). key_of r ++ w) (drop_of_length-le old {i = length (key_of r)} (omega arith)) ∙ append-nil (key_of r)

-- what is found by the key is what is found of the record
pub found_by_key : (e : List ℕ) (r : ResTableConfig) {k : List ℕ} {found : Option ℕ} → k ≡ key_of r
    → found ≡ found_at (whole_in e) (place_of e k) → found ≡ find_of e r
unfolding find_of
found_by_key e r key h = rw key at h
