-- What is told of what is found, and what of the entries is looked at. Assumes nothing.
use Prim.Native.Nat.{ℕ, ◌+◌, ◌≤◌, ◌<◌, min}
use mathlib.Core.Path.{◌≡◌, sym, ap, ◌∙◌}
use mathlib.Core.List.{List}
use native.Mathlib.Omega.{arith}
use native.Mathlib.Decide.{dec_le}
use lib.Dec.{ltb, lit<}
use lib.ListN.{length, take, length-take}
use lib.Seq.{take_all}
use borrow.Author.Tests.{ltb-true}
use Rattle.laws.proofs.Choice.{chosen_by}
use Rattle.answers.specs.declared.Refusal.{Refusal}
use Rattle.std.specs.Prelude.{Option, Some, Ok, Err}
use Rattle.answers.specs.declared.Told.{Told}
use Rattle.answers.specs.Tells.{success, refusal}
use Rattle.record.specs.declared.ResTableConfig.{ResTableConfig}
use Rattle.keys.specs.Keys.{key_of}
use Rattle.reading.specs.declared.Parsed.{Parsed}
use Rattle.reading.specs.Reading.{ParseOutcome, parsed_outcome, parse_of, take_of, plain}
use Rattle.reading.proofs.Exactly.{parse_tells}
use Rattle.reading.proofs.Whole.{took_whole, refused_whole}
use Rattle.finding.specs.Finding.{whole_in, place_of, find_of, found_tells, looked_at, find_told}

-- what holds of every success below 2^32 holds of what is found among so many entries
found_by : (P : Told → Type 0) → ((n : ℕ) → n < 4294967296 → P (success n)) → (e : List ℕ) (r : ResTableConfig) → length e ≤ looked_at
    → P (found_tells (find_of e r))
unfolding find_of
found_by P good e r h =
    let place = place_of e (key_of r) in
    chosen_by (λ (f : Option ℕ). P (found_tells f)) (ltb place (whole_in e))
    (λ t. good (1 + place) (omega (arith, ltb-true place (whole_in e) t)))
    (λ t. good 0 (lit< tt))

-- so it does of what a call finds that looks at no more
pub found_small : (P : Told → Type 0) → ((n : ℕ) → n < 4294967296 → P (success n)) → (e : List ℕ) (r : ResTableConfig)
    → P (found_tells (find_of (take looked_at e) r))
found_small P good e r = found_by P good (take looked_at e) r (omega (arith, length-take looked_at e))

-- and its place is small
pub place_small : (e : List ℕ) (r : ResTableConfig) (place : ℕ) → find_of (take looked_at e) r ≡ Some place → place < 4294967296
place_small e r place h =
    let small = found_small (λ t. t.amount < 4294967296) (λ n g. g) e r in
    let z : (found_tells (Some place)).amount < 4294967296 = rw h at small in
    omega (arith, z)

-- up to the lesser of a bound and the end
pub take_lesser : (e : List ℕ) (m n : ℕ) → n ≡ min m (length e) → take n e ≡ take m e
take_lesser e m n h =
    elim (dec_le m (length e)) [
      | yes l ↦ let g : n ≡ m = omega arith in ap (λ (i : ℕ). take i e) g
      | no l ↦ take_all n e (omega arith) ∙ sym (take_all m e (omega arith))
    ]

-- a parse of s, and entries
module _ (e s : List ℕ) where
  tells : (o : ParseOutcome) → o ≡ parse_of s → o.tells ≡ take_of s
  tells o q = ap (λ (o : ParseOutcome). o.tells) q ∙ parse_tells s

  -- it was refused, and so is the call
  pub parse_refused : (why : Refusal) → parsed_outcome (Err why) ≡ parse_of s → refusal why ≡ find_told e s
  unfolding find_told
  parse_refused why q = sym (refused_whole s _ _ why (tells _ q))

  -- it wasn't, and its record is looked for
  pub parse_took : (p : Parsed) → parsed_outcome (Ok p) ≡ parse_of s → found_tells (find_of (take looked_at e) p.«record») ≡ find_told e s
  unfolding find_told
  parse_took p q =
      let took : success p.taken ≡ take_of s = tells _ q in
      rw (took_whole s refusal (found_tells (find_of (take looked_at e) (plain s))) p.taken took, ap (λ (o : ParseOutcome). o.gives) (q ∙ took_whole s _ _ p.taken took))
