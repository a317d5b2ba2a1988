-- The refusals of the parse, then what is found. Assumes nothing.
use Prim.Native.Nat.{ℕ}
use mathlib.Core.Path.{◌≡◌, sym, ap, ◌∙◌}
use mathlib.Core.List.{List}
use borrow.Author.Rules.{rules}
use Rattle.answers.proofs.Passed.{passed_on}
use Rattle.finding.specs.Finding.{find_of, found_tells, sought_tells, looked_at}
use Rattle.finding.proofs.Telling.{place_small, take_lesser, parse_refused, parse_took}
use Rattle.finding.proofs.find_in.Goals as goal

pub returns-in_err-parsed : goal.returns-in_err-parsed
returns-in_err-parsed c = ap sought_tells (passed_on c.from_residual.ensures.1) ∙ parse_refused c.args.entries.now c.args.bytes.now _ c.in_err-parsed.ensures

pub map-requires : goal.map-requires
map-requires c = λ place is known known-2. record {
  fits = place_small c.args.entries.now _ place (rw (take_lesser c.args.entries.now looked_at _ c.lesser-n.ensures) at (sym c.find-place.ensures ∙ is));
}

pub returns : goal.returns
returns c = let same : c.map.result ≡ c.find-place.result = search rules in
    ap found_tells (same ∙ c.find-place.ensures)
    ∙ ap (λ (t : List ℕ). found_tells (find_of t c.in_ok-parsed.parsed.«record»)) (take_lesser c.args.entries.now looked_at _ c.lesser-n.ensures)
    ∙ parse_took c.args.entries.now c.args.bytes.now c.in_ok-parsed.parsed c.in_ok-parsed.ensures
