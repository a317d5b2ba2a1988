-- Whatever stands at an offset, its record is as records of a program are. Assumes nothing.
use Prim.Native.Nat.{ℕ, ◌≤◌}
use mathlib.Core.Path.{◌≡◌, refl, sym, ap, subst}
use mathlib.Core.List.{List}
use lib.ListN.{length, drop}
use Rattle.record.specs.Blank.{blank_record}
use Rattle.record.specs.Shape.{Shaped}
use Rattle.record.specs.declared.ResTableConfig.{ResTableConfig}
use Rattle.reading.specs.Reading.{ParseOutcome, taken, plain, parse_refused, parse_took}
use Rattle.reading.proofs.Shapes.{shaped_plain}
use Rattle.reading.proofs.Whole.{takes, refuses, taking, took_says, took_whole, refused_whole}
use Rattle.keys.specs.Keys.{key_of}
use Rattle.keys.proofs.KeyOrder.{shaped_long}
use Rattle.order_at.specs.OrderAt.{plain_at}

-- what holds of the record that holds nothing, and of one that stands whole, holds of the record at each offset
pub by_record : (P : ResTableConfig → Type 0) (s : List ℕ) (q : ℕ) → P blank_record → (taken (drop q s) ≤ length (drop q s) → P (plain (drop q s))) → P (plain_at s q)
unfolding plain_at
by_record P s q blank whole =
    let t = drop q s in
    let give = parse_took (taken t) (plain t) in
    elim (taking t) [
      | takes n e ↦ subst P (sym (ap (λ (o : ParseOutcome). o.gives) (took_whole t parse_refused give n e))) (whole (took_says t n e).1)
      | refuses why e ↦ subst P (sym (ap (λ (o : ParseOutcome). o.gives) (refused_whole t parse_refused give why e))) blank
    ]

-- its arrays have their lengths
shaped_at : (s : List ℕ) (q : ℕ) → Shaped (plain_at s q)
shaped_at s q =
    by_record Shaped s q (record { script = refl; variant = refl; numbering = refl; padding = refl }) (shaped_plain (drop q s))

-- so its key has sixty bytes
pub key_at_long : (s : List ℕ) (q : ℕ) → length (key_of (plain_at s q)) ≡ 60
key_at_long s q = shaped_long (plain_at s q) (shaped_at s q)
