-- Each turn counts one record. Assumes nothing.
use Prim.Native.Nat.{◌<◌}
use mathlib.Core.Path.{sym, ap, ◌∙◌}
use mathlib.Core.Bool.{true≢false}
use native.Mathlib.Omega.{arith}
use lib.ListN.{length}
use Rattle.std.specs.Prelude.{Ok, is_ok}
use Rattle.runs.proofs.Records.{front_within}
use Rattle.index.specs.Index.{firsts}
use Rattle.index.specs.Steps.{SeatAmong}
use Rattle.index.proofs.Recounting.{recounting_begins, as_long, firsts_rise, is_met, reaches, has_room, recounting_on, recounted_all}
use Rattle.index.proofs.recount.recount.Goals as goal
use Rattle.index.proofs.recount.recount.Goals.{in-Ok-seek, in_default-seek}

pub loop-n-init : goal.loop-n-init
loop-n-init c = recounting_begins _ _ _ _ c.requires

pub seek-requires : goal.seek-requires
seek-requires c = (c.requires.long, rw c.requires.places (firsts_rise _))

pub overflow_mul-place : goal.overflow_mul-place
overflow_mul-place c =
    let sought : SeatAmong c.args.bytes.now c.loop-n.here (firsts c.args.bytes.now) (Ok c.in-Ok-seek.place) = rw (c.requires.places, c.in-Ok-seek.is) at c.seek.ensures in
    let counts = reaches _ _ _ _ _ c.loop-n.invariant (sym c.front_at.ensures ∙ c.in-Ok.is) _ sought in
    let l = as_long _ _ _ _ c.loop-n.invariant in
    let m = as_long _ _ _ _ (recounting_begins _ _ _ _ c.requires) in
    record { fits = omega (arith, counts, l, m, c.well_formed) }

pub overflow_add-place : goal.overflow_add-place
overflow_add-place c =
    let sought : SeatAmong c.args.bytes.now c.loop-n.here (firsts c.args.bytes.now) (Ok c.in-Ok-seek.place) = rw (c.requires.places, c.in-Ok-seek.is) at c.seek.ensures in
    let counts = reaches _ _ _ _ _ c.loop-n.invariant (sym c.front_at.ensures ∙ c.in-Ok.is) _ sought in
    let l = as_long _ _ _ _ c.loop-n.invariant in
    let m = as_long _ _ _ _ (recounting_begins _ _ _ _ c.requires) in
    record { fits = omega (arith, counts, l, m, c.well_formed) }

pub count_more-requires : goal.count_more-requires
count_more-requires c =
    let sought : SeatAmong c.args.bytes.now c.loop-n.here (firsts c.args.bytes.now) (Ok c.in-Ok-seek.place) = rw (c.requires.places, c.in-Ok-seek.is) at c.seek.ensures in
    let fits : length c.args.bytes.now < 18446744073709551616 = omega (arith, c.well_formed) in
    let counts = reaches _ _ _ _ _ c.loop-n.invariant (sym c.front_at.ensures ∙ c.in-Ok.is) _ sought in
    (omega (arith, counts), has_room _ _ _ _ _ c.loop-n.invariant (sym c.front_at.ensures ∙ c.in-Ok.is) _ sought fits)

pub overflow_add-here : goal.overflow_add-here
overflow_add-here c = omega (arith, front_within c.args.bytes.now c.loop-n.here _ (sym c.front_at.ensures ∙ c.in-Ok.is), c.well_formed)

pub loop-n-smaller : goal.loop-n-smaller
loop-n-smaller c = omega (arith, front_within c.args.bytes.now c.loop-n.here _ (sym c.front_at.ensures ∙ c.in-Ok.is))

pub loop-n-preserved : goal.loop-n-preserved
loop-n-preserved c =
    let fits : length c.args.bytes.now < 18446744073709551616 = omega (arith, c.well_formed) in
    elim c.match-seek.branch [
      | in-Ok-seek w ↦
          let sought : SeatAmong c.args.bytes.now c.loop-n.here (firsts c.args.bytes.now) (Ok w.in-Ok-seek.place) = rw (c.requires.places, w.in-Ok-seek.is) at c.seek.ensures in
          rw (w.out-is, w.count_more.ensures) (recounting_on _ _ _ _ _ c.loop-n.invariant (sym c.front_at.ensures ∙ c.in-Ok.is) _ sought fits)
      | in_default-seek w ↦
          let sought : SeatAmong c.args.bytes.now c.loop-n.here (firsts c.args.bytes.now) c.seek.result = rw c.requires.places at c.seek.ensures in
          absurd (true≢false (sym (is_met _ _ _ _ _ c.loop-n.invariant (sym c.front_at.ensures ∙ c.in-Ok.is) _ sought) ∙ ap is_ok w.in_default-seek.is))
    ]

pub returns : goal.returns
returns c = recounted_all _ _ _ _ _ c.loop-n.invariant (sym c.front_at.ensures ∙ c.in_default.is)
