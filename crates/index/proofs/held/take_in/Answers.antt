-- The record is sought, and then counted where it is met, or put in where there is room. Assumes nothing.
use mathlib.Core.Path.{refl}
use native.Mathlib.Omega.{arith}
use Rattle.std.specs.Prelude.{Ok, Err}
use Rattle.index.proofs.Taking.{at_most, met_within, met_fits, taken_met, taken_new, taken_none}
use Rattle.index.proofs.held.take_in.Goals as goal

pub seek-requires : goal.seek-requires
seek-requires c = (omega (arith, c.requires.most, c.requires.long), c.requires.rising)

pub offset_bounds-held-at : goal.offset_bounds-held-at
offset_bounds-held-at c = omega (arith, met_within _ _ _ _ _ _ c.requires (Ok c.in-Ok.at) (rw c.in-Ok.is at c.seek.ensures) refl, c.requires.most, c.requires.long, c.well_formed)

pub bounds-held-at : goal.bounds-held-at
bounds-held-at c = omega (arith, met_within _ _ _ _ _ _ c.requires (Ok c.in-Ok.at) (rw c.in-Ok.is at c.seek.ensures) refl, c.requires.most, c.requires.long)

pub overflow_add-held : goal.overflow_add-held
overflow_add-held c = record { fits = rw c.step_in.ensures (met_fits _ _ _ _ _ _ c.requires (Ok c.in-Ok.at) (rw c.in-Ok.is at c.seek.ensures) refl (c.slice_known-in-Ok-1.given _).fits) }

pub bounds-held-at-in-Ok : goal.bounds-held-at-in-Ok
bounds-held-at-in-Ok c = omega (arith, met_within _ _ _ _ _ _ c.requires (Ok c.in-Ok.at) (rw c.in-Ok.is at c.seek.ensures) refl, c.requires.most, c.requires.long)

pub returns-in-Ok : goal.returns-in-Ok
returns-in-Ok c = rw c.step_in.ensures (taken_met _ _ _ _ _ _ c.requires (Ok c.in-Ok.at) (rw c.in-Ok.is at c.seek.ensures) refl)

pub overflow_add-result : goal.overflow_add-result
overflow_add-result c = omega (arith, c.requires.most, c.requires.long)

pub returns-then-room-m : goal.returns-then-room-m
returns-then-room-m c = taken_none _ _ _ _ _ _ c.requires (Err c.in-Err.at) (rw c.in-Err.is at c.seek.ensures) refl c.if-room-m.true

pub first_at-requires : goal.first_at-requires
first_at-requires c = λ e. let f = c.requires.fits e in omega (arith, c.requires.inside)

pub slide-requires : goal.slide-requires
slide-requires c = (at_most _ _ _ _ _ _ c.requires (Err c.in-Err.at) (rw c.in-Err.is at c.seek.ensures), omega (arith, c.if-room-m.false, c.requires.long))

pub overflow_add-result-in-Err : goal.overflow_add-result-in-Err
overflow_add-result-in-Err c = omega (arith, c.requires.long, c.if-room-m.false)

pub returns-else-room-m : goal.returns-else-room-m
returns-else-room-m c = taken_new _ _ _ _ _ _ c.requires (Err c.in-Err.at) (rw c.in-Err.is at c.seek.ensures) refl (omega (arith, c.if-room-m.false)) c.first_at.ensures c.slide.ensures
