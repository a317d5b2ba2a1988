-- The count stays within the buffer, and each turn but the last adds to it.
use Rattle.std.proofs.Common.{length, ◌-◌, ◌≤◌}
use Rattle.listing.proofs.fill.Given as goal

abbrev pub invariant-loop-count : goal.invariant-loop-count
invariant-loop-count g l = l.count ≤ length l.buffer

abbrev pub decreases-loop-count : goal.decreases-loop-count
decreases-loop-count g l = length l.initial.buffer - l.count
