-- `read_name` goes from part to part, up to the last or the first that can't stand where it is. Assumes nothing.
use Prim.Native.Nat.{◌-◌, ◌≤◌}
use mathlib.Core.Path.{◌≡◌}
use lib.ListN.{length, drop}
use Rattle.names.specs.Reading.{Read, parts_of, read_parts, read_name}
use Rattle.names.proofs.read_name.Given as goal

abbrev pub invariant-loop-found : goal.invariant-loop-found
invariant-loop-found l = (l.at ≤ length l.name) × (length l.values ≡ 25) × (read_name l.name ≡ read_parts (Read.so_far l.next l.values) l.at (parts_of (drop l.at l.name)))

abbrev pub decreases-loop-found : goal.decreases-loop-found
decreases-loop-found l = length l.name - l.at
