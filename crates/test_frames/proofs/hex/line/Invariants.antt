-- The digits of the first bytes are put.
use Rattle.std.proofs.Common.{take}
use Rattle.buffer.specs.Put.{Put}
use Rattle.test_frames.specs.Hex.{hex_of}
use Rattle.test_frames.proofs.hex.line.Given as goal

abbrev pub invariant-loop-byte : goal.invariant-loop-byte
invariant-loop-byte l = Put l.fn.line 0 (hex_of (take l.byte-index l.bytes)) l.line l.end
