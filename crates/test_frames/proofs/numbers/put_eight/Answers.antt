-- `put_eight` puts the lower four bytes, and then the upper ones.
use Rattle.std.proofs.Common.{◌≡◌, ℕ, ◌/◌, ◌%◌, List, ◌∷◌, ◌++◌, refl, arith}
use mathlib.Core.Path.{ap₂}
use Rattle.buffer.proofs.Putting.{put_put}
use Rattle.test_frames.specs.Numbers.{low_bytes}
use Rattle.test_frames.proofs.numbers.put_eight.Goals as goal

same : {a b : ℕ} {l m : List ℕ} → a ≡ b → l ≡ m → a ∷ l ≡ b ∷ m
same e f = ap₂ (λ (x : ℕ) (w : List ℕ). x ∷ w) e f

halves : (n : ℕ) → low_bytes 4 (n % 4294967296) ++ low_bytes 4 (n / 4294967296) ≡ low_bytes 8 n
halves n =
    same (omega arith) (same (omega arith) (same (omega arith) (same (omega arith)
    (same (omega arith) (same (omega arith) (same (omega arith) (same (omega arith) refl)))))))

pub returns : goal.returns
returns c = rw (← halves c.args.n) (put_put c.put_four-at.ensures c.put_four.ensures)
