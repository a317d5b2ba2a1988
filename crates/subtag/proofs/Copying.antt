-- Laws of copiers: behind what is put, and into a lent buffer where it holds the text. Assumes nothing.
use Prim.Native.Nat.{ℕ, ◌+◌, ◌≤◌, ◌<◌}
use mathlib.Core.Path.{◌≡◌, sym, ap₂, ◌∙◌}
use mathlib.Core.List.{List, [], ◌∷◌, ◌++◌}
use native.Mathlib.Omega.{arith}
use lib.ListN.{length}
use Rattle.answers.specs.declared.Refusal.{Refusal}
use Rattle.std.specs.Prelude.{Ok, Err}
use Rattle.buffer.specs.Counted.{counted_outcome, counting}
use Rattle.buffer.specs.Put.{Put}
use Rattle.buffer.specs.Written.{written}
use Rattle.buffer.proofs.Counting.{answer_counted}
use Rattle.buffer.proofs.OneOutcome.{one_put}
use Rattle.buffer.proofs.Putting.{put_put, front_ends}
use Rattle.buffer.proofs.Writing.{put_written, written_short}
use Rattle.subtag.specs.declared.Copied.{Copied}
use Rattle.subtag.specs.Copies.{Copies, counted_by}
use Rattle.subtag.specs.Replacements.{replacements_in}

-- any two outcomes of a copier for the same input are one
pub one_copied : {old : List ℕ} {at : ℕ} {w : List ℕ} {n : ℕ} {x y : List ℕ} {r s : Copied} → Copies old at w n x r → Copies old at w n y s
    → (r ≡ s) × (x ≡ y)
one_copied p q =
    let one = one_put p.puts q.puts in
    (ap₂ (λ (a k : ℕ). record { at = a; replacements = k }) one.0 (p.counts ∙ sym q.counts), one.1)

-- a copy behind what was put
pub put_copy : {old : List ℕ} {at : ℕ} {u : List ℕ} {mid : List ℕ} {a : ℕ} {v : List ℕ} {n : ℕ} {new : List ℕ} {r : Copied}
    → Put old at u mid a → Copies mid a v n new r → Copies old at (u ++ v) n new r
put_copy p q = record { puts = put_put p q.puts; counts = q.counts }

-- a copy behind a copy
pub copy_copy : {old : List ℕ} {at : ℕ} {u : List ℕ} {n : ℕ} {mid : List ℕ} {a : Copied} {v : List ℕ} {k : ℕ} {new : List ℕ} {b : Copied}
    → Copies old at u n mid a → Copies mid a.at v k new b
    → Copies old at (u ++ v) (n + k) new (record { at = b.at; replacements = a.replacements + b.replacements })
copy_copy p q = record { puts = put_put p.puts q.puts; counts = omega (arith, p.counts, q.counts) }

-- the replacements in two rows of subtags
pub in_append : (u v : List (List ℕ)) → replacements_in (u ++ v) ≡ replacements_in u + replacements_in v
in_append [] v = omega arith
in_append (s ∷ u) v = omega (arith, in_append u v)

-- a copy into the lent buffer itself, which holds the text
pub copy_written : {old : List ℕ} {w : List ℕ} {n : ℕ} {new : List ℕ} {r : Copied} → length w ≤ length old → Copies old 0 w n new r
    → counted_outcome (Ok (counted_by r)) new ≡ counting n (written w old)
copy_written {n = n} {r = r} h p =
    rw p.counts (answer_counted n (Ok r.at) (rw (front_ends p.puts h) (put_written h p.puts)))

-- where the lent buffer doesn't hold it, nothing is copied and the call is refused
pub copy_short : (n : ℕ) (w old : List ℕ) → length old < length w
    → counted_outcome (Err Refusal.ShortBuffer) old ≡ counting n (written w old)
copy_short n w old h = answer_counted n (Err Refusal.ShortBuffer) (sym (written_short w old h))
