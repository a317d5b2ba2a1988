-- A byte below 80 is a front by itself. Assumes nothing.
use Prim.Native.Nat.{ℕ, suc, ◌+◌, ◌-◌, ◌<◌}
use mathlib.Core.Path.{◌≡◌, refl, ◌∙◌}
use mathlib.Core.List.{List, [], ◌∷◌}
use mathlib.Core.Option.{some}
use native.Mathlib.Omega.{arith}
use lib.ListN.{length, get_or, take, drop}
use lib.Seq.{drop-cons}
use Rattle.laws.proofs.Lists.{rest_is}
use Rattle.buffer.specs.Put.{Put}
use Rattle.subtag.specs.declared.utf8.Front.{Front}
use Rattle.subtag.specs.Utf8.{front_of}
use Rattle.subtag.specs.Steps.{Fronted}
use Rattle.subtag.proofs.Laws.{fronted_well, Completes, completes_more}
use Rattle.subtag.proofs.Rows.{row_at}

pub low_judged : (b : ℕ) (s : List ℕ) → b < 128 → front_of (b ∷ s) ≡ Front.WellFormed 1
unfolding front_of
low_judged b s h = rw (row_at 0 128 (some []) tt b (omega arith) (omega arith))

-- put as it is, it completes as much as a front does
pub completes_low : {old : List ℕ} {at : ℕ} (s : List ℕ) {now : List ℕ} {o i : ℕ} (count : ℕ) {next : List ℕ} {a : ℕ} → i < length s → get_or s i 0 < 128
    → Completes old at s now o i count → Put now o (get_or s i 0 ∷ []) next a → Completes old at s next a (i + 1) count
completes_low s {now} {o} {i} count {next} {a} h low g p =
    let rest : take (length s - i) (drop i s) ≡ get_or s i 0 ∷ drop (suc i) s = rest_is s i ∙ drop-cons s i 0 h in
    let front : Fronted now o (take (length s - i) (drop i s)) next a 1 0 = rw rest (fronted_well refl (low_judged (get_or s i 0) (drop (suc i) s) low) p) in
    let same : count + 0 ≡ count = omega arith in
    rw same at (completes_more s count h g front)
