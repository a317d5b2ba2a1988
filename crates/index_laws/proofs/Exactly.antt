-- 5 exactly where there are more than 1,024 entries or they don't fit, and then nothing lent changes. Assumes nothing.
use Prim.Native.Nat.{ℕ}
use mathlib.Core.Path.{◌≡◌, refl, ap, ◌∙◌}
use mathlib.Core.Bool.{Bool, true, false, cond, ◌&&◌}
use mathlib.Core.List.{List, ◌++◌}
use lib.Dec.{leb, ltb}
use lib.ListN.{length, drop}
use Rattle.answers.specs.declared.Refusal.{Refusal}
use Rattle.answers.specs.Tells.{success}
use Rattle.buffer.specs.Written.{Outcome, refused}
use Rattle.buffer.proofs.Exactly.{refuses_by, room}
use Rattle.index.specs.Index.{firsts, index_of, index_written}
use Rattle.index_laws.specs.Demand1.{IndexRefuses}

-- two tests, one after the other
both : {A : Type 0} (a b : Bool) (x y : A) → cond (a && b) x y ≡ cond a (cond b x y) y
both true b x y = refl
both false b x y = refl

pub index_exactly : (s old : List ℕ) → IndexRefuses s old
unfolding index_written
index_exactly s old =
    let n = length (firsts s) in
    let m = length (index_of s) in
    let give : Outcome = record { tells = success n; leaves = index_of s ++ drop m old } in
    let no = refused Refusal.ShortBuffer old in
    refuses_by {give = give} refl
    (record {
      by =
          both (leb n 1024) (leb m (length old)) give no
          ∙ room n 1024 (cond (leb m (length old)) give no) no
          ∙ ap (cond (ltb 1024 n) no) (room m (length old) give no);
    })
