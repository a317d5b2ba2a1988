-- 02, K9: the index of a run: its distinct records in rising order, each with where it stands first and how often. Assumes nothing.
use Rattle.std.specs.Prelude.{ℕ, List, [], ◌∷◌, ◌++◌, cond, ◌&&◌, leb, length, drop}
use Rattle.answers.specs.declared.Refusal.{Refusal}
use Rattle.answers.specs.Tells.{success}
use Rattle.buffer.specs.Written.{Outcome, outcome, refused}
use Rattle.runs.specs.declared.RunEnd.{RunEnd}
use Rattle.runs.specs.Runs.{offsets_of, run_of}
use Rattle.order_at.specs.OrderAt.{plain_at, order_at}
use Rattle.rising.specs.Rising.{count_equal, distinct, sorted}
use Rattle.entries.specs.Entry.{entry_of}
use Rattle.index.specs.declared.Indexed.{Indexed}

-- where the distinct records of the run of s stand first: of its offsets, those of the first record of each kind, sorted by the records
abbrev pub firsts : List ℕ → List ℕ
firsts s = sorted (order_at s) (distinct (order_at s) (offsets_of s 0))

-- how many records of the run of s are Equal to the one at offset q
abbrev pub count_in : List ℕ → ℕ → ℕ
count_in s q = count_equal (λ p. order_at s p q) (offsets_of s 0)

-- the entries of the records at some offsets of s, each with how often it stands in the run
unfoldable pub entries_at : List ℕ → List ℕ → List ℕ
entries_at s [] = []
entries_at s (q ∷ qs) = entry_of (plain_at s q) q (count_in s q) ++ entries_at s qs

-- the index of the run of s
abbrev pub index_of : List ℕ → List ℕ
index_of s = entries_at s (firsts s)

-- it is written whole, and how many entries it has is told; 5 comes when it doesn't fit the lent room, or has more than 1,024 entries
unfoldable pub index_written : List ℕ → List ℕ → Outcome
index_written s old =
    cond (leb (length (firsts s)) 1024 && leb (length (index_of s)) (length old))
    (record { tells = success (length (firsts s)); leaves = index_of s ++ drop (length (index_of s)) old })
    (refused Refusal.ShortBuffer old)

-- what a call comes to that indexes a run: what it tells and leaves; and where the run stops, which goes along with every answer
pub record IndexOutcome : Type 0 where
  pub does : Outcome
  pub run : RunEnd

-- what an answer and a lent buffer come to
abbrev pub indexed_outcome : Indexed → List ℕ → IndexOutcome
indexed_outcome i buffer = record { does = outcome i.answer buffer; run = i.end }

-- indexing the run of s, which begins at offset 0
abbrev pub index_outcome : List ℕ → List ℕ → IndexOutcome
index_outcome s old = record { does = index_written s old; run = run_of s 0 }
