-- A NUL at the end stands by itself: so a subtag with one is no longer than the replaced rest. Assumes nothing.
use Prim.Native.Nat.{ℕ, zero, suc, ◌≤◌, ◌<◌}
use mathlib.Core.Path.{◌≡◌, refl, sym, ap, ◌∙◌}
use mathlib.Core.Bool.{and-false}
use mathlib.Core.List.{List, [], ◌∷◌, ◌++◌, append_assoc}
use mathlib.Core.Option.{Option, none, some}
use native.Mathlib.Omega.{arith}
use native.Mathlib.Decide.{dec_lt}
use lib.Dec.{lit≤}
use lib.ListN.{length, get_or, drop, length-append, get_or-append}
use lib.Seq.{take-append-le, drop-append-le}
use borrow.Author.Tests.{lt-ltb, le-ltb, le-leb, lt-leb}
use Rattle.laws.proofs.Choice.{chosen}
use Rattle.laws.proofs.Lists.{Each}
use Rattle.subtag.specs.declared.utf8.Front.{Front}
use Rattle.subtag.specs.Utf8.{table, row_of, within, ok_at, matched, judge, front_of}
use Rattle.subtag.specs.Subtag.{piece_of, front_size, replaced, replaced_by, drop_nuls, subtag_of}
use Rattle.subtag.proofs.Laws.{size_in, by_fronts, replaced_more}
use Rattle.subtag.proofs.Nuls.{nul_last}

padded : (l : List ℕ) (i : ℕ) → length l ≤ i → get_or (l ++ 0 ∷ []) i 0 ≡ 0
padded [] zero h = refl
padded [] (suc i) h = refl
padded (b ∷ l) zero h = absurd (omega arith)
padded (b ∷ l) (suc i) h = padded l i (omega arith)

ok_nul : (l : List ℕ) (i lo hi : ℕ) → 1 ≤ lo → ok_at (l ++ 0 ∷ []) i lo hi ≡ ok_at l i lo hi
unfolding ok_at
ok_nul l i lo hi h =
    elim (dec_lt i (length l)) [
      | yes k ↦ let e = length-append l (0 ∷ []) in
          simp (lt-ltb i (length (l ++ 0 ∷ [])) (omega arith), lt-ltb i (length l) k, get_or-append l (0 ∷ []) 0 i k)
      | no k ↦ simp (padded l i (omega arith), le-ltb i (length l) (omega arith), lt-leb lo 0 (omega arith), le-leb 0 hi (omega arith), and-false)
    ]

-- ranges that 0 is in none of
abbrev High : List (ℕ × ℕ) → Type 0
High rs = Each (λ r. 1 ≤ r.0) rs

matched_nul : (rs : List (ℕ × ℕ)) (l : List ℕ) (i : ℕ) → High rs → matched rs (l ++ 0 ∷ []) i ≡ matched rs l i
matched_nul [] l i h = refl
matched_nul (r ∷ rs) l i h = rw (ok_nul l i r.0 r.1 h.0, matched_nul rs l (suc i) h.1)

abbrev HighRow : Option (List (ℕ × ℕ)) → Type 0
HighRow none = Unit {0}
HighRow (some rs) = High rs

abbrev HighRows : List (ℕ × ℕ × List (ℕ × ℕ)) → Type 0
HighRows t = Each (λ r. High r.2) t

row_high : (t : List (ℕ × ℕ × List (ℕ × ℕ))) (b : ℕ) → HighRows t → HighRow (row_of t b)
row_high [] b h = tt
row_high (r ∷ rs) b h = chosen HighRow (within r.0 r.1 b) h.0 (row_high rs b h.1)

table_high : HighRows table
table_high = (
  tt,
  (
    (lit≤ tt, tt),
    (
      (lit≤ tt, (lit≤ tt, tt)),
      (
        (lit≤ tt, (lit≤ tt, tt)),
        (
          (lit≤ tt, (lit≤ tt, tt)),
          (
            (lit≤ tt, (lit≤ tt, tt)),
            (
              (lit≤ tt, (lit≤ tt, (lit≤ tt, tt))),
              ((lit≤ tt, (lit≤ tt, (lit≤ tt, tt))), ((lit≤ tt, (lit≤ tt, (lit≤ tt, tt))), tt)),
            ),
          ),
        ),
      ),
    ),
  ),
)

judge_nul : (o : Option (List (ℕ × ℕ))) (l : List ℕ) → HighRow o → judge o (l ++ 0 ∷ []) ≡ judge o l
judge_nul none l h = refl
judge_nul (some rs) l h = rw (matched_nul rs l 1 h)

front_nul : (l : List ℕ) → 0 < length l → front_of (l ++ 0 ∷ []) ≡ front_of l
unfolding front_of
front_nul l h = rw (get_or-append l (0 ∷ []) 0 0 h) (judge_nul (row_of table (get_or l 0 0)) l (row_high table (get_or l 0 0) table_high))

piece_nul : (f : Front) (l : List ℕ) → front_size f ≤ length l → piece_of f (l ++ 0 ∷ []) ≡ piece_of f l
piece_nul (Front.WellFormed n) l h = take-append-le n l (0 ∷ []) h
piece_nul (Front.IllFormed n) l h = refl

-- so the front of bytes with a NUL more is the front of the bytes, and the NUL stands behind the rest
pub rest_nul : (l : List ℕ) → 0 < length l
    → (front_of (l ++ 0 ∷ []) ≡ front_of l) × (drop (front_size (front_of (l ++ 0 ∷ []))) (l ++ 0 ∷ []) ≡ drop (front_size (front_of l)) l ++ 0 ∷ [])
rest_nul l h = (front_nul l h, rw (front_nul l h) (drop-append-le (front_size (front_of l)) l (0 ∷ []) (size_in l h)))

alone : (l : List ℕ) → length l ≡ 0 → replaced (l ++ 0 ∷ []) ≡ replaced l ++ 0 ∷ []
unfolding replaced replaced_by front_of ok_at
alone [] h = refl
alone (b ∷ l) h = absurd (omega arith)

nul_stays : (l : List ℕ) → replaced (l ++ 0 ∷ []) ≡ replaced l ++ 0 ∷ []
nul_stays =
    by_fronts (λ l. replaced (l ++ 0 ∷ []) ≡ replaced l ++ 0 ∷ []) alone
    (λ l h behind.
    let e = rest_nul l h in
    let piece = piece_of (front_of l) l in
    let rest = drop (front_size (front_of l)) l in
    replaced_more (l ++ 0 ∷ []) (omega (arith, length-append l (0 ∷ [])))
    ∙ rw (e.1, e.0, piece_nul (front_of l) l (size_in l h), behind) (sym (append_assoc piece (replaced rest) (0 ∷ [])))
    ∙ ap (λ (x : List ℕ). x ++ 0 ∷ []) (sym (replaced_more l h)))

-- a NUL at the end of a subtag changes nothing
pub subtag_nul : (l : List ℕ) → subtag_of (l ++ 0 ∷ []) ≡ subtag_of l
unfolding subtag_of
subtag_nul l = ap drop_nuls (nul_stays l) ∙ nul_last (replaced l)
