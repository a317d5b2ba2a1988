-- The count in an entry: where it stands among the entries, and one added to it. Assumes nothing.
use Prim.Native.Nat.{ℕ, zero, suc, ◌+◌, ◌*◌, ◌/◌, ◌%◌, ◌≤◌, ◌<◌}
use mathlib.Core.Path.{◌≡◌, refl, sym, ap, ◌∙◌}
use mathlib.Core.List.{List, [], ◌∷◌, ◌++◌, append_assoc}
use native.Mathlib.Omega.{arith}
use native.Mathlib.Nat.{not-suc-le-zero}
use lib.ListN.{length, get_or, set, take, drop, length-append}
use lib.Seq.{take_at, drop_at, drop-drop}
use Rattle.buffer.specs.Put.{Put}
use Rattle.buffer.proofs.Putting.{put_is}
use Rattle.record.specs.Table.{part, le}
use Rattle.keys.specs.Keys.{key_of}
use Rattle.order_at.specs.OrderAt.{plain_at}
use Rattle.rising.proofs.Counts.{ends}
use Rattle.entries.specs.Entry.{entry_of, little4, little8}
use Rattle.entries.proofs.Long.{entry_long}
use Rattle.index.specs.Steps.{entries_with, one_more_at}
use Rattle.index.proofs.Words.{set_own}
use Rattle.index.proofs.Sound.{key_at_long}

-- two bytes say the lower half of four, four that of eight, and eight the number
two : (x r : ℕ) → x % 256 + 256 * (x / 256 % 256 + 256 * r) ≡ x % 65536 + 65536 * r
two x r = omega arith

four : (x r : ℕ) → x % 256 + 256 * (x / 256 % 256 + 256 * (x / 65536 % 256 + 256 * (x / 16777216 % 256 + 256 * r))) ≡ x % 4294967296 + 4294967296 * r
four x r =
    let third : x / 16777216 ≡ x / 65536 / 256 = omega arith in
    let upper : x / 65536 % 256 + 256 * (x / 16777216 % 256 + 256 * r) ≡ x / 65536 % 65536 + 65536 * r =
    ap (λ (y : ℕ). x / 65536 % 256 + 256 * (y % 256 + 256 * r)) third ∙ two (x / 65536) r in
    two x (x / 65536 % 256 + 256 * (x / 16777216 % 256 + 256 * r)) ∙ ap (λ (y : ℕ). x % 65536 + 65536 * y) upper ∙ halves x
  where
    halves : (y : ℕ) → y % 65536 + 65536 * (y / 65536 % 65536 + 65536 * r) ≡ y % 4294967296 + 4294967296 * r
    halves y = omega arith

little_says : (x : ℕ) → x < 18446744073709551616 → le (little8 x) ≡ x
little_says x h = four x (le (little4 (x / 4294967296))) ∙ ap (λ (i : ℕ). x % 4294967296 + 4294967296 * i) (four (x / 4294967296) 0) ∙ omega arith

-- eight bytes are read in two halves
pub halves_say : (s : List ℕ) (at : ℕ) → le (part s at 4) + 4294967296 * le (part s (at + 4) 4) ≡ le (part s at 8)
halves_say s at = ap (λ (l : List ℕ). le (part s at 4) + 4294967296 * le (take 4 l)) (sym (drop-drop 4 at s)) ∙ front (drop at s)
  where
    front : (l : List ℕ) → le (take 4 l) + 4294967296 * le (take 4 (drop 4 l)) ≡ le (take 8 l)
    front [] = refl
    front (a ∷ []) = omega arith
    front (a ∷ b ∷ []) = omega arith
    front (a ∷ b ∷ c ∷ []) = omega arith
    front (a ∷ b ∷ c ∷ d ∷ l) = omega arith

-- one more is put
pub more_put : (s : List ℕ) (at n : ℕ) {new : List ℕ} {r : ℕ} → at + 8 ≤ length s → n ≡ le (part s at 8) → Put s at (little8 (n + 1)) new r → new ≡ one_more_at s at
more_put s at n h e put = put_is put h ∙ ap (λ (i : ℕ). take at s ++ little8 (i + 1) ++ drop (at + 8) s) e

-- the same bytes, parted around the third piece, and behind one more
regrouped : (a b c d e : List ℕ) → a ++ (b ++ c) ++ d ++ e ≡ a ++ b ++ (c ++ (d ++ e))
regrouped a b c d e =
    append_assoc (a ++ (b ++ c)) d e ∙ ap (λ (l : List ℕ). l ++ (d ++ e)) (sym (append_assoc a b c)) ∙ append_assoc (a ++ b) c (d ++ e)

behind_one : (a b c d e : List ℕ) → b ++ c ≡ d ++ e → a ++ b ++ c ≡ a ++ d ++ e
behind_one a b c d e h = append_assoc a b c ∙ ap (λ (l : List ℕ). a ++ l) h ∙ sym (append_assoc a d e)

-- the count of entry j stands in eight bytes, between others that stay whatever it is
record CountAt (s qs ns rest : List ℕ) (j : ℕ) : Type 0 where
  before : List ℕ
  after : List ℕ
  far : length before ≡ 76 * j + 68
  holds : (n : ℕ) → entries_with s qs (set ns j n) ++ rest ≡ before ++ (little8 n ++ after)

count_at : (s qs ns rest : List ℕ) (j : ℕ) → length qs ≡ length ns → j < length qs → CountAt s qs ns rest j
unfolding entries_with entry_of
count_at s [] ns rest j e h = absurd (not-suc-le-zero h)
count_at s (q ∷ qs) [] rest j e h = ends e
count_at s (q ∷ qs) (x ∷ ns) rest zero e h =
    let key = key_of (plain_at s q) in
    let others = entries_with s qs ns in
    record {
      before = key ++ little8 q;
      after = others ++ rest;
      far = length-append key (little8 q) ∙ ap (λ (n : ℕ). n + 8) (key_at_long s q);
      holds = λ n. regrouped key (little8 q) (little8 n) others rest;
    }
count_at s (q ∷ qs) (x ∷ ns) rest (suc j) e h =
    let first = entry_of (plain_at s q) q x in
    let c = count_at s qs ns rest j (omega arith) (omega arith) in
    record {
      before = first ++ c.before;
      after = c.after;
      far = omega (arith, length-append first c.before, entry_long (plain_at s q) q x (key_at_long s q), c.far);
      holds = λ n.
          behind_one first (entries_with s qs (set ns j n)) rest c.before (little8 n ++ c.after) (c.holds n);
    }

module _ (s qs ns rest : List ℕ) (j : ℕ) (beside : length qs ≡ length ns) (here : j < length qs) where
  abbrev at : ℕ
  at = 76 * j + 68

  abbrev all : List ℕ
  all = entries_with s qs ns ++ rest

  there : CountAt s qs ns rest j
  there = count_at s qs ns rest j beside here

  is : all ≡ there.before ++ (little8 (get_or ns j 0) ++ there.after)
  is = ap (λ (l : List ℕ). entries_with s qs l ++ rest) (sym (set_own ns j (get_or ns j 0) refl)) ∙ there.holds (get_or ns j 0)

  behind : drop at all ≡ little8 (get_or ns j 0) ++ there.after
  behind = ap (drop at) is ∙ drop_at there.before _ at there.far

  -- the entry's count
  pub count_says : get_or ns j 0 < 18446744073709551616 → le (part all at 8) ≡ get_or ns j 0
  count_says h = ap (λ (l : List ℕ). le (take 8 l)) behind ∙ ap le (take_at (little8 (get_or ns j 0)) there.after 8 refl) ∙ little_says (get_or ns j 0) h

  -- one more is one more in that entry
  pub count_adds : get_or ns j 0 < 18446744073709551616 → one_more_at all at ≡ entries_with s qs (set ns j (get_or ns j 0 + 1)) ++ rest
  count_adds h =
      let n = get_or ns j 0 + 1 in
      let front : take at all ≡ there.before = ap (take at) is ∙ take_at there.before _ at there.far in
      let end : drop (at + 8) all ≡ there.after = sym (drop-drop 8 at all) ∙ ap (drop 8) behind ∙ drop_at (little8 (get_or ns j 0)) there.after 8 refl in
      same front (ap (λ (i : ℕ). little8 (i + 1)) (count_says h)) end
      ∙ append_assoc there.before (little8 n) there.after
      ∙ sym (there.holds n)
    where
      same : {a b c x y z : List ℕ} → a ≡ x → b ≡ y → c ≡ z → a ++ b ++ c ≡ x ++ y ++ z
      same e f g = cc
