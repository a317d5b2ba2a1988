-- Laws of the replaced text. Assumes nothing.
use Prim.Native.Nat.{ℕ, zero, suc, ◌+◌, ◌-◌, ◌≤◌, ◌<◌}
use mathlib.Core.Path.{◌≡◌, refl, sym, ap, ◌∙◌}
use mathlib.Core.Bool.{true}
use mathlib.Core.List.{List, [], ◌∷◌, ◌++◌}
use mathlib.Core.Option.{Option, none, some}
use native.Mathlib.Omega.{arith}
use lib.Dec.{eqb}
use lib.ListN.{length, get_or, take, drop, length-drop}
use lib.Seq.{drop-drop}
use borrow.Author.Tests.{ltb-true, eqb-true}
use Rattle.laws.proofs.Tests.{and_both}
use Rattle.laws.proofs.Choice.{chosen_by}
use Rattle.laws.proofs.Lists.{rest_is}
use Rattle.buffer.specs.Put.{Put}
use Rattle.buffer.proofs.Putting.{put_put, put_nil}
use Rattle.subtag.specs.declared.utf8.Front.{Front}
use Rattle.subtag.specs.Utf8.{table, row_of, ok_at, matched, judge, front_of}
use Rattle.subtag.specs.Subtag.{replacement, piece_of, front_size, replaced_by, replaced}
use Rattle.subtag.specs.Steps.{Fronted}
use Rattle.subtag.specs.Copies.{Copies}
use Rattle.subtag.specs.Replacements.{ill_formed, ill_formed_by, replacements}

-- a byte that is in a range is there
ok_in : (s : List ℕ) (i lo hi : ℕ) → ok_at s i lo hi ≡ true → i < length s
unfolding ok_at
ok_in s i lo hi e = ltb-true i (length s) (and_both e).0

matched_le : (rs : List (ℕ × ℕ)) (s : List ℕ) (i : ℕ) → i ≤ length s → i + matched rs s i ≤ length s
matched_le [] s i h = omega arith
matched_le (r ∷ rs) s i h =
    chosen_by (λ (m : ℕ). i + m ≤ length s) (ok_at s i r.0 r.1)
    (λ e. omega (arith, matched_le rs s (suc i) (ok_in s i r.0 r.1 e)))
    (λ e. omega arith)

-- a piece has a byte at least, and no more than there are
Sized : List ℕ → Front → Type 0
Sized s f = (1 ≤ front_size f) × (front_size f ≤ length s)

judged : (o : Option (List (ℕ × ℕ))) (s : List ℕ) → 0 < length s → Sized s (judge o s)
unfolding Sized
judged none s h = (omega arith, omega arith)
judged (some rs) s h =
    chosen_by (λ (f : Front). (1 ≤ front_size f) × (front_size f ≤ length s)) (eqb (matched rs s 1) (length rs))
    (λ e. (omega arith, omega (arith, matched_le rs s 1 (omega arith), eqb-true (matched rs s 1) (length rs) e)))
    (λ e. (omega arith, omega (arith, matched_le rs s 1 (omega arith))))

pub size_one : (s : List ℕ) → 0 < length s → 1 ≤ front_size (front_of s)
unfolding front_of Sized
size_one s h = (judged (row_of table (get_or s 0 0)) s h).0

pub size_in : (s : List ℕ) → 0 < length s → front_size (front_of s) ≤ length s
unfolding front_of Sized
size_in s h = (judged (row_of table (get_or s 0 0)) s h).1

-- what is made of bytes front after front, k of them at the most: of no bytes `end`, else `more` of what the bytes behind the front make
module _ {A : Type 0} (by : ℕ → List ℕ → A) (end : A) (more : List ℕ → A → A) (nil : (k : ℕ) → by k [] ≡ end)
    (cons : (k b : ℕ) (s : List ℕ) → by (suc k) (b ∷ s) ≡ more (b ∷ s) (by k (drop (front_size (front_of (b ∷ s))) (b ∷ s)))) where
  -- steps enough are as good as any
  enough : (k m : ℕ) (s : List ℕ) → length s ≤ k → length s ≤ m → by k s ≡ by m s
  enough zero m [] hk hm = nil zero ∙ sym (nil m)
  enough zero m (b ∷ s) hk hm = absurd (omega arith)
  enough (suc k) m [] hk hm = nil (suc k) ∙ sym (nil m)
  enough (suc k) zero (b ∷ s) hk hm = absurd (omega arith)
  enough (suc k) (suc m) (b ∷ s) hk hm =
      let n = front_size (front_of (b ∷ s)) in
      let one = size_one (b ∷ s) (omega arith) in
      let e = length-drop n (b ∷ s) in
      cons k b s ∙ ap (more (b ∷ s)) (enough k m (drop n (b ∷ s)) (omega arith) (omega arith)) ∙ sym (cons m b s)

  -- the first front, and the rest
  front_more : (s : List ℕ) → 0 < length s
      → by (length s) s ≡ more s (by (length (drop (front_size (front_of s)) s)) (drop (front_size (front_of s)) s))
  front_more [] h = absurd (omega arith)
  front_more (b ∷ s) h =
      let n = front_size (front_of (b ∷ s)) in
      let one = size_one (b ∷ s) (omega arith) in
      let e = length-drop n (b ∷ s) in
      cons (length s) b s
      ∙ ap (more (b ∷ s)) (enough (length s) (length (drop n (b ∷ s))) (drop n (b ∷ s)) (omega arith) (omega arith))

  front_none : (s : List ℕ) → length s ≡ 0 → by (length s) s ≡ end
  front_none [] h = nil 0
  front_none (b ∷ s) h = absurd (omega arith)

-- what holds of no bytes, and of bytes where it holds behind their front, holds of all
pub by_fronts : (P : List ℕ → Type 0) → ((s : List ℕ) → length s ≡ 0 → P s)
    → ((s : List ℕ) → 0 < length s → P (drop (front_size (front_of s)) s) → P s) → (s : List ℕ) → P s
by_fronts P empty behind s = up_to (length s) s (omega arith) where
  up_to : (k : ℕ) (l : List ℕ) → length l ≤ k → P l
  up_to zero [] h = empty [] refl
  up_to zero (b ∷ l) h = absurd (omega arith)
  up_to (suc k) [] h = empty [] refl
  up_to (suc k) (b ∷ l) h =
      let one = size_one (b ∷ l) (omega arith) in
      let n = front_size (front_of (b ∷ l)) in
      behind (b ∷ l) (omega arith) (up_to k (drop n (b ∷ l)) (omega (arith, length-drop n (b ∷ l))))

replaced_nil : (k : ℕ) → replaced_by k [] ≡ []
unfolding replaced_by
replaced_nil zero = refl
replaced_nil (suc k) = refl

-- the first piece, and the rest
pub replaced_more : (s : List ℕ) → 0 < length s → replaced s ≡ piece_of (front_of s) s ++ replaced (drop (front_size (front_of s)) s)
unfolding replaced replaced_by
replaced_more = front_more replaced_by [] (λ s t. piece_of (front_of s) s ++ t) replaced_nil (λ k b s. refl)

pub replaced_none : (s : List ℕ) → length s ≡ 0 → replaced s ≡ []
unfolding replaced replaced_by
replaced_none = front_none replaced_by [] (λ s t. piece_of (front_of s) s ++ t) replaced_nil (λ k b s. refl)

counted_nil : (k : ℕ) → ill_formed_by k [] ≡ 0
unfolding ill_formed_by
counted_nil zero = refl
counted_nil (suc k) = refl

-- the first front counted, and the rest
pub replacements_more : (s : List ℕ) → 0 < length s → replacements s ≡ ill_formed (front_of s) + replacements (drop (front_size (front_of s)) s)
unfolding replacements ill_formed_by
replacements_more = front_more ill_formed_by 0 (λ s n. ill_formed (front_of s) + n) counted_nil (λ k b s. refl)

pub replacements_none : (s : List ℕ) → length s ≡ 0 → replacements s ≡ 0
unfolding replacements ill_formed_by
replacements_none = front_none ill_formed_by 0 (λ s n. ill_formed (front_of s) + n) counted_nil (λ k b s. refl)

-- a front counts as one at the most
pub one_most : (f : Front) → ill_formed f ≤ 1
one_most (Front.WellFormed n) = omega arith
one_most (Front.IllFormed n) = omega arith

-- a well-formed sequence is there whole
pub well_in : (s : List ℕ) {f : Front} {n : ℕ} → f ≡ front_of s → f ≡ Front.WellFormed n → 0 < length s → n ≤ length s
well_in s e q h = let w = sym e ∙ q in rw w at (size_in s h)

-- a writer of what a judged front becomes
module _ {old : List ℕ} {at : ℕ} {s : List ℕ} {f : Front} {n : ℕ} {new : List ℕ} {r : ℕ} (e : f ≡ front_of s) where
  pub fronted_well : f ≡ Front.WellFormed n → Put old at (take n s) new r → Fronted old at s new r n 0
  fronted_well q p = let w = sym e ∙ q in record { puts = rw w p; takes = rw w; counts = rw w }

  pub fronted_ill : f ≡ Front.IllFormed n → Put old at replacement new r → Fronted old at s new r n 1
  fronted_ill q p = let w = sym e ∙ q in record { puts = rw w p; takes = rw w; counts = rw w }

-- what is still to be put behind offset i, put and counted, completes all of s
abbrev pub Completes : List ℕ → ℕ → List ℕ → List ℕ → ℕ → ℕ → ℕ → Type 0
Completes old at s now o i count =
    ((new : List ℕ) (r : ℕ) → Put now o (replaced (drop i s)) new r → Put old at (replaced s) new r)
    × (count + replacements (drop i s) ≡ replacements s)

-- at the start, with nothing put, and at the end
pub completes_none : {old : List ℕ} {at : ℕ} (s : List ℕ) → Completes old at s old at 0 0
completes_none s = (λ new r p. p, omega arith)

pub completes_all : {old : List ℕ} {at : ℕ} (s : List ℕ) {now : List ℕ} {o i count : ℕ} → length s ≤ i → Completes old at s now o i count
    → Copies old at (replaced s) (replacements s) now (record { at = o; replacements = count })
completes_all s {now} {o} {i} h g =
    let over : length (drop i s) ≡ 0 = omega (arith, length-drop i s) in
    record {
      puts = g.0 now o (rw (replaced_none (drop i s) over) put_nil);
      counts = omega (arith, g.1, replacements_none (drop i s) over);
    }

-- after a front more
pub completes_more : {old : List ℕ} {at : ℕ} (s : List ℕ) {now : List ℕ} {o i : ℕ} (count : ℕ) {next : List ℕ} {a n k : ℕ} → i < length s
    → Completes old at s now o i count → Fronted now o (take (length s - i) (drop i s)) next a n k → Completes old at s next a (i + n) (count + k)
completes_more s {now} {o} {i} count {next} {a} {n} {k} h g p =
    let long = length-drop i s in
    let t : Fronted now o (drop i s) next a n k = rw (rest_is s i) at p in
    let d : drop (i + n) s ≡ drop (front_size (front_of (drop i s))) (drop i s) = rw (← t.takes, drop-drop) in (
      λ new r q. g.0 new r (rw (replaced_more (drop i s) (omega arith)) (put_put t.puts (rw d at q))),
      rw d (omega (arith, g.1, t.counts, replacements_more (drop i s) (omega arith))),
    )

-- a front moves on by a byte at least, and not past the end; it counts as one at the most
pub moves : (s : List ℕ) {old : List ℕ} {at i : ℕ} {new : List ℕ} {r n k : ℕ} → i < length s
    → Fronted old at (take (length s - i) (drop i s)) new r n k → (1 ≤ n) × (i + n ≤ length s) × (k ≤ 1)
moves s {old} {at} {i} {new} {r} {n} {k} h p =
    let long = length-drop i s in
    let t : Fronted old at (drop i s) new r n k = rw (rest_is s i) at p in
    let e = t.takes in
    (omega (arith, size_one (drop i s) (omega arith)), omega (arith, size_in (drop i s) (omega arith)), omega (arith, t.counts, one_most (front_of (drop i s))))
