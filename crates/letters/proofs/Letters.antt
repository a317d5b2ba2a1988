-- Laws of languages and regions: each has the value that the grammar's form puts, and what has a value is what the form makes.
-- Assumes nothing.
use Prim.Native.Nat.{ℕ, zero, suc, ◌≤◌, ◌<◌}
use mathlib.Core.Path.{◌≡◌, refl, sym, subst, ◌∙◌}
use mathlib.Core.List.{List, [], ◌∷◌}
use mathlib.Core.Bool.{Bool, true, false, cond, ◌&&◌, true≢false}
use native.Mathlib.Omega.{arith}
use native.Mathlib.Decide.{dec_le}
use lib.Dec.{eqb}
use lib.ListN.{length, get_or}
use borrow.Author.Tests.{le-leb, leb-true, eqb-true}
use Rattle.std.specs.Prelude.{Option, Some, None, SomeIff, IsTrue}
use Rattle.laws.proofs.Choice.{chosen_by}
use Rattle.laws.proofs.Tests.{and_both}
use Rattle.buffer.specs.Ascii.{ascii}
use Rattle.compare.specs.Compare.{same}
use Rattle.compare.proofs.Compare.{same_false, same_refl}
use Rattle.grammar.specs.Forms.{Within, letter_pair, packed, Form, Makes}
use Rattle.letters.specs.Letters.{within, two, three, language_value, region_value}

-- a byte that passes the test is one of lo to hi
pub within_says : (lo hi a : ℕ) → within lo hi a ≡ true → Within lo hi a
within_says lo hi a e = let b = and_both e in record { low = leb-true lo a b.0; high = leb-true a hi b.1 }

-- a byte of lo to hi passes it
within_holds : {lo hi a : ℕ} → Within lo hi a → within lo hi a ≡ true
within_holds {lo} {hi} {a} w = rw (le-leb lo a w.low, le-leb a hi w.high)

-- two bytes of lo to hi have the value of two letters
pub two_forth : {lo hi a b : ℕ} → Within lo hi a → Within lo hi b → two lo hi a b ≡ letter_pair a b
two_forth {lo} {hi} {a} {b} p q = rw (within_holds p, within_holds q)

-- three have that of three
pub three_forth : {lo hi a b c : ℕ} → Within lo hi a → Within lo hi b → Within lo hi c → three lo hi a b c ≡ packed lo a b c
three_forth {lo} {hi} {a} {b} {c} p q r = rw (within_holds p, within_holds q, within_holds r)

-- a value of 1 or more stands where the test holds
put_by : (t : Bool) (n v : ℕ) → cond t n 0 ≡ v → 1 ≤ v → (t ≡ true) × (n ≡ v)
put_by true n v e h = (refl, e)
put_by false n v e h = absurd (omega arith)

-- two bytes of lo to hi that put v
record Two (lo hi a b v : ℕ) : Type 0 where
  first : Within lo hi a
  second : Within lo hi b
  puts : letter_pair a b ≡ v

-- two bytes with a value are such
two_back : (lo hi a b v : ℕ) → two lo hi a b ≡ v → 1 ≤ v → Two lo hi a b v
two_back lo hi a b v e h =
    let p = put_by (within lo hi a && within lo hi b) (letter_pair a b) v e h in
    let q = and_both p.0 in
    record { first = within_says lo hi a q.0; second = within_says lo hi b q.1; puts = p.1 }

-- two bytes that pass the test have their value, where 0 doesn't pass it, and others have none
pub two_given : (r : Option ℕ) (lo hi a b : ℕ) → 0 < lo → SomeIff r (IsTrue (within lo hi a && within lo hi b)) (letter_pair a b)
    → SomeIff r (0 < two lo hi a b) (two lo hi a b)
two_given None lo hi a b low fails = λ h. fails (put_by (within lo hi a && within lo hi b) (letter_pair a b) (two lo hi a b) refl h).0
two_given (Some x) lo hi a b low passes =
    let q = and_both passes.0 in
    let first = within_says lo hi a q.0 in
    let is = two_forth first (within_says lo hi b q.1) in
    (omega (arith, is, first.low), passes.1 ∙ sym is)

-- three bytes of lo to hi that put v
record Three (lo hi a b c v : ℕ) : Type 0 where
  first : Within lo hi a
  second : Within lo hi b
  third : Within lo hi c
  puts : packed lo a b c ≡ v

-- three bytes with a value are such
three_back : (lo hi a b c v : ℕ) → three lo hi a b c ≡ v → 1 ≤ v → Three lo hi a b c v
three_back lo hi a b c v e h =
    let p = put_by (within lo hi a && within lo hi b && within lo hi c) (packed lo a b c) v e h in
    let q = and_both p.0 in
    let r = and_both q.0 in
    record { first = within_says lo hi a r.0; second = within_says lo hi b r.1; third = within_says lo hi c q.1; puts = p.1 }

-- a language has the value that it puts
pub language_forth : {v : ℕ} {w : List ℕ} → Makes Form.language v w → language_value w ≡ v
unfolding language_value
language_forth (Makes.two_letters p q) = two_forth p q
language_forth (Makes.three_letters {a} {b} {c} p q r n) = rw (same_false (a ∷ b ∷ c ∷ []) (ascii "car") n) (three_forth p q r)

-- bytes that aren't the same as "car" aren't "car"
not_car : (s : List ℕ) → same s (ascii "car") ≡ false → s ≡ ascii "car" → ⊥
not_car s f e = true≢false (rw (e, same_refl (ascii "car")) at f)

-- bytes with a value are a language that puts it
pub language_back : (s : List ℕ) (v : ℕ) → language_value s ≡ v → 1 ≤ v → Makes Form.language v s
unfolding language_value
language_back [] v e h = absurd (omega arith)
language_back (a ∷ []) v e h = absurd (omega arith)
language_back (a ∷ b ∷ []) v e h =
    let t = two_back 97 122 a b v e h in
    subst (λ n. Makes Form.language n (a ∷ b ∷ [])) t.puts (Makes.two_letters t.first t.second)
language_back (a ∷ b ∷ c ∷ []) v e h =
    chosen_by (λ (x : ℕ). x ≡ v → Makes Form.language v (a ∷ b ∷ c ∷ [])) (same (a ∷ b ∷ c ∷ []) (ascii "car"))
    (λ y z. absurd (omega arith))
    (λ y z.
    let t = three_back 97 122 a b c v z h in
    subst (λ n. Makes Form.language n (a ∷ b ∷ c ∷ [])) t.puts
    (Makes.three_letters t.first t.second t.third (not_car (a ∷ b ∷ c ∷ []) y)))
    e
language_back (a ∷ b ∷ c ∷ d ∷ s) v e h = absurd (omega arith)

-- a region has the value that it puts
pub region_forth : {v : ℕ} {w : List ℕ} → Makes Form.region v w → region_value w ≡ v
unfolding region_value
region_forth (Makes.two_capitals p q) = two_forth p q
region_forth (Makes.three_digits p q r) = three_forth p q r

-- bytes with a value are a region that puts it
pub region_back : (s : List ℕ) (v : ℕ) → region_value s ≡ v → 1 ≤ v → Makes Form.region v s
unfolding region_value
region_back [] v e h = absurd (omega arith)
region_back (r ∷ []) v e h = absurd (omega arith)
region_back (r ∷ a ∷ []) v e h = absurd (omega arith)
region_back (r ∷ a ∷ b ∷ []) v e h =
    let p = put_by (eqb r 114) (two 65 90 a b) v e h in
    let t = two_back 65 90 a b v p.1 h in
    rw (eqb-true r 114 p.0, ← t.puts) (Makes.two_capitals t.first t.second)
region_back (r ∷ a ∷ b ∷ c ∷ []) v e h =
    let p = put_by (eqb r 114) (three 48 57 a b c) v e h in
    let t = three_back 48 57 a b c v p.1 h in
    rw (eqb-true r 114 p.0, ← t.puts) (Makes.three_digits t.first t.second t.third)
region_back (r ∷ a ∷ b ∷ c ∷ d ∷ s) v e h = absurd (omega arith)

-- the grammar makes no language of more than three letters
made_short : {v : ℕ} {w : List ℕ} → Makes Form.language v w → length w ≤ 3
made_short (Makes.two_letters p q) = omega arith
made_short (Makes.three_letters p q r n) = omega arith

-- bytes with a value are three at the most
pub language_short : (s : List ℕ) → 1 ≤ language_value s → length s ≤ 3
language_short s h = made_short (language_back s (language_value s) refl h)

-- more bytes are no language
pub language_long : (s : List ℕ) → 4 ≤ length s → language_value s ≡ 0
language_long s h =
    elim (dec_le 1 (language_value s)) [
      | yes g ↦ absurd (omega (arith, language_short s g))
      | no g ↦ omega arith
    ]

-- the first two bytes of a language are lowercase letters, by the grammar
made_letters : {v : ℕ} {w : List ℕ} → Makes Form.language v w → (i : ℕ) → i < 2 → Within 97 122 (get_or w i 0)
made_letters (Makes.two_letters p q) zero h = p
made_letters (Makes.two_letters p q) (suc zero) h = q
made_letters (Makes.two_letters p q) (suc (suc i)) h = absurd (omega arith)
made_letters (Makes.three_letters p q r n) zero h = p
made_letters (Makes.three_letters p q r n) (suc zero) h = q
made_letters (Makes.three_letters p q r n) (suc (suc i)) h = absurd (omega arith)

-- the same, of bytes with a value
pub language_letters : (s : List ℕ) → 1 ≤ language_value s → (i : ℕ) → i < 2 → Within 97 122 (get_or s i 0)
language_letters s h = made_letters (language_back s (language_value s) refl h)

-- of the first byte alone
pub language_first : (s : List ℕ) → 1 ≤ language_value s → (97 ≤ get_or s 0 0) × (get_or s 0 0 ≤ 122)
language_first s h = let w = language_letters s h 0 (omega arith) in (w.low, w.high)

-- bytes with a lower byte among their first two are no language
pub language_not : (s : List ℕ) (i : ℕ) → i < 2 → get_or s i 0 < 97 → language_value s ≡ 0
language_not s i h l =
    elim (dec_le 1 (language_value s)) [
      | yes g ↦ absurd (omega (arith, (language_letters s g i h).low))
      | no g ↦ omega arith
    ]

-- a region begins with 'r', by the grammar
made_first : {v : ℕ} {w : List ℕ} → Makes Form.region v w → get_or w 0 0 ≡ 114
made_first (Makes.two_capitals p q) = refl
made_first (Makes.three_digits p q r) = refl

-- the same, of bytes with a value
pub region_first : (s : List ℕ) → 1 ≤ region_value s → get_or s 0 0 ≡ 114
region_first s h = made_first (region_back s (region_value s) refl h)

-- bytes that begin with another byte are no region
pub region_not : (s : List ℕ) → (get_or s 0 0 ≡ 114 → ⊥) → region_value s ≡ 0
region_not s n =
    elim (dec_le 1 (region_value s)) [
      | yes g ↦ absurd (n (region_first s g))
      | no g ↦ omega arith
    ]
