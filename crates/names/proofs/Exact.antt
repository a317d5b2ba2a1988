-- What is recognised is a part of the grammar, and each part of the grammar is recognised. Assumes nothing.
use Prim.Native.Nat.{ℕ, ◌+◌, ◌≤◌, ◌<◌}
use mathlib.Core.Path.{◌≡◌, refl, sym, ap, ◌∙◌}
use mathlib.Core.List.{List, [], ◌∷◌, ◌++◌}
use mathlib.Core.Bool.{Bool, true, false, ◌&&◌, true≢false}
use mathlib.Core.Logic.{◌⊎◌}
use native.Mathlib.Omega.{arith}
use native.Mathlib.Decide.{dec_le}
use lib.Dec.{eqb, lit≤}
use lib.ListN.{length, get_or, drop, length-append}
use borrow.Author.Tests.{ne_eqb, eqb-true}
use Rattle.laws.proofs.Choice.{chosen_by}
use Rattle.laws.proofs.Lists.{Each}
use Rattle.laws.proofs.Tests.{and_both}
use Rattle.buffer.specs.Ascii.{ascii}
use Rattle.buffer.specs.Decimal.{decimal}
use Rattle.numbers.specs.Numbers.{number_in, further_all, further}
use Rattle.numbers.proofs.Numbers.{digit_first}
use Rattle.grammar.specs.Forms.{Form, Makes}
use Rattle.grammar.specs.Rows.{Row, rows, open_rows, kind_rows, word_rows, word_row, In, Has}
use Rattle.grammar.specs.Slots as slot
use Rattle.grammar.proofs.Listed.{passes, row_passes, and_then, each_in}
use Rattle.grammar.proofs.Sized.{sized}
use Rattle.compare.specs.Compare.{same, begins_with, up_to}
use Rattle.compare.proofs.Compare.{up_past, up_here}
use Rattle.letters.specs.Letters.{language_value, region_value}
use Rattle.letters.proofs.Letters.{language_short, language_not, language_forth}
use Rattle.forms.specs.Values.{number_value, number_before, density_value, pair_value, minor_value}
use Rattle.forms.proofs.Values.{between_back, up_decimal, no_x, no_dot}
use Rattle.parts.specs.declared.Found.{Found}
use Rattle.parts.specs.Recognised.{value_in, in_slot, first_of, recognised}
use Rattle.parts.specs.Beginning.{head_of, beginning}
use Rattle.parts.proofs.Gives.{gives, makes}
use Rattle.parts.proofs.Beginning.{recognised_by, recognised_language, head_digit, head_front}

-- what one of some rows of the table gives is a part
first_has : (rs : List Row) (s : List ℕ) → ((p : ℕ) (f : Form) → In (p, f) rs → In (p, f) rows) → 1 ≤ (first_of rs s).value → Has (first_of rs s).slot (first_of rs s).value s
unfolding first_of
first_has [] s i = λ h. absurd (omega arith)
first_has (r ∷ rs) s i =
    chosen_by (λ (f : Found). 1 ≤ f.value → Has f.slot f.value s) (eqb (value_in r.1 s) 0)
    (λ e. first_has rs s (λ p f j. i p f (In.there j)))
    (λ e h. record { form = r.1; listed = i r.0 r.1 In.here; makes = makes r.1 s (value_in r.1 s) refl h })

-- what is recognised is a part
pub sound : (s : List ℕ) → 1 ≤ (recognised s).value → Has (recognised s).slot (recognised s).value s
unfolding recognised
sound s = first_has rows s (λ p f i. i)

-- the first of the rows that begin as a part does
first_row : (k p : ℕ) (f : Form) (rs : List Row) {v : ℕ} {w : List ℕ} → beginning k rows ≡ (p, f) ∷ rs → Makes f v w → 1 ≤ v → language_value w ≡ 0 → head_of w ≡ k
    → recognised w ≡ in_slot p v
unfolding first_of
first_row k p f rs {v} {w} e m n l h =
    sym (recognised_by k w l h) ∙ ap (λ (q : List Row). first_of q w) e ∙ rw (gives m, ne_eqb v 0 (λ z. omega arith))

-- the second, where the first gives no value
second_row : (k q : ℕ) (g : Form) (p : ℕ) (f : Form) (rs : List Row) {v : ℕ} {w : List ℕ} → beginning k rows ≡ (q, g) ∷ (p, f) ∷ rs → value_in g w ≡ 0 → Makes f v w
    → 1 ≤ v → language_value w ≡ 0 → head_of w ≡ k → recognised w ≡ in_slot p v
unfolding first_of
second_row k q g p f rs {v} {w} e z m n l h =
    sym (recognised_by k w l h) ∙ ap (λ (q : List Row). first_of q w) e ∙ rw (z, gives m, ne_eqb v 0 (λ z. omega arith))

-- what is long is no language
long_not : (w : List ℕ) → 4 ≤ length w → language_value w ≡ 0
long_not w h =
    elim (dec_le 1 (language_value w)) [
      | yes l ↦ absurd (omega (arith, language_short w l))
      | no l ↦ omega arith
    ]

-- nor is what has a number between two words of three bytes or more
numbered_not : (front back : List ℕ) (n : ℕ) → 3 ≤ length front + length back → language_value (front ++ (decimal n ++ back)) ≡ 0
numbered_not front back n h =
    long_not (front ++ (decimal n ++ back)) (omega (arith, length-append front (decimal n ++ back), length-append (decimal n) back, (digit_first n).0))

-- nor what begins with a digit
digit_not : (n : ℕ) (w : List ℕ) → language_value (decimal n ++ w) ≡ 0
digit_not n w = let d = digit_first n in language_not (decimal n ++ w) 0 (omega arith) (low (decimal n) d.0 d.2)
  where
    low : (u : List ℕ) → 1 ≤ length u → get_or u 0 0 ≤ 57 → get_or (u ++ w) 0 0 < 97
    low [] h k = absurd (omega arith)
    low (b ∷ u) h k = omega arith

-- nor a letter and a digit
letter_digit_not : (b n : ℕ) (w : List ℕ) → language_value (b ∷ (decimal n ++ w)) ≡ 0
letter_digit_not b n w = let d = digit_first n in language_not (b ∷ (decimal n ++ w)) 1 (omega arith) (low (decimal n) d.0 d.2)
  where
    low : (u : List ℕ) → 1 ≤ length u → get_or u 0 0 ≤ 57 → get_or (b ∷ (u ++ w)) 1 0 < 97
    low [] h k = absurd (omega arith)
    low (a ∷ u) h k = omega arith

-- a number and fixed words that have no byte b aren't what has one behind a number
no_mark : (b : ℕ) (u v back : List ℕ) (k : ℕ) → up_to b u ≡ length u → up_to b (decimal k ++ back) ≡ length (decimal k ++ back) → u ++ b ∷ v ≡ decimal k ++ back → ⊥
no_mark b u v back k e f g =
    let p = up_here b u v e in
    let l = ap length g in
    let m = length-append u (b ∷ v) in
    let n = ap (up_to b) g in
    omega arith

-- a version with a minor one is none without
no_version : (n m : ℕ) → number_value (ascii "v") [] (ascii "v" ++ (decimal n ++ (ascii "." ++ decimal m))) ≡ 0
unfolding up_to
no_version n m =
    let w = ascii "v" ++ (decimal n ++ (ascii "." ++ decimal m)) in
    elim (dec_le 1 (number_value (ascii "v") [] w)) [
      | no l ↦ omega arith
      | yes l ↦
          let k = number_value (ascii "v") [] w in
          let b = between_back (ascii "v") [] w k refl l in
          let u = up_past 46 (decimal k) [] (up_decimal 46 k no_dot) ∙ sym (length-append (decimal k) []) in
          absurd (no_mark 46 (decimal n) (decimal m) [] k (up_decimal 46 n no_dot) u (ap (drop 1) b.0))
    ]

-- both sides are no number before "dpi"
no_dpi : (n m : ℕ) → number_value [] (ascii "dpi") (decimal n ++ (ascii "x" ++ decimal m)) ≡ 0
unfolding up_to
no_dpi n m =
    let w = decimal n ++ (ascii "x" ++ decimal m) in
    elim (dec_le 1 (number_value [] (ascii "dpi") w)) [
      | no l ↦ omega arith
      | yes l ↦
          let k = number_value [] (ascii "dpi") w in
          let b = between_back [] (ascii "dpi") w k refl l in
          let u = up_past 120 (decimal k) (ascii "dpi") (up_decimal 120 k no_x) ∙ sym (length-append (decimal k) (ascii "dpi")) in
          absurd (no_mark 120 (decimal n) (decimal m) (ascii "dpi") k (up_decimal 120 n no_x) u b.0)
    ]

-- so they are no density
no_density : (n m : ℕ) → density_value (decimal n ++ (ascii "x" ++ decimal m)) ≡ 0
unfolding density_value
no_density n m = rw (no_dpi n m)

-- a row's parts are recognised as its own
abbrev Own : Row → Type 0
Own r = (v : ℕ) (w : List ℕ) → Makes r.1 v w → 1 ≤ v → recognised w ≡ in_slot r.0 v

-- a number between two words that are three bytes or more together, where its row is the first that begins so
number_own : (k p : ℕ) (front back : List ℕ) (rs : List Row) → beginning k rows ≡ (p, Form.number front back) ∷ rs → 3 ≤ length front + length back → head_of front ≡ k
    → Own (p, Form.number front back)
number_own k p front back rs e l h v w (Makes.number {n = n} g) m =
    first_row k p (Form.number front back) rs e (Makes.number g) m (numbered_not front back n l) (head_front front back n ∙ h)

-- the network code, which begins as the country code does
mnc_own : Own (slot.mnc, Form.number (ascii "mnc") [])
unfolding beginning rows kind_rows word_rows word_row value_in number_value begins_with same
mnc_own v w (Makes.number {n = n} h) m = second_row 109 _ _ _ _ _ refl refl (Makes.number h) m (numbered_not (ascii "mnc") [] n (lit≤ tt)) refl

-- a region
region_own : Own (slot.region, Form.region)
unfolding beginning rows kind_rows word_rows word_row
region_own v w (Makes.two_capitals {a = a} {b = b} h k) m =
    first_row 114 _ _ _ refl (Makes.two_capitals h k) m (language_not (114 ∷ a ∷ b ∷ []) 1 (omega arith) (omega arith)) refl
region_own v w (Makes.three_digits {a = a} {b = b} {c = c} h k l) m =
    first_row 114 _ _ _ refl (Makes.three_digits h k l) m (language_not (114 ∷ a ∷ b ∷ c ∷ []) 1 (omega arith) (omega arith)) refl

-- a density that has no word
density_own : Own (slot.density, Form.density)
unfolding beginning rows kind_rows word_rows word_row
density_own v w (Makes.density {n = n} h e) m = first_row 48 _ _ _ refl (Makes.density h e) m (digit_not n (ascii "dpi")) (head_digit n (ascii "dpi"))

-- both sides
sides_own : Own (slot.sides, Form.sides)
unfolding beginning rows kind_rows word_rows word_row value_in
sides_own v w (Makes.sides {n = n} {m = j} h k f) m =
    second_row 48 _ _ _ _ _ refl (no_density n j) (Makes.sides h k f) m (digit_not n (ascii "x" ++ decimal j)) (head_digit n (ascii "x" ++ decimal j))

-- a version, without and with a minor one
version_own : Own (slot.version, Form.number (ascii "v") [])
unfolding beginning rows kind_rows word_rows word_row
version_own v w (Makes.number {n = n} h) m = first_row 118 _ _ _ refl (Makes.number h) m (letter_digit_not 118 n []) refl

minor_own : Own (slot.version, Form.minor)
unfolding beginning rows kind_rows word_rows word_row value_in
minor_own v w (Makes.minor {n = n} {m = j} h k) m =
    second_row 118 _ _ _ _ _ refl (no_version n j) (Makes.minor h k) m (letter_digit_not 118 n (ascii "." ++ decimal j)) refl

-- the rows with numbers or letters
open_own : Each Own open_rows
unfolding beginning rows kind_rows word_rows word_row
open_own =
    and_then (number_own 109 _ _ _ _ refl (lit≤ tt) refl)
    (and_then mnc_own
    (and_then (λ v w m n. sym (recognised_language w (sym (language_forth m)) (λ z. omega arith)))
    (and_then region_own
    (and_then (number_own 115 _ _ _ _ refl (lit≤ tt) refl)
    (and_then (number_own 119 _ _ _ _ refl (lit≤ tt) refl)
    (and_then (number_own 104 _ _ _ _ refl (lit≤ tt) refl)
    (and_then density_own
    (and_then sides_own
    (and_then version_own
    (and_then minor_own tt))))))))))

-- whether a row is a word that is recognised as its own
rightly : ℕ → Form → Bool
rightly s (Form.word v w) = eqb (recognised w).slot s && eqb (recognised w).value v
rightly s (Form.number front back) = false
rightly s Form.density = false
rightly s Form.sides = false
rightly s Form.minor = false
rightly s Form.language = false
rightly s Form.region = false

-- every word is
all_rightly : passes rightly kind_rows ≡ true
unfolding rightly kind_rows word_rows word_row recognised first_of rows value_in number_value begins_with number_before number_in further_all further same density_value pair_value up_to minor_value language_value region_value
all_rightly = refl

found_is : (f : Found) (s v : ℕ) → f.slot ≡ s → f.value ≡ v → f ≡ in_slot s v
found_is f s v e g = rw (← e, ← g)

-- so the words' rows
word_own : (s : ℕ) (f : Form) → rightly s f ≡ true → Own (s, f)
unfolding rightly
word_own s f e v w (Makes.word {v = u} {w = x}) n =
    let q = and_both {a = eqb (recognised w).slot s} {b = eqb (recognised w).value v} e in found_is (recognised w) s v (eqb-true _ _ q.0) (eqb-true _ _ q.1)
word_own s f e v w (Makes.number h) n = absurd (true≢false (sym e))
word_own s f e v w (Makes.density h g) n = absurd (true≢false (sym e))
word_own s f e v w (Makes.sides h k g) n = absurd (true≢false (sym e))
word_own s f e v w (Makes.minor h k) n = absurd (true≢false (sym e))
word_own s f e v w (Makes.two_letters a b) n = absurd (true≢false (sym e))
word_own s f e v w (Makes.three_letters a b c g) n = absurd (true≢false (sym e))
word_own s f e v w (Makes.two_capitals a b) n = absurd (true≢false (sym e))
word_own s f e v w (Makes.three_digits a b c) n = absurd (true≢false (sym e))

-- a row of both tables is in one of them
in_one : (r : Row) (l m : List Row) → In r (l ++ m) → In r l ⊎ In r m
in_one r [] m i = ◌⊎◌.inr i
in_one r (y ∷ l) m In.here = ◌⊎◌.inl In.here
in_one r (y ∷ l) m (In.there i) = later (in_one r l m i)
  where
    later : In r l ⊎ In r m → In r (y ∷ l) ⊎ In r m
    later (◌⊎◌.inl j) = ◌⊎◌.inl (In.there j)
    later (◌⊎◌.inr j) = ◌⊎◌.inr j

-- every row's parts are recognised as its own
row_own : (s : ℕ) (f : Form) → In (s, f) rows → Own (s, f)
unfolding rows
row_own s f i = go (in_one (s, f) open_rows kind_rows i)
  where
    go : In (s, f) open_rows ⊎ In (s, f) kind_rows → Own (s, f)
    go (◌⊎◌.inl j) = each_in Own (s, f) open_rows open_own j
    go (◌⊎◌.inr j) = word_own s f (row_passes rightly s f kind_rows all_rightly j)

-- and each part is recognised
pub complete : {s v : ℕ} {w : List ℕ} → Has s v w → recognised w ≡ in_slot s v
complete {s} {v} {w} h = row_own s h.form h.listed v w h.makes (sized h).valued
