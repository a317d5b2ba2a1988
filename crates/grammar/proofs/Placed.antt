-- What the text says of a slot that has a part: the part. Assumes nothing.
use Prim.Native.Nat.{ℕ, zero, suc, ◌+◌, ◌*◌, ◌/◌, ◌%◌, ◌≤◌}
use mathlib.Core.Path.{◌≡◌, refl, ap, ◌∙◌}
use mathlib.Core.Bool.{Bool, true, false, not, ◌&&◌}
use mathlib.Core.List.{List, [], ◌∷◌, ◌++◌, append_assoc, append-nil}
use native.Mathlib.Omega.{arith}
use lib.Dec.{eqb}
use lib.ListN.{get_or, length}
use borrow.Author.Tests.{ne_eqb, not-true}
use Rattle.laws.proofs.Tests.{and_both}
use Rattle.laws.proofs.Choice.{chosen_by}
use Rattle.laws.proofs.Lists.{Each}
use Rattle.buffer.specs.Ascii.{ascii}
use Rattle.buffer.specs.Decimal.{decimal}
use Rattle.kinds.specs.Input.{touchscreens, keyboards, nav_hiddens, navigations, touchscreen_of, keys_hidden_of, keyboard_of, nav_hidden_of, navigation_of}
use Rattle.kinds.specs.Mode.{grammatical_genders, ui_modes, ui_mode_nights, grammatical_gender_of, ui_mode_of, ui_mode_night_of}
use Rattle.kinds.specs.Screen.{layout_dirs, screen_sizes, screen_longs, screen_rounds, wide_color_gamuts, hdrs, orientations, densities, layout_dir_of, screen_size_of, screen_long_of, screen_round_of, wide_color_gamut_of, hdr_of, orientation_of, density_of}
use Rattle.kinds.specs.declared.Kind.{Kind}
use Rattle.kinds.proofs.Pick.{EachRow}
use Rattle.said_kinds.specs.Said.{kind_said}
use Rattle.words.specs.Words.{words_of}
use Rattle.places.specs.Say.{Place}
use Rattle.places.specs.Places.{kind_place, label_place, dp_place, some, minor_words}
use Rattle.grammar.specs.Forms.{Form, Makes, Within}
use Rattle.grammar.specs.Rows.{Row, rows, open_rows, kind_rows, word_rows, word_row, all_keys_hiddens, Has}
use Rattle.grammar.specs.Slots as slot
use Rattle.grammar.proofs.Listed.{and_then, each_append, each_in}
use Rattle.grammar.proofs.Letters.{letters_of, Holds, two_back, three_back}

-- what the text has for each slot, of its value alone; language and region apart, each said where its first byte isn't 0
unfoldable pub places_at : ℕ → List Place
places_at v =
    label_place (ascii "mcc") v ∷
    label_place (ascii "mnc") v ∷
    (some (v % 256), letters_of 97 v) ∷
    (some (v % 256), ascii "r" ++ letters_of 48 v) ∷
    kind_place (Kind.GrammaticalGender (grammatical_gender_of v)) ∷
    kind_place (Kind.LayoutDir (layout_dir_of v)) ∷
    dp_place (ascii "sw") v ∷
    dp_place (ascii "w") v ∷
    dp_place (ascii "h") v ∷
    kind_place (Kind.ScreenSize (screen_size_of v)) ∷
    kind_place (Kind.ScreenLong (screen_long_of v)) ∷
    kind_place (Kind.ScreenRound (screen_round_of v)) ∷
    kind_place (Kind.WideColorGamut (wide_color_gamut_of v)) ∷
    kind_place (Kind.Hdr (hdr_of v)) ∷
    kind_place (Kind.Orientation (orientation_of v)) ∷
    kind_place (Kind.UIMode (ui_mode_of v)) ∷
    kind_place (Kind.UIModeNight (ui_mode_night_of v)) ∷
    kind_place (Kind.Density (density_of v)) ∷
    kind_place (Kind.Touchscreen (touchscreen_of v)) ∷
    kind_place (Kind.KeysHidden (keys_hidden_of v)) ∷
    kind_place (Kind.Keyboard (keyboard_of v)) ∷
    kind_place (Kind.NavHidden (nav_hidden_of v)) ∷
    kind_place (Kind.Navigation (navigation_of v)) ∷
    (some v, decimal (v % 65536) ++ ascii "x" ++ decimal (v / 65536)) ∷
    (some v, ascii "v" ++ decimal (v % 65536) ++ minor_words (v / 65536)) ∷
    []

-- what it has for slot s
unfoldable pub place_at : ℕ → ℕ → Place
place_at s v = get_or (places_at v) s (false, [])

-- a row's parts are said as they are
abbrev SaysRow : Row → Type 0
SaysRow r = (v : ℕ) (w : List ℕ) → Makes r.1 v w → place_at r.0 v ≡ (true, w)

-- said, and with these words
place_is : (q : Place) (w : List ℕ) → q.0 ≡ true → q.1 ≡ w → q ≡ (true, w)
place_is q w e f = rw (← e, ← f)

-- a number that isn't 0 is some
some_true : (n : ℕ) → 1 ≤ n → some n ≡ true
some_true n h = rw (ne_eqb n 0 (λ e. omega arith))

-- the word of a kind's case, where the text's place of its number is that case's
word_said : (s n : ℕ) (k : Kind) → place_at s n ≡ kind_place k → Each SaysRow (word_row s n k)
unfolding word_row
word_said s n k e =
    chosen_by (λ (l : List Row). Each SaysRow l) (kind_said k && not (eqb (length (words_of k)) 0))
    (λ t. (says (and_both {a = kind_said k} {b = not (eqb (length (words_of k)) 0)} t).0, tt)) (λ t. tt)
  where
    says : kind_said k ≡ true → (v : ℕ) (w : List ℕ) → Makes (Form.word n (words_of k)) v w → place_at s v ≡ (true, w)
    says q v w Makes.word = rw e (place_is (kind_place k) w q refl)

-- the text's place of each number of a kind's table is that of its case
abbrev ReadAs : {A : Type 0} → ℕ → (A → Kind) → List (ℕ × A) → Type 0
ReadAs s kind t = EachRow (λ n a. place_at s n ≡ kind_place (kind a)) t

-- the words of a kind
words_said : {A : Type 0} (s : ℕ) (kind : A → Kind) (t : List (ℕ × A)) → ReadAs s kind t → Each SaysRow (word_rows s kind t)
unfolding word_rows
words_said s kind [] h = tt
words_said s kind (e ∷ t) h =
    each_append SaysRow (word_row s e.0 (kind e.1)) (word_rows s kind t) (word_said s e.0 (kind e.1) h.0) (words_said s kind t h.1)

-- one kind's words, and then those of the kinds behind it
and_words : {A : Type 0} (s : ℕ) (kind : A → Kind) (t : List (ℕ × A)) (l : List Row) → ReadAs s kind t → Each SaysRow l → Each SaysRow (word_rows s kind t ++ l)
and_words s kind t l h k = each_append SaysRow (word_rows s kind t) l (words_said s kind t h) k

-- the words of all kinds: each number of a table is read as its case, by computation
kinds_said : Each SaysRow kind_rows
unfolding kind_rows place_at places_at
kinds_said =
    and_words slot.gender Kind.GrammaticalGender grammatical_genders _ (refl, (refl, (refl, tt)))
    (and_words slot.layout_dir Kind.LayoutDir layout_dirs _ (refl, (refl, tt))
    (and_words slot.screen_size Kind.ScreenSize screen_sizes _ (refl, (refl, (refl, (refl, tt))))
    (and_words slot.screen_long Kind.ScreenLong screen_longs _ (refl, (refl, tt))
    (and_words slot.screen_round Kind.ScreenRound screen_rounds _ (refl, (refl, tt))
    (and_words slot.gamut Kind.WideColorGamut wide_color_gamuts _ (refl, (refl, tt))
    (and_words slot.hdr Kind.Hdr hdrs _ (refl, (refl, tt))
    (and_words slot.orientation Kind.Orientation orientations _ (refl, (refl, (refl, (refl, tt))))
    (and_words slot.ui_type Kind.UIMode ui_modes _ (refl, (refl, (refl, (refl, (refl, (refl, (refl, (refl, tt))))))))
    (and_words slot.night Kind.UIModeNight ui_mode_nights _ (refl, (refl, (refl, tt)))
    (and_words slot.density Kind.Density densities _ (refl, (refl, (refl, (refl, (refl, (refl, (refl, (refl, (refl, (refl, tt))))))))))
    (and_words slot.touchscreen Kind.Touchscreen touchscreens _ (refl, (refl, (refl, (refl, tt))))
    (and_words slot.keys_hidden Kind.KeysHidden all_keys_hiddens _ (refl, (refl, (refl, (refl, tt))))
    (and_words slot.keyboard Kind.Keyboard keyboards _ (refl, (refl, (refl, (refl, tt))))
    (and_words slot.nav_hidden Kind.NavHidden nav_hiddens _ (refl, (refl, (refl, tt)))
    (words_said slot.navigation Kind.Navigation navigations (refl, (refl, (refl, (refl, (refl, tt))))))))))))))))))))

-- a number between two words
number_said : (s : ℕ) (front back : List ℕ) → ((n : ℕ) → Within 1 65535 n → place_at s n ≡ (some n, front ++ (decimal n ++ back)))
    → SaysRow (s, Form.number front back)
number_said s front back f v w (Makes.number {n = n} h) = f n h ∙ place_is (some n, front ++ (decimal n ++ back)) w (some_true n h.low) refl

-- with no word behind
label_said : (s : ℕ) (front : List ℕ) → ((n : ℕ) → Within 1 65535 n → place_at s n ≡ label_place front n) → SaysRow (s, Form.number front [])
label_said s front f = number_said s front [] (λ n h. rw (append-nil (decimal n)) (f n h))

-- dp behind
dp_said : (s : ℕ) (front : List ℕ) → ((n : ℕ) → place_at s n ≡ dp_place front n) → SaysRow (s, Form.number front (ascii "dp"))
dp_said s front f = number_said s front (ascii "dp") (λ n h. f n ∙ ap (λ (l : List ℕ). (some n, l)) (append_assoc front (decimal n) (ascii "dp")))

-- the halves of a number
low_high : (a b : ℕ) → a ≤ 65535 → ((a + b * 65536) % 65536 ≡ a) × ((a + b * 65536) / 65536 ≡ b)
low_high a b h = (omega arith, omega arith)

-- a version with no minor one
version_said : (n : ℕ) → Within 1 65535 n → place_at slot.version n ≡ label_place (ascii "v") n
unfolding place_at places_at
version_said n h =
    let e : n % 65536 ≡ n = omega arith in
    let g : n / 65536 ≡ 0 = omega arith in
    rw (e, g, append-nil (decimal n))

-- and with one
minor_said : SaysRow (slot.version, Form.minor)
unfolding place_at places_at
minor_said v w (Makes.minor {n = n} {m = m} h k) =
    let e = low_high n m h.high in
    place_is (place_at slot.version v) w (some_true (n + m * 65536) (omega (arith, k.low)))
    (rw (e.0, e.1, ne_eqb m 0 (λ z. omega (arith, k.low))) (append_assoc (ascii "v") (decimal n) (ascii "." ++ decimal m)))

-- both sides
sides_said : SaysRow (slot.sides, Form.sides)
unfolding place_at places_at
sides_said v w (Makes.sides {n = n} {m = m} h k g) =
    let e = low_high n m h.high in
    place_is (place_at slot.sides v) w (some_true (n + m * 65536) (omega arith)) (rw (e.0, e.1) (append_assoc (decimal n) (ascii "x") (decimal m)))

-- a density that has no word
density_said : SaysRow (slot.density, Form.density)
unfolding place_at places_at
density_said v w (Makes.density {n = n} h e) = ap (λ k. kind_place (Kind.Density k)) e

-- letters behind a sign are said where the first byte isn't 0
letters_said : (s base : ℕ) (sign : List ℕ) → ((n : ℕ) → place_at s n ≡ (some (n % 256), sign ++ letters_of base n))
    → (v : ℕ) (w : List ℕ) → Holds base v w → place_at s v ≡ (true, sign ++ w)
letters_said s base sign f v w h =
    f v ∙ place_is (some (v % 256), sign ++ letters_of base v) (sign ++ w) (some_true (v % 256) h.begins) (ap (λ (l : List ℕ). sign ++ l) h.back)

-- a language
language_said : SaysRow (slot.language, Form.language)
unfolding place_at places_at
language_said v w (Makes.two_letters {a = a} {b = b} h k) = letters_said slot.language 97 [] (λ n. refl) v w (two_back 97 a b (omega arith) (omega arith) h k)
language_said v w (Makes.three_letters {a = a} {b = b} {c = c} h k l g) =
    letters_said slot.language 97 [] (λ n. refl) v w (three_back 97 a b c (omega arith) (omega arith) (omega arith) h k l)

-- a region
region_said : SaysRow (slot.region, Form.region)
unfolding place_at places_at
region_said v w (Makes.two_capitals {a = a} {b = b} h k) =
    letters_said slot.region 48 (ascii "r") (λ n. refl) v (a ∷ b ∷ []) (two_back 48 a b (omega arith) (omega arith) h k)
region_said v w (Makes.three_digits {a = a} {b = b} {c = c} h k l) =
    letters_said slot.region 48 (ascii "r") (λ n. refl) v (a ∷ b ∷ c ∷ []) (three_back 48 a b c (omega arith) (omega arith) (omega arith) h k l)

-- the forms with numbers or letters
opens_said : Each SaysRow open_rows
unfolding place_at places_at
opens_said =
    and_then (label_said slot.mcc (ascii "mcc") (λ n h. refl))
    (and_then (label_said slot.mnc (ascii "mnc") (λ n h. refl))
    (and_then language_said
    (and_then region_said
    (and_then (dp_said slot.smallest_width (ascii "sw") (λ n. refl))
    (and_then (dp_said slot.width (ascii "w") (λ n. refl))
    (and_then (dp_said slot.height (ascii "h") (λ n. refl))
    (and_then density_said
    (and_then sides_said
    (and_then (label_said slot.version (ascii "v") version_said)
    (and_then minor_said tt))))))))))

-- what a slot may have is what the text says of its value
pub has_said : {s v : ℕ} {w : List ℕ} → Has s v w → place_at s v ≡ (true, w)
unfolding rows
has_said {s} {v} {w} h = each_in SaysRow (s, h.form) rows (each_append SaysRow open_rows kind_rows opens_said kinds_said) h.listed v w h.makes

-- whether no place is said
quiet : List Place → Bool
quiet [] = true
quiet (q ∷ l) = not q.0 && quiet l

-- then one isn't
quiet_at : (l : List Place) (s : ℕ) → quiet l ≡ true → (get_or l s (false, [])).0 ≡ false
unfolding quiet
quiet_at [] s e = refl
quiet_at (q ∷ l) zero e = not-true q.0 (and_both {a = not q.0} {b = quiet l} e).0
quiet_at (q ∷ l) (suc s) e = quiet_at l s (and_both {a = not q.0} {b = quiet l} e).1

-- a value of 0 isn't said
pub silent : (s : ℕ) → (place_at s 0).0 ≡ false
unfolding place_at places_at quiet
silent s = quiet_at (places_at 0) s refl
