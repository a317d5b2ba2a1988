-- 02, K5: the table of the grammar: each slot with a form that its parts may have. The words are those that 000 displays. Assumes nothing.
use Rattle.std.specs.Prelude.{ℕ, List, [], ◌∷◌, ◌++◌, cond, not, ◌&&◌, eqb, length}
use Rattle.buffer.specs.Ascii.{ascii}
use Rattle.kinds.specs.Input.{touchscreens, keys_hiddens, keyboards, nav_hiddens, navigations}
use Rattle.kinds.specs.Mode.{grammatical_genders, ui_modes, ui_mode_nights}
use Rattle.kinds.specs.Screen.{layout_dirs, screen_sizes, screen_longs, screen_rounds, wide_color_gamuts, hdrs, orientations, densities}
use Rattle.kinds.specs.declared.Kind.{Kind}
use Rattle.kinds.specs.declared.input.KeysHidden.{KeysHidden}
use Rattle.said_kinds.specs.Said.{kind_said}
use Rattle.words.specs.Words.{words_of}
use Rattle.grammar.specs.Forms.{Form, Makes}
use Rattle.grammar.specs.Slots as slot

-- a slot, and a form that its parts may have
abbrev pub Row : Type 0
Row = ℕ × Form

-- the forms with numbers or letters
abbrev pub open_rows : List Row
open_rows =
    (slot.mcc, Form.number (ascii "mcc") []) ∷
    (slot.mnc, Form.number (ascii "mnc") []) ∷
    (slot.language, Form.language) ∷
    (slot.region, Form.region) ∷
    (slot.smallest_width, Form.number (ascii "sw") (ascii "dp")) ∷
    (slot.width, Form.number (ascii "w") (ascii "dp")) ∷
    (slot.height, Form.number (ascii "h") (ascii "dp")) ∷
    (slot.density, Form.density) ∷
    (slot.sides, Form.sides) ∷
    (slot.version, Form.number (ascii "v") []) ∷
    (slot.version, Form.minor) ∷
    []

-- the word of a kind's case that stands for n, where it is said and has one
unfoldable pub word_row : ℕ → ℕ → Kind → List Row
word_row s n k = cond (kind_said k && not (eqb (length (words_of k)) 0)) ((s, Form.word n (words_of k)) ∷ []) []

-- the words of a kind, of the table of its cases that have a name: none of these carries '='
unfoldable pub word_rows : {A : Type 0} → ℕ → (A → Kind) → List (ℕ × A) → List Row
word_rows s kind [] = []
word_rows s kind (e ∷ t) = word_row s e.0 (kind e.1) ++ word_rows s kind t

-- the cases of KeysHidden: the table, and Soft, which is what it leaves of two bits
abbrev pub all_keys_hiddens : List (ℕ × KeysHidden)
all_keys_hiddens = keys_hiddens ++ ((3, KeysHidden.Soft) ∷ [])

-- the words of the sixteen kinds
unfoldable pub kind_rows : List Row
kind_rows =
    word_rows slot.gender Kind.GrammaticalGender grammatical_genders
    ++ (word_rows slot.layout_dir Kind.LayoutDir layout_dirs
    ++ (word_rows slot.screen_size Kind.ScreenSize screen_sizes
    ++ (word_rows slot.screen_long Kind.ScreenLong screen_longs
    ++ (word_rows slot.screen_round Kind.ScreenRound screen_rounds
    ++ (word_rows slot.gamut Kind.WideColorGamut wide_color_gamuts
    ++ (word_rows slot.hdr Kind.Hdr hdrs
    ++ (word_rows slot.orientation Kind.Orientation orientations
    ++ (word_rows slot.ui_type Kind.UIMode ui_modes
    ++ (word_rows slot.night Kind.UIModeNight ui_mode_nights
    ++ (word_rows slot.density Kind.Density densities
    ++ (word_rows slot.touchscreen Kind.Touchscreen touchscreens
    ++ (word_rows slot.keys_hidden Kind.KeysHidden all_keys_hiddens
    ++ (word_rows slot.keyboard Kind.Keyboard keyboards
    ++ (word_rows slot.nav_hidden Kind.NavHidden nav_hiddens
    ++ word_rows slot.navigation Kind.Navigation navigations))))))))))))))

-- all rows
unfoldable pub rows : List Row
rows = open_rows ++ kind_rows

-- x is in a list
pub data In {A : Type 0} (x : A) : List A → Type 0 where
  here : {l : List A} → In x (x ∷ l)
  there : {y : A} {l : List A} → In x l → In x (y ∷ l)

-- a slot may have the part w, which puts the value v: a row of the slot makes it
pub record Has (s v : ℕ) (w : List ℕ) : Type 0 where
  pub form : Form
  pub listed : In (s, form) rows
  pub makes : Makes form v w
