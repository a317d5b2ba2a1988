-- Every plain word that is said of a kind is in the table. Assumes nothing.
use Prim.Native.Nat.{ℕ, ◌+◌, ◌≤◌}
use mathlib.Core.Path.{◌≡◌, refl, sym}
use mathlib.Core.Bool.{Bool, true, false, cond, true≢false}
use mathlib.Core.List.{List, [], ◌∷◌, ◌++◌}
use native.Mathlib.Omega.{arith}
use lib.ListN.{length, get_or, length-append}
use Rattle.laws.proofs.Choice.{chosen_by}
use Rattle.compare.specs.Compare.{same}
use Rattle.compare.proofs.Compare.{same_true}
use Rattle.buffer.specs.Ascii.{ascii}
use Rattle.buffer.specs.Decimal.{decimal}
use Rattle.kinds.specs.declared.Kind.{Kind}
use Rattle.kinds.specs.declared.input.Keyboard.{Keyboard}
use Rattle.kinds.specs.declared.input.KeysHidden.{KeysHidden}
use Rattle.kinds.specs.declared.input.NavHidden.{NavHidden}
use Rattle.kinds.specs.declared.input.Navigation.{Navigation}
use Rattle.kinds.specs.declared.input.Touchscreen.{Touchscreen}
use Rattle.kinds.specs.declared.mode.GrammaticalGender.{GrammaticalGender}
use Rattle.kinds.specs.declared.mode.UIMode.{UIMode}
use Rattle.kinds.specs.declared.mode.UIModeNight.{UIModeNight}
use Rattle.kinds.specs.declared.screen.Density.{Density}
use Rattle.kinds.specs.declared.screen.Hdr.{Hdr}
use Rattle.kinds.specs.declared.screen.LayoutDir.{LayoutDir}
use Rattle.kinds.specs.declared.screen.Orientation.{Orientation}
use Rattle.kinds.specs.declared.screen.ScreenLong.{ScreenLong}
use Rattle.kinds.specs.declared.screen.ScreenRound.{ScreenRound}
use Rattle.kinds.specs.declared.screen.ScreenSize.{ScreenSize}
use Rattle.kinds.specs.declared.screen.WideColorGamut.{WideColorGamut}
use Rattle.grammar.specs.Forms.{Form}
use Rattle.grammar.specs.Rows.{Row, rows, kind_rows, word_rows, word_row, In}
use Rattle.grammar.specs.Claims.{Plain, Listed, WordsAreListed}

-- whether some rows have a word
has_word : List ℕ → List Row → Bool
has_word w [] = false
has_word w ((s, Form.word v u) ∷ rs) = cond (same u w) true (has_word w rs)
has_word w ((s, Form.number f b) ∷ rs) = has_word w rs
has_word w ((s, Form.density) ∷ rs) = has_word w rs
has_word w ((s, Form.sides) ∷ rs) = has_word w rs
has_word w ((s, Form.minor) ∷ rs) = has_word w rs
has_word w ((s, Form.language) ∷ rs) = has_word w rs
has_word w ((s, Form.region) ∷ rs) = has_word w rs

-- a word of some rows
record Among (w : List ℕ) (rs : List Row) : Type 0 where
  slot : ℕ
  value : ℕ
  listed : In (slot, Form.word value w) rs

-- behind one row more
behind : (r : Row) (w : List ℕ) (rs : List Row) → Among w rs → Among w (r ∷ rs)
behind r w rs a = record { slot = a.slot; value = a.value; listed = In.there a.listed }

-- then there is one
among : (w : List ℕ) (rs : List Row) → has_word w rs ≡ true → Among w rs
unfolding has_word
among w [] e = absurd (true≢false (sym e))
among w ((s, Form.word v u) ∷ rs) e =
    chosen_by (λ (x : Bool). x ≡ true → Among w ((s, Form.word v u) ∷ rs)) (same u w)
    (λ h g. let q = same_true u w h in rw (← q) (record { slot = s; value = v; listed = In.here })) (λ h g. behind _ w rs (among w rs g)) e
among w ((s, Form.number f b) ∷ rs) e = behind _ w rs (among w rs e)
among w ((s, Form.density) ∷ rs) e = behind _ w rs (among w rs e)
among w ((s, Form.sides) ∷ rs) e = behind _ w rs (among w rs e)
among w ((s, Form.minor) ∷ rs) e = behind _ w rs (among w rs e)
among w ((s, Form.language) ∷ rs) e = behind _ w rs (among w rs e)
among w ((s, Form.region) ∷ rs) e = behind _ w rs (among w rs e)

in_table : (w : List ℕ) → has_word w rows ≡ true → Listed w
in_table w e = let a = among w rows e in record { slot = a.slot; value = a.value; listed = a.listed }

-- words with a sign in front carry it
carries : {A : Type 0} (n : ℕ) (sign : List ℕ) (v : ℕ) → n + 1 ≤ length sign → get_or (sign ++ decimal v) n 0 ≡ 61 → Plain (sign ++ decimal v) → A
carries n sign v h e p = absurd (p.unequalled n (omega (arith, length-append sign (decimal v))) e)

pub words_are_listed : WordsAreListed
unfolding same has_word rows kind_rows word_rows word_row
words_are_listed (Kind.GrammaticalGender GrammaticalGender.Neuter) said p d = in_table _ refl
words_are_listed (Kind.GrammaticalGender GrammaticalGender.Feminine) said p d = in_table _ refl
words_are_listed (Kind.GrammaticalGender GrammaticalGender.Masculine) said p d = in_table _ refl
words_are_listed (Kind.GrammaticalGender GrammaticalGender.Any) said p d = absurd (true≢false (sym said))
words_are_listed (Kind.LayoutDir LayoutDir.Ltr) said p d = in_table _ refl
words_are_listed (Kind.LayoutDir LayoutDir.Rtl) said p d = in_table _ refl
words_are_listed (Kind.LayoutDir (LayoutDir.Any v)) said p d = absurd (true≢false (sym said))
words_are_listed (Kind.ScreenSize ScreenSize.Small) said p d = in_table _ refl
words_are_listed (Kind.ScreenSize ScreenSize.Normal) said p d = in_table _ refl
words_are_listed (Kind.ScreenSize ScreenSize.Large) said p d = in_table _ refl
words_are_listed (Kind.ScreenSize ScreenSize.XLarge) said p d = in_table _ refl
words_are_listed (Kind.ScreenSize (ScreenSize.Any v)) said p d = absurd (true≢false (sym said))
words_are_listed (Kind.ScreenLong ScreenLong.No) said p d = in_table _ refl
words_are_listed (Kind.ScreenLong ScreenLong.Yes) said p d = in_table _ refl
words_are_listed (Kind.ScreenLong (ScreenLong.Any v)) said p d = absurd (true≢false (sym said))
words_are_listed (Kind.ScreenRound ScreenRound.No) said p d = in_table _ refl
words_are_listed (Kind.ScreenRound ScreenRound.Yes) said p d = in_table _ refl
words_are_listed (Kind.ScreenRound (ScreenRound.Any v)) said p d = absurd (true≢false (sym said))
words_are_listed (Kind.WideColorGamut WideColorGamut.No) said p d = in_table _ refl
words_are_listed (Kind.WideColorGamut WideColorGamut.Yes) said p d = in_table _ refl
words_are_listed (Kind.WideColorGamut (WideColorGamut.Any v)) said p d = absurd (true≢false (sym said))
words_are_listed (Kind.Hdr Hdr.No) said p d = in_table _ refl
words_are_listed (Kind.Hdr Hdr.Yes) said p d = in_table _ refl
words_are_listed (Kind.Hdr (Hdr.Any v)) said p d = absurd (true≢false (sym said))
words_are_listed (Kind.Orientation Orientation.Port) said p d = in_table _ refl
words_are_listed (Kind.Orientation Orientation.Land) said p d = in_table _ refl
words_are_listed (Kind.Orientation Orientation.Square) said p d = in_table _ refl
words_are_listed (Kind.Orientation Orientation.Any) said p d = absurd (true≢false (sym said))
words_are_listed (Kind.Orientation (Orientation.Unknown v)) said p d = carries 11 (ascii "orientation=") v (omega arith) refl p
words_are_listed (Kind.UIMode UIMode.Desk) said p d = in_table _ refl
words_are_listed (Kind.UIMode UIMode.Car) said p d = in_table _ refl
words_are_listed (Kind.UIMode UIMode.Television) said p d = in_table _ refl
words_are_listed (Kind.UIMode UIMode.Appliance) said p d = in_table _ refl
words_are_listed (Kind.UIMode UIMode.Watch) said p d = in_table _ refl
words_are_listed (Kind.UIMode UIMode.VRHeadset) said p d = in_table _ refl
words_are_listed (Kind.UIMode UIMode.Any) said p d = absurd (true≢false (sym said))
words_are_listed (Kind.UIMode UIMode.Normal) said p d = absurd (omega (arith, p.some))
words_are_listed (Kind.UIMode (UIMode.Unknown v)) said p d = carries 10 (ascii "uiModeType=") v (omega arith) refl p
words_are_listed (Kind.UIModeNight UIModeNight.No) said p d = in_table _ refl
words_are_listed (Kind.UIModeNight UIModeNight.Yes) said p d = in_table _ refl
words_are_listed (Kind.UIModeNight UIModeNight.Any) said p d = absurd (true≢false (sym said))
words_are_listed (Kind.UIModeNight (UIModeNight.Unknown v)) said p d = carries 11 (ascii "uiModeNight=") v (omega arith) refl p
words_are_listed (Kind.Density Density.Low) said p d = in_table _ refl
words_are_listed (Kind.Density Density.Medium) said p d = in_table _ refl
words_are_listed (Kind.Density Density.TV) said p d = in_table _ refl
words_are_listed (Kind.Density Density.High) said p d = in_table _ refl
words_are_listed (Kind.Density Density.XHigh) said p d = in_table _ refl
words_are_listed (Kind.Density Density.XXHigh) said p d = in_table _ refl
words_are_listed (Kind.Density Density.XXXHigh) said p d = in_table _ refl
words_are_listed (Kind.Density Density.Any) said p d = in_table _ refl
words_are_listed (Kind.Density Density.None) said p d = in_table _ refl
words_are_listed (Kind.Density Density.Default) said p d = absurd (true≢false (sym said))
words_are_listed (Kind.Density (Density.Unknown v)) said p d = absurd (d v refl)
words_are_listed (Kind.Touchscreen Touchscreen.NoTouch) said p d = in_table _ refl
words_are_listed (Kind.Touchscreen Touchscreen.Stylus) said p d = in_table _ refl
words_are_listed (Kind.Touchscreen Touchscreen.Finger) said p d = in_table _ refl
words_are_listed (Kind.Touchscreen Touchscreen.Any) said p d = absurd (true≢false (sym said))
words_are_listed (Kind.Touchscreen (Touchscreen.Unknown v)) said p d = carries 11 (ascii "touchscreen=") v (omega arith) refl p
words_are_listed (Kind.KeysHidden KeysHidden.No) said p d = in_table _ refl
words_are_listed (Kind.KeysHidden KeysHidden.Yes) said p d = in_table _ refl
words_are_listed (Kind.KeysHidden KeysHidden.Soft) said p d = in_table _ refl
words_are_listed (Kind.KeysHidden KeysHidden.Any) said p d = absurd (true≢false (sym said))
words_are_listed (Kind.Keyboard Keyboard.NoKeys) said p d = in_table _ refl
words_are_listed (Kind.Keyboard Keyboard.Qwerty) said p d = in_table _ refl
words_are_listed (Kind.Keyboard Keyboard.Key12) said p d = in_table _ refl
words_are_listed (Kind.Keyboard Keyboard.Any) said p d = absurd (true≢false (sym said))
words_are_listed (Kind.Keyboard (Keyboard.Unknown v)) said p d = carries 8 (ascii "keyboard=") v (omega arith) refl p
words_are_listed (Kind.NavHidden NavHidden.No) said p d = in_table _ refl
words_are_listed (Kind.NavHidden NavHidden.Yes) said p d = in_table _ refl
words_are_listed (Kind.NavHidden NavHidden.Any) said p d = absurd (true≢false (sym said))
words_are_listed (Kind.NavHidden (NavHidden.Unknown v)) said p d = carries 19 (ascii "inputFlagsNavHidden=") v (omega arith) refl p
words_are_listed (Kind.Navigation Navigation.NoNav) said p d = in_table _ refl
words_are_listed (Kind.Navigation Navigation.Dpad) said p d = in_table _ refl
words_are_listed (Kind.Navigation Navigation.Trackball) said p d = in_table _ refl
words_are_listed (Kind.Navigation Navigation.Wheel) said p d = in_table _ refl
words_are_listed (Kind.Navigation Navigation.Any) said p d = absurd (true≢false (sym said))
words_are_listed (Kind.Navigation (Navigation.Unknown v)) said p d = carries 10 (ascii "navigation=") v (omega arith) refl p
