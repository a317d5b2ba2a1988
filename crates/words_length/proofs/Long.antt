-- No kind's words are longer than 25 bytes, whatever number it holds. Assumes nothing.
use Prim.Native.Nat.{ℕ, ◌≤◌, ◌<◌}
use mathlib.Core.List.{List, ◌++◌}
use native.Mathlib.Omega.{arith}
use borrow.Author.Rules.{rules}
use lib.Dec.{lit≤}
use lib.ListN.{length, length-append}
use mir.Val.{Val}
use denote.Laws.{Is}
use Rattle.buffer.specs.Ascii.{ascii}
use Rattle.buffer.specs.Decimal.{decimal}
use Rattle.buffer.proofs.Digits.{decimal_long}
use Rattle.kinds.specs.declared.Kind.{Kind}
use Rattle.kinds.specs.declared.mode.GrammaticalGender.{GrammaticalGender}
use Rattle.kinds.specs.declared.screen.LayoutDir.{LayoutDir}
use Rattle.kinds.specs.declared.screen.ScreenSize.{ScreenSize}
use Rattle.kinds.specs.declared.screen.ScreenLong.{ScreenLong}
use Rattle.kinds.specs.declared.screen.ScreenRound.{ScreenRound}
use Rattle.kinds.specs.declared.screen.WideColorGamut.{WideColorGamut}
use Rattle.kinds.specs.declared.screen.Hdr.{Hdr}
use Rattle.kinds.specs.declared.screen.Orientation.{Orientation}
use Rattle.kinds.specs.declared.mode.UIMode.{UIMode}
use Rattle.kinds.specs.declared.mode.UIModeNight.{UIModeNight}
use Rattle.kinds.specs.declared.screen.Density.{Density}
use Rattle.kinds.specs.declared.input.Touchscreen.{Touchscreen}
use Rattle.kinds.specs.declared.input.KeysHidden.{KeysHidden}
use Rattle.kinds.specs.declared.input.Keyboard.{Keyboard}
use Rattle.kinds.specs.declared.input.NavHidden.{NavHidden}
use Rattle.kinds.specs.declared.input.Navigation.{Navigation}
use Rattle.words.specs.Words.{words_of}
use Rattle.kinds.specs.contracts.Kind as kind

-- a u16 in decimal, beside a fixed word on either side
label : (front : List ℕ) (v : ℕ) → length front ≤ 20 → v < 65536 → length (front ++ decimal v) ≤ 25
label front v f h = omega (arith, length-append front (decimal v), decimal_long 4 v (omega arith))

-- what owning a kind tells of its number is enough
pub words_long : (k : Kind) (vs : List Val) → Is kind.the_row k vs → length (words_of k) ≤ 25
words_long (Kind.GrammaticalGender GrammaticalGender.Neuter) vs h = lit≤ tt
words_long (Kind.GrammaticalGender GrammaticalGender.Feminine) vs h = lit≤ tt
words_long (Kind.GrammaticalGender GrammaticalGender.Masculine) vs h = lit≤ tt
words_long (Kind.GrammaticalGender GrammaticalGender.Any) vs h = lit≤ tt
words_long (Kind.LayoutDir LayoutDir.Ltr) vs h = lit≤ tt
words_long (Kind.LayoutDir LayoutDir.Rtl) vs h = lit≤ tt
words_long (Kind.LayoutDir (LayoutDir.Any v)) vs h = let m : v < 256 = search rules in label (ascii "layoutDir=") v (lit≤ tt) (omega arith)
words_long (Kind.ScreenSize ScreenSize.Small) vs h = lit≤ tt
words_long (Kind.ScreenSize ScreenSize.Normal) vs h = lit≤ tt
words_long (Kind.ScreenSize ScreenSize.Large) vs h = lit≤ tt
words_long (Kind.ScreenSize ScreenSize.XLarge) vs h = lit≤ tt
words_long (Kind.ScreenSize (ScreenSize.Any v)) vs h = let m : v < 256 = search rules in label (ascii "screenLayoutSize=") v (lit≤ tt) (omega arith)
words_long (Kind.ScreenLong ScreenLong.No) vs h = lit≤ tt
words_long (Kind.ScreenLong ScreenLong.Yes) vs h = lit≤ tt
words_long (Kind.ScreenLong (ScreenLong.Any v)) vs h = let m : v < 256 = search rules in label (ascii "screenLayoutLong=") v (lit≤ tt) (omega arith)
words_long (Kind.ScreenRound ScreenRound.No) vs h = lit≤ tt
words_long (Kind.ScreenRound ScreenRound.Yes) vs h = lit≤ tt
words_long (Kind.ScreenRound (ScreenRound.Any v)) vs h = let m : v < 256 = search rules in label (ascii "screenRound=") v (lit≤ tt) (omega arith)
words_long (Kind.WideColorGamut WideColorGamut.No) vs h = lit≤ tt
words_long (Kind.WideColorGamut WideColorGamut.Yes) vs h = lit≤ tt
words_long (Kind.WideColorGamut (WideColorGamut.Any v)) vs h = let m : v < 256 = search rules in label (ascii "wideColorGamut=") v (lit≤ tt) (omega arith)
words_long (Kind.Hdr Hdr.No) vs h = lit≤ tt
words_long (Kind.Hdr Hdr.Yes) vs h = lit≤ tt
words_long (Kind.Hdr (Hdr.Any v)) vs h = let m : v < 256 = search rules in label (ascii "hdr=") v (lit≤ tt) (omega arith)
words_long (Kind.Orientation Orientation.Any) vs h = lit≤ tt
words_long (Kind.Orientation Orientation.Port) vs h = lit≤ tt
words_long (Kind.Orientation Orientation.Land) vs h = lit≤ tt
words_long (Kind.Orientation Orientation.Square) vs h = lit≤ tt
words_long (Kind.Orientation (Orientation.Unknown v)) vs h = let m : v < 256 = search rules in label (ascii "orientation=") v (lit≤ tt) (omega arith)
words_long (Kind.UIMode UIMode.Any) vs h = lit≤ tt
words_long (Kind.UIMode UIMode.Normal) vs h = lit≤ tt
words_long (Kind.UIMode UIMode.Desk) vs h = lit≤ tt
words_long (Kind.UIMode UIMode.Car) vs h = lit≤ tt
words_long (Kind.UIMode UIMode.Television) vs h = lit≤ tt
words_long (Kind.UIMode UIMode.Appliance) vs h = lit≤ tt
words_long (Kind.UIMode UIMode.Watch) vs h = lit≤ tt
words_long (Kind.UIMode UIMode.VRHeadset) vs h = lit≤ tt
words_long (Kind.UIMode (UIMode.Unknown v)) vs h = let m : v < 256 = search rules in label (ascii "uiModeType=") v (lit≤ tt) (omega arith)
words_long (Kind.UIModeNight UIModeNight.Any) vs h = lit≤ tt
words_long (Kind.UIModeNight UIModeNight.No) vs h = lit≤ tt
words_long (Kind.UIModeNight UIModeNight.Yes) vs h = lit≤ tt
words_long (Kind.UIModeNight (UIModeNight.Unknown v)) vs h = let m : v < 256 = search rules in label (ascii "uiModeNight=") v (lit≤ tt) (omega arith)
words_long (Kind.Density Density.Default) vs h = lit≤ tt
words_long (Kind.Density Density.Low) vs h = lit≤ tt
words_long (Kind.Density Density.Medium) vs h = lit≤ tt
words_long (Kind.Density Density.TV) vs h = lit≤ tt
words_long (Kind.Density Density.High) vs h = lit≤ tt
words_long (Kind.Density Density.XHigh) vs h = lit≤ tt
words_long (Kind.Density Density.XXHigh) vs h = lit≤ tt
words_long (Kind.Density Density.XXXHigh) vs h = lit≤ tt
words_long (Kind.Density Density.Any) vs h = lit≤ tt
words_long (Kind.Density Density.None) vs h = lit≤ tt
words_long (Kind.Density (Density.Unknown v)) vs h =
    let m : v < 65536 = search rules in omega (arith, length-append (decimal v) (ascii "dpi"), decimal_long 4 v (omega arith))
words_long (Kind.Touchscreen Touchscreen.Any) vs h = lit≤ tt
words_long (Kind.Touchscreen Touchscreen.NoTouch) vs h = lit≤ tt
words_long (Kind.Touchscreen Touchscreen.Stylus) vs h = lit≤ tt
words_long (Kind.Touchscreen Touchscreen.Finger) vs h = lit≤ tt
words_long (Kind.Touchscreen (Touchscreen.Unknown v)) vs h = let m : v < 256 = search rules in label (ascii "touchscreen=") v (lit≤ tt) (omega arith)
words_long (Kind.KeysHidden KeysHidden.Any) vs h = lit≤ tt
words_long (Kind.KeysHidden KeysHidden.No) vs h = lit≤ tt
words_long (Kind.KeysHidden KeysHidden.Yes) vs h = lit≤ tt
words_long (Kind.KeysHidden KeysHidden.Soft) vs h = lit≤ tt
words_long (Kind.Keyboard Keyboard.Any) vs h = lit≤ tt
words_long (Kind.Keyboard Keyboard.NoKeys) vs h = lit≤ tt
words_long (Kind.Keyboard Keyboard.Qwerty) vs h = lit≤ tt
words_long (Kind.Keyboard Keyboard.Key12) vs h = lit≤ tt
words_long (Kind.Keyboard (Keyboard.Unknown v)) vs h = let m : v < 256 = search rules in label (ascii "keyboard=") v (lit≤ tt) (omega arith)
words_long (Kind.NavHidden NavHidden.Any) vs h = lit≤ tt
words_long (Kind.NavHidden NavHidden.No) vs h = lit≤ tt
words_long (Kind.NavHidden NavHidden.Yes) vs h = lit≤ tt
words_long (Kind.NavHidden (NavHidden.Unknown v)) vs h = let m : v < 256 = search rules in label (ascii "inputFlagsNavHidden=") v (lit≤ tt) (omega arith)
words_long (Kind.Navigation Navigation.Any) vs h = lit≤ tt
words_long (Kind.Navigation Navigation.NoNav) vs h = lit≤ tt
words_long (Kind.Navigation Navigation.Dpad) vs h = lit≤ tt
words_long (Kind.Navigation Navigation.Trackball) vs h = lit≤ tt
words_long (Kind.Navigation Navigation.Wheel) vs h = lit≤ tt
words_long (Kind.Navigation (Navigation.Unknown v)) vs h = let m : v < 256 = search rules in label (ascii "navigation=") v (lit≤ tt) (omega arith)
