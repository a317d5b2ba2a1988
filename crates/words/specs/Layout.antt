-- The words of the kinds that speak of how a screen is laid out. Assumes nothing.
use Rattle.std.specs.Prelude.{ℕ, List, ◌++◌}
use Rattle.buffer.specs.Ascii.{ascii}
use Rattle.buffer.specs.Decimal.{decimal}
use Rattle.kinds.specs.declared.screen.LayoutDir.{LayoutDir}
use Rattle.kinds.specs.declared.screen.ScreenSize.{ScreenSize}
use Rattle.kinds.specs.declared.screen.ScreenLong.{ScreenLong}
use Rattle.kinds.specs.declared.screen.ScreenRound.{ScreenRound}

-- what 000 displays of `LayoutDir`
abbrev pub layout_dir_words : LayoutDir → List ℕ
layout_dir_words LayoutDir.Ltr = ascii "ldltr"
layout_dir_words LayoutDir.Rtl = ascii "ldrtl"
layout_dir_words (LayoutDir.Any v) = ascii "layoutDir=" ++ decimal v

-- what 000 displays of `ScreenSize`
abbrev pub screen_size_words : ScreenSize → List ℕ
screen_size_words ScreenSize.Small = ascii "small"
screen_size_words ScreenSize.Normal = ascii "normal"
screen_size_words ScreenSize.Large = ascii "large"
screen_size_words ScreenSize.XLarge = ascii "xlarge"
screen_size_words (ScreenSize.Any v) = ascii "screenLayoutSize=" ++ decimal v

-- what 000 displays of `ScreenLong`
abbrev pub screen_long_words : ScreenLong → List ℕ
screen_long_words ScreenLong.No = ascii "notlong"
screen_long_words ScreenLong.Yes = ascii "long"
screen_long_words (ScreenLong.Any v) = ascii "screenLayoutLong=" ++ decimal v

-- what 000 displays of `ScreenRound`
abbrev pub screen_round_words : ScreenRound → List ℕ
screen_round_words ScreenRound.No = ascii "notround"
screen_round_words ScreenRound.Yes = ascii "round"
screen_round_words (ScreenRound.Any v) = ascii "screenRound=" ++ decimal v
