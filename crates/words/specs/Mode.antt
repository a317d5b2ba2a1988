-- The words of the kinds that speak of the use. Assumes nothing.
use Rattle.std.specs.Prelude.{ℕ, List, [], ◌++◌}
use Rattle.buffer.specs.Ascii.{ascii}
use Rattle.buffer.specs.Decimal.{decimal}
use Rattle.kinds.specs.declared.mode.GrammaticalGender.{GrammaticalGender}
use Rattle.kinds.specs.declared.mode.UIMode.{UIMode}
use Rattle.kinds.specs.declared.mode.UIModeNight.{UIModeNight}

-- what 000 displays of `GrammaticalGender`
abbrev pub grammatical_gender_words : GrammaticalGender → List ℕ
grammatical_gender_words GrammaticalGender.Neuter = ascii "neuter"
grammatical_gender_words GrammaticalGender.Feminine = ascii "feminine"
grammatical_gender_words GrammaticalGender.Masculine = ascii "masculine"
grammatical_gender_words GrammaticalGender.Any = []

-- what 000 displays of `UIMode`
abbrev pub ui_mode_words : UIMode → List ℕ
ui_mode_words UIMode.Any = []
ui_mode_words UIMode.Normal = []
ui_mode_words UIMode.Desk = ascii "desk"
ui_mode_words UIMode.Car = ascii "car"
ui_mode_words UIMode.Television = ascii "television"
ui_mode_words UIMode.Appliance = ascii "appliance"
ui_mode_words UIMode.Watch = ascii "watch"
ui_mode_words UIMode.VRHeadset = ascii "vrheadset"
ui_mode_words (UIMode.Unknown v) = ascii "uiModeType=" ++ decimal v

-- what 000 displays of `UIModeNight`
abbrev pub ui_mode_night_words : UIModeNight → List ℕ
ui_mode_night_words UIModeNight.Any = []
ui_mode_night_words UIModeNight.No = ascii "notnight"
ui_mode_night_words UIModeNight.Yes = ascii "night"
ui_mode_night_words (UIModeNight.Unknown v) = ascii "uiModeNight=" ++ decimal v
