-- Which kind of the use a number is, as 000's `from` decides. Assumes nothing.
use Rattle.std.specs.Prelude.{ℕ, List, [], ◌∷◌}
use Rattle.std.specs.Int.Bits.{bit_and}
use Rattle.kinds.specs.Pick.{pick}
use Rattle.kinds.specs.declared.mode.GrammaticalGender.{GrammaticalGender}
use Rattle.kinds.specs.declared.mode.UIMode.{UIMode}
use Rattle.kinds.specs.declared.mode.UIModeNight.{UIModeNight}

-- the numbers of GrammaticalGender that have a name
abbrev pub grammatical_genders : List (ℕ × GrammaticalGender)
grammatical_genders =
    (1, GrammaticalGender.Neuter) ∷
    (2, GrammaticalGender.Feminine) ∷
    (3, GrammaticalGender.Masculine) ∷
    []

-- the low two bits; what has no name is no gender
abbrev pub grammatical_gender_of : ℕ → GrammaticalGender
grammatical_gender_of n = pick grammatical_genders GrammaticalGender.Any (bit_and n 3)

-- the numbers of UIMode that have a name
abbrev pub ui_modes : List (ℕ × UIMode)
ui_modes =
    (0x00, UIMode.Any) ∷
    (0x01, UIMode.Normal) ∷
    (0x02, UIMode.Desk) ∷
    (0x03, UIMode.Car) ∷
    (0x04, UIMode.Television) ∷
    (0x05, UIMode.Appliance) ∷
    (0x06, UIMode.Watch) ∷
    (0x07, UIMode.VRHeadset) ∷
    []

-- the low four bits; what has no name is kept
abbrev pub ui_mode_of : ℕ → UIMode
ui_mode_of n = pick ui_modes (UIMode.Unknown (bit_and n 0x0f)) (bit_and n 0x0f)

-- the numbers of UIModeNight that have a name
abbrev pub ui_mode_nights : List (ℕ × UIModeNight)
ui_mode_nights = (0x00, UIModeNight.Any) ∷ (0x10, UIModeNight.No) ∷ (0x20, UIModeNight.Yes) ∷ []

-- bits 4 and 5; what has no name is kept
abbrev pub ui_mode_night_of : ℕ → UIModeNight
ui_mode_night_of n = pick ui_mode_nights (UIModeNight.Unknown (bit_and n 0x30)) (bit_and n 0x30)
