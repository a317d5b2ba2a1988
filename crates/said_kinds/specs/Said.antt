-- Which cases of a kind are said, as the tests of `as_string` have it. Assumes nothing.
use Rattle.std.specs.Prelude.{Bool, true, false}
use Rattle.kinds.specs.declared.Kind.{Kind}
use Rattle.kinds.specs.declared.input.Keyboard.{Keyboard}
use Rattle.kinds.specs.declared.input.KeysHidden.{KeysHidden}
use Rattle.kinds.specs.declared.input.NavHidden.{NavHidden}
use Rattle.kinds.specs.declared.input.Navigation.{Navigation}
use Rattle.kinds.specs.declared.input.Touchscreen.{Touchscreen}
use Rattle.kinds.specs.declared.mode.GrammaticalGender.{GrammaticalGender}
use Rattle.kinds.specs.declared.mode.UIMode.{UIMode}
use Rattle.kinds.specs.declared.mode.UIModeNight.{UIModeNight}
use Rattle.kinds.specs.declared.screen.Density.{Density}
use Rattle.kinds.specs.declared.screen.Hdr.{Hdr}
use Rattle.kinds.specs.declared.screen.LayoutDir.{LayoutDir}
use Rattle.kinds.specs.declared.screen.Orientation.{Orientation}
use Rattle.kinds.specs.declared.screen.ScreenLong.{ScreenLong}
use Rattle.kinds.specs.declared.screen.ScreenRound.{ScreenRound}
use Rattle.kinds.specs.declared.screen.ScreenSize.{ScreenSize}
use Rattle.kinds.specs.declared.screen.WideColorGamut.{WideColorGamut}

-- a `GrammaticalGender` is said unless it is `Any`
abbrev pub grammatical_gender_said : GrammaticalGender → Bool
grammatical_gender_said GrammaticalGender.Neuter = true
grammatical_gender_said GrammaticalGender.Feminine = true
grammatical_gender_said GrammaticalGender.Masculine = true
grammatical_gender_said GrammaticalGender.Any = false

-- a `LayoutDir` is said unless it is `Any`
abbrev pub layout_dir_said : LayoutDir → Bool
layout_dir_said LayoutDir.Ltr = true
layout_dir_said LayoutDir.Rtl = true
layout_dir_said (LayoutDir.Any v) = false

-- a `ScreenSize` is said unless it is `Any`
abbrev pub screen_size_said : ScreenSize → Bool
screen_size_said ScreenSize.Small = true
screen_size_said ScreenSize.Normal = true
screen_size_said ScreenSize.Large = true
screen_size_said ScreenSize.XLarge = true
screen_size_said (ScreenSize.Any v) = false

-- a `ScreenLong` is said unless it is `Any`
abbrev pub screen_long_said : ScreenLong → Bool
screen_long_said ScreenLong.No = true
screen_long_said ScreenLong.Yes = true
screen_long_said (ScreenLong.Any v) = false

-- a `ScreenRound` is said unless it is `Any`
abbrev pub screen_round_said : ScreenRound → Bool
screen_round_said ScreenRound.No = true
screen_round_said ScreenRound.Yes = true
screen_round_said (ScreenRound.Any v) = false

-- a `WideColorGamut` is said unless it is `Any`
abbrev pub wide_color_gamut_said : WideColorGamut → Bool
wide_color_gamut_said WideColorGamut.No = true
wide_color_gamut_said WideColorGamut.Yes = true
wide_color_gamut_said (WideColorGamut.Any v) = false

-- a `Hdr` is said unless it is `Any`
abbrev pub hdr_said : Hdr → Bool
hdr_said Hdr.No = true
hdr_said Hdr.Yes = true
hdr_said (Hdr.Any v) = false

-- an `Orientation` is said unless it is `Any`
abbrev pub orientation_said : Orientation → Bool
orientation_said Orientation.Any = false
orientation_said Orientation.Port = true
orientation_said Orientation.Land = true
orientation_said Orientation.Square = true
orientation_said (Orientation.Unknown v) = true

-- a `UIMode` is said unless it is `Any`
abbrev pub ui_mode_said : UIMode → Bool
ui_mode_said UIMode.Any = false
ui_mode_said UIMode.Normal = true
ui_mode_said UIMode.Desk = true
ui_mode_said UIMode.Car = true
ui_mode_said UIMode.Television = true
ui_mode_said UIMode.Appliance = true
ui_mode_said UIMode.Watch = true
ui_mode_said UIMode.VRHeadset = true
ui_mode_said (UIMode.Unknown v) = true

-- a `UIModeNight` is said unless it is `Any`
abbrev pub ui_mode_night_said : UIModeNight → Bool
ui_mode_night_said UIModeNight.Any = false
ui_mode_night_said UIModeNight.No = true
ui_mode_night_said UIModeNight.Yes = true
ui_mode_night_said (UIModeNight.Unknown v) = true

-- a `Density` is said unless it is `Default`
abbrev pub density_said : Density → Bool
density_said Density.Default = false
density_said Density.Low = true
density_said Density.Medium = true
density_said Density.TV = true
density_said Density.High = true
density_said Density.XHigh = true
density_said Density.XXHigh = true
density_said Density.XXXHigh = true
density_said Density.Any = true
density_said Density.None = true
density_said (Density.Unknown v) = true

-- a `Touchscreen` is said unless it is `Any`
abbrev pub touchscreen_said : Touchscreen → Bool
touchscreen_said Touchscreen.Any = false
touchscreen_said Touchscreen.NoTouch = true
touchscreen_said Touchscreen.Stylus = true
touchscreen_said Touchscreen.Finger = true
touchscreen_said (Touchscreen.Unknown v) = true

-- a `KeysHidden` is said unless it is `Any`
abbrev pub keys_hidden_said : KeysHidden → Bool
keys_hidden_said KeysHidden.Any = false
keys_hidden_said KeysHidden.No = true
keys_hidden_said KeysHidden.Yes = true
keys_hidden_said KeysHidden.Soft = true

-- a `Keyboard` is said unless it is `Any`
abbrev pub keyboard_said : Keyboard → Bool
keyboard_said Keyboard.Any = false
keyboard_said Keyboard.NoKeys = true
keyboard_said Keyboard.Qwerty = true
keyboard_said Keyboard.Key12 = true
keyboard_said (Keyboard.Unknown v) = true

-- a `NavHidden` is said unless it is `Any`
abbrev pub nav_hidden_said : NavHidden → Bool
nav_hidden_said NavHidden.Any = false
nav_hidden_said NavHidden.No = true
nav_hidden_said NavHidden.Yes = true
nav_hidden_said (NavHidden.Unknown v) = true

-- a `Navigation` is said unless it is `Any`
abbrev pub navigation_said : Navigation → Bool
navigation_said Navigation.Any = false
navigation_said Navigation.NoNav = true
navigation_said Navigation.Dpad = true
navigation_said Navigation.Trackball = true
navigation_said Navigation.Wheel = true
navigation_said (Navigation.Unknown v) = true

-- whether a kind is said
abbrev pub kind_said : Kind → Bool
kind_said (Kind.GrammaticalGender k) = grammatical_gender_said k
kind_said (Kind.LayoutDir k) = layout_dir_said k
kind_said (Kind.ScreenSize k) = screen_size_said k
kind_said (Kind.ScreenLong k) = screen_long_said k
kind_said (Kind.ScreenRound k) = screen_round_said k
kind_said (Kind.WideColorGamut k) = wide_color_gamut_said k
kind_said (Kind.Hdr k) = hdr_said k
kind_said (Kind.Orientation k) = orientation_said k
kind_said (Kind.UIMode k) = ui_mode_said k
kind_said (Kind.UIModeNight k) = ui_mode_night_said k
kind_said (Kind.Density k) = density_said k
kind_said (Kind.Touchscreen k) = touchscreen_said k
kind_said (Kind.KeysHidden k) = keys_hidden_said k
kind_said (Kind.Keyboard k) = keyboard_said k
kind_said (Kind.NavHidden k) = nav_hidden_said k
kind_said (Kind.Navigation k) = navigation_said k
