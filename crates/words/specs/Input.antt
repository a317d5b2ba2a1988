-- The words of the kinds that speak of touch, keys and navigation. Assumes nothing.
use Rattle.std.specs.Prelude.{ℕ, List, [], ◌++◌}
use Rattle.buffer.specs.Ascii.{ascii}
use Rattle.buffer.specs.Decimal.{decimal}
use Rattle.kinds.specs.declared.input.Touchscreen.{Touchscreen}
use Rattle.kinds.specs.declared.input.KeysHidden.{KeysHidden}
use Rattle.kinds.specs.declared.input.Keyboard.{Keyboard}
use Rattle.kinds.specs.declared.input.NavHidden.{NavHidden}
use Rattle.kinds.specs.declared.input.Navigation.{Navigation}

-- what 000 displays of `Touchscreen`
abbrev pub touchscreen_words : Touchscreen → List ℕ
touchscreen_words Touchscreen.Any = []
touchscreen_words Touchscreen.NoTouch = ascii "notouch"
touchscreen_words Touchscreen.Stylus = ascii "stylus"
touchscreen_words Touchscreen.Finger = ascii "finger"
touchscreen_words (Touchscreen.Unknown v) = ascii "touchscreen=" ++ decimal v

-- what 000 displays of `KeysHidden`
abbrev pub keys_hidden_words : KeysHidden → List ℕ
keys_hidden_words KeysHidden.Any = []
keys_hidden_words KeysHidden.No = ascii "keysexposed"
keys_hidden_words KeysHidden.Yes = ascii "keyshidden"
keys_hidden_words KeysHidden.Soft = ascii "keyssoft"

-- what 000 displays of `Keyboard`
abbrev pub keyboard_words : Keyboard → List ℕ
keyboard_words Keyboard.Any = []
keyboard_words Keyboard.NoKeys = ascii "nokeys"
keyboard_words Keyboard.Qwerty = ascii "qwerty"
keyboard_words Keyboard.Key12 = ascii "12key"
keyboard_words (Keyboard.Unknown v) = ascii "keyboard=" ++ decimal v

-- what 000 displays of `NavHidden`
abbrev pub nav_hidden_words : NavHidden → List ℕ
nav_hidden_words NavHidden.Any = []
nav_hidden_words NavHidden.No = ascii "navexposed"
nav_hidden_words NavHidden.Yes = ascii "navhidden"
nav_hidden_words (NavHidden.Unknown v) = ascii "inputFlagsNavHidden=" ++ decimal v

-- what 000 displays of `Navigation`
abbrev pub navigation_words : Navigation → List ℕ
navigation_words Navigation.Any = []
navigation_words Navigation.NoNav = ascii "nonav"
navigation_words Navigation.Dpad = ascii "dpad"
navigation_words Navigation.Trackball = ascii "trackball"
navigation_words Navigation.Wheel = ascii "wheel"
navigation_words (Navigation.Unknown v) = ascii "navigation=" ++ decimal v
