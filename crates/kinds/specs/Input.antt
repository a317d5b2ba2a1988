-- Which kind of touch, keys or navigation a number is, as 000's `from` decides. Assumes nothing.
use Rattle.std.specs.Prelude.{ℕ, List, [], ◌∷◌}
use Rattle.std.specs.Int.Bits.{bit_and}
use Rattle.kinds.specs.Pick.{pick}
use Rattle.kinds.specs.declared.input.Touchscreen.{Touchscreen}
use Rattle.kinds.specs.declared.input.KeysHidden.{KeysHidden}
use Rattle.kinds.specs.declared.input.Keyboard.{Keyboard}
use Rattle.kinds.specs.declared.input.NavHidden.{NavHidden}
use Rattle.kinds.specs.declared.input.Navigation.{Navigation}

-- the numbers of Touchscreen that have a name
abbrev pub touchscreens : List (ℕ × Touchscreen)
touchscreens =
    (0x00, Touchscreen.Any) ∷
    (0x01, Touchscreen.NoTouch) ∷
    (0x02, Touchscreen.Stylus) ∷
    (0x03, Touchscreen.Finger) ∷
    []

-- the whole byte; what has no name is kept
abbrev pub touchscreen_of : ℕ → Touchscreen
touchscreen_of n = pick touchscreens (Touchscreen.Unknown n) n

-- the numbers of KeysHidden that have a name
abbrev pub keys_hiddens : List (ℕ × KeysHidden)
keys_hiddens = (0x00, KeysHidden.Any) ∷ (0x01, KeysHidden.No) ∷ (0x02, KeysHidden.Yes) ∷ []

-- the low two bits; what the table leaves, 3, is Soft
abbrev pub keys_hidden_of : ℕ → KeysHidden
keys_hidden_of n = pick keys_hiddens KeysHidden.Soft (bit_and n 0x03)

-- the numbers of Keyboard that have a name
abbrev pub keyboards : List (ℕ × Keyboard)
keyboards = (0x00, Keyboard.Any) ∷ (0x01, Keyboard.NoKeys) ∷ (0x02, Keyboard.Qwerty) ∷ (0x03, Keyboard.Key12) ∷ []

-- the whole byte; what has no name is kept
abbrev pub keyboard_of : ℕ → Keyboard
keyboard_of n = pick keyboards (Keyboard.Unknown n) n

-- the numbers of NavHidden that have a name
abbrev pub nav_hiddens : List (ℕ × NavHidden)
nav_hiddens = (0x00, NavHidden.Any) ∷ (0x04, NavHidden.No) ∷ (0x08, NavHidden.Yes) ∷ []

-- bits 2 and 3; what has no name is kept
abbrev pub nav_hidden_of : ℕ → NavHidden
nav_hidden_of n = pick nav_hiddens (NavHidden.Unknown (bit_and n 0x0c)) (bit_and n 0x0c)

-- the numbers of Navigation that have a name
abbrev pub navigations : List (ℕ × Navigation)
navigations =
    (0x00, Navigation.Any) ∷
    (0x01, Navigation.NoNav) ∷
    (0x02, Navigation.Dpad) ∷
    (0x03, Navigation.Trackball) ∷
    (0x04, Navigation.Wheel) ∷
    []

-- the whole byte; what has no name is kept
abbrev pub navigation_of : ℕ → Navigation
navigation_of n = pick navigations (Navigation.Unknown n) n
