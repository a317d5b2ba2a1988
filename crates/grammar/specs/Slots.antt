-- 02, K5: the slots of a directory name: the text's twenty-four places in their order, and the region in a slot of its own behind the
-- language. Assumes nothing.
use Rattle.std.specs.Prelude.{ℕ}

-- how many there are
abbrev pub slots : ℕ
slots = 25

-- the mobile country code
abbrev pub mcc : ℕ
mcc = 0

-- the mobile network code
abbrev pub mnc : ℕ
mnc = 1

-- the language
abbrev pub language : ℕ
language = 2

-- the region
abbrev pub region : ℕ
region = 3

-- the grammatical gender
abbrev pub gender : ℕ
gender = 4

-- the direction of the layout
abbrev pub layout_dir : ℕ
layout_dir = 5

-- the smallest width in dp
abbrev pub smallest_width : ℕ
smallest_width = 6

-- the width in dp
abbrev pub width : ℕ
width = 7

-- the height in dp
abbrev pub height : ℕ
height = 8

-- the size of the screen
abbrev pub screen_size : ℕ
screen_size = 9

-- whether the screen is long
abbrev pub screen_long : ℕ
screen_long = 10

-- whether the screen is round
abbrev pub screen_round : ℕ
screen_round = 11

-- whether the gamut is wide
abbrev pub gamut : ℕ
gamut = 12

-- the dynamic range
abbrev pub hdr : ℕ
hdr = 13

-- the orientation
abbrev pub orientation : ℕ
orientation = 14

-- the UI type
abbrev pub ui_type : ℕ
ui_type = 15

-- night
abbrev pub night : ℕ
night = 16

-- the density
abbrev pub density : ℕ
density = 17

-- the touchscreen
abbrev pub touchscreen : ℕ
touchscreen = 18

-- whether keys are hidden
abbrev pub keys_hidden : ℕ
keys_hidden = 19

-- the keyboard
abbrev pub keyboard : ℕ
keyboard = 20

-- whether navigation is hidden
abbrev pub nav_hidden : ℕ
nav_hidden = 21

-- the navigation
abbrev pub navigation : ℕ
navigation = 22

-- both sides in pixels
abbrev pub sides : ℕ
sides = 23

-- the platform's version
abbrev pub version : ℕ
version = 24
