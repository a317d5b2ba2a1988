-- Which kind of the screen a number is, as 000's `from` decides. Assumes nothing.
use Rattle.std.specs.Prelude.{ℕ, List, [], ◌∷◌}
use Rattle.std.specs.Int.Bits.{bit_and}
use Rattle.kinds.specs.Pick.{pick}
use Rattle.kinds.specs.declared.screen.LayoutDir.{LayoutDir}
use Rattle.kinds.specs.declared.screen.ScreenSize.{ScreenSize}
use Rattle.kinds.specs.declared.screen.ScreenLong.{ScreenLong}
use Rattle.kinds.specs.declared.screen.ScreenRound.{ScreenRound}
use Rattle.kinds.specs.declared.screen.WideColorGamut.{WideColorGamut}
use Rattle.kinds.specs.declared.screen.Hdr.{Hdr}
use Rattle.kinds.specs.declared.screen.Orientation.{Orientation}
use Rattle.kinds.specs.declared.screen.Density.{Density}

-- the numbers of LayoutDir that have a name
abbrev pub layout_dirs : List (ℕ × LayoutDir)
layout_dirs = (0x40, LayoutDir.Ltr) ∷ (0x80, LayoutDir.Rtl) ∷ []

-- the top two bits; what has no name is kept
abbrev pub layout_dir_of : ℕ → LayoutDir
layout_dir_of n = pick layout_dirs (LayoutDir.Any (bit_and n 0xc0)) (bit_and n 0xc0)

-- the numbers of ScreenSize that have a name
abbrev pub screen_sizes : List (ℕ × ScreenSize)
screen_sizes =
    (0x01, ScreenSize.Small) ∷
    (0x02, ScreenSize.Normal) ∷
    (0x03, ScreenSize.Large) ∷
    (0x04, ScreenSize.XLarge) ∷
    []

-- the low four bits; what has no name is kept
abbrev pub screen_size_of : ℕ → ScreenSize
screen_size_of n = pick screen_sizes (ScreenSize.Any (bit_and n 0x0f)) (bit_and n 0x0f)

-- the numbers of ScreenLong that have a name
abbrev pub screen_longs : List (ℕ × ScreenLong)
screen_longs = (0x10, ScreenLong.No) ∷ (0x20, ScreenLong.Yes) ∷ []

-- bits 4 and 5; what has no name is kept
abbrev pub screen_long_of : ℕ → ScreenLong
screen_long_of n = pick screen_longs (ScreenLong.Any (bit_and n 0x30)) (bit_and n 0x30)

-- the numbers of ScreenRound that have a name
abbrev pub screen_rounds : List (ℕ × ScreenRound)
screen_rounds = (0x01, ScreenRound.No) ∷ (0x02, ScreenRound.Yes) ∷ []

-- the low two bits; what has no name is kept
abbrev pub screen_round_of : ℕ → ScreenRound
screen_round_of n = pick screen_rounds (ScreenRound.Any (bit_and n 0x03)) (bit_and n 0x03)

-- the numbers of WideColorGamut that have a name
abbrev pub wide_color_gamuts : List (ℕ × WideColorGamut)
wide_color_gamuts = (0x01, WideColorGamut.No) ∷ (0x02, WideColorGamut.Yes) ∷ []

-- the low two bits; what has no name is kept
abbrev pub wide_color_gamut_of : ℕ → WideColorGamut
wide_color_gamut_of n = pick wide_color_gamuts (WideColorGamut.Any (bit_and n 0x03)) (bit_and n 0x03)

-- the numbers of Hdr that have a name
abbrev pub hdrs : List (ℕ × Hdr)
hdrs = (0x04, Hdr.No) ∷ (0x08, Hdr.Yes) ∷ []

-- bits 2 and 3; what has no name is kept
abbrev pub hdr_of : ℕ → Hdr
hdr_of n = pick hdrs (Hdr.Any (bit_and n 0x0c)) (bit_and n 0x0c)

-- the numbers of Orientation that have a name
abbrev pub orientations : List (ℕ × Orientation)
orientations =
    (0x00, Orientation.Any) ∷
    (0x01, Orientation.Port) ∷
    (0x02, Orientation.Land) ∷
    (0x03, Orientation.Square) ∷
    []

-- the whole byte; what has no name is kept
abbrev pub orientation_of : ℕ → Orientation
orientation_of n = pick orientations (Orientation.Unknown n) n

-- the numbers of Density that have a name
abbrev pub densities : List (ℕ × Density)
densities =
    (0, Density.Default) ∷
    (120, Density.Low) ∷
    (160, Density.Medium) ∷
    (213, Density.TV) ∷
    (240, Density.High) ∷
    (320, Density.XHigh) ∷
    (480, Density.XXHigh) ∷
    (640, Density.XXXHigh) ∷
    (0xfffe, Density.Any) ∷
    (0xffff, Density.None) ∷
    []

-- the whole number; what has no name is kept
abbrev pub density_of : ℕ → Density
density_of n = pick densities (Density.Unknown n) n

-- the number that a density stands for
abbrev pub density_number : Density → ℕ
density_number Density.Default = 0
density_number Density.Low = 120
density_number Density.Medium = 160
density_number Density.TV = 213
density_number Density.High = 240
density_number Density.XHigh = 320
density_number Density.XXHigh = 480
density_number Density.XXXHigh = 640
density_number Density.Any = 0xfffe
density_number Density.None = 0xffff
density_number (Density.Unknown v) = v
