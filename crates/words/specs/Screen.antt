-- The words of the kinds that speak of what a screen shows. Assumes nothing.
use Rattle.std.specs.Prelude.{ℕ, List, [], ◌++◌}
use Rattle.buffer.specs.Ascii.{ascii}
use Rattle.buffer.specs.Decimal.{decimal}
use Rattle.kinds.specs.declared.screen.WideColorGamut.{WideColorGamut}
use Rattle.kinds.specs.declared.screen.Hdr.{Hdr}
use Rattle.kinds.specs.declared.screen.Orientation.{Orientation}
use Rattle.kinds.specs.declared.screen.Density.{Density}

-- what 000 displays of `WideColorGamut`
abbrev pub wide_color_gamut_words : WideColorGamut → List ℕ
wide_color_gamut_words WideColorGamut.No = ascii "nowidecg"
wide_color_gamut_words WideColorGamut.Yes = ascii "widecg"
wide_color_gamut_words (WideColorGamut.Any v) = ascii "wideColorGamut=" ++ decimal v

-- what 000 displays of `Hdr`
abbrev pub hdr_words : Hdr → List ℕ
hdr_words Hdr.No = ascii "lowdr"
hdr_words Hdr.Yes = ascii "highdr"
hdr_words (Hdr.Any v) = ascii "hdr=" ++ decimal v

-- what 000 displays of `Orientation`
abbrev pub orientation_words : Orientation → List ℕ
orientation_words Orientation.Any = []
orientation_words Orientation.Port = ascii "port"
orientation_words Orientation.Land = ascii "land"
orientation_words Orientation.Square = ascii "square"
orientation_words (Orientation.Unknown v) = ascii "orientation=" ++ decimal v

-- what 000 displays of `Density`
abbrev pub density_words : Density → List ℕ
density_words Density.Default = []
density_words Density.Low = ascii "ldpi"
density_words Density.Medium = ascii "mdpi"
density_words Density.TV = ascii "tvdpi"
density_words Density.High = ascii "hdpi"
density_words Density.XHigh = ascii "xhdpi"
density_words Density.XXHigh = ascii "xxhdpi"
density_words Density.XXXHigh = ascii "xxxhdpi"
density_words Density.Any = ascii "anydpi"
density_words Density.None = ascii "nodpi"
density_words (Density.Unknown v) = decimal v ++ ascii "dpi"
