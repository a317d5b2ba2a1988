-- 02, K5: the value that each form with numbers gives to bytes, and 0 where it doesn't make them: no part puts 0. Assumes nothing.
use Rattle.std.specs.Prelude.{ℕ, ◌+◌, ◌*◌, ◌-◌, List, [], cond, ◌&&◌, leb, length, take, drop}
use Rattle.buffer.specs.Ascii.{ascii}
use Rattle.kinds.specs.Screen.{density_of}
use Rattle.kinds.specs.declared.screen.Density.{Density}
use Rattle.numbers.specs.Numbers.{number_in}
use Rattle.compare.specs.Compare.{same, begins_with, up_to}

-- a number of 16 bits, or 0
abbrev pub proper : ℕ → ℕ
proper n = cond (leb n 65535) n 0

-- the number before the word back, with which s ends
unfoldable pub number_before : List ℕ → List ℕ → ℕ
number_before back s =
    cond (leb (length back) (length s) && same (drop (length s - length back) s) back) (proper (number_in (take (length s - length back) s))) 0

-- the number between two words
unfoldable pub number_value : List ℕ → List ℕ → List ℕ → ℕ
number_value front back s = cond (begins_with front s) (number_before back (drop (length front) s)) 0

-- the number of a density that has no word, and 0 for those that have one or no text
abbrev pub unnamed : Density → ℕ
unnamed Density.Default = 0
unnamed Density.Low = 0
unnamed Density.Medium = 0
unnamed Density.TV = 0
unnamed Density.High = 0
unnamed Density.XHigh = 0
unnamed Density.XXHigh = 0
unnamed Density.XXXHigh = 0
unnamed Density.Any = 0
unnamed Density.None = 0
unnamed (Density.Unknown v) = v

-- a density that has no word
unfoldable pub density_value : List ℕ → ℕ
density_value s = unnamed (density_of (number_value [] (ascii "dpi") s))

-- two numbers of 16 bits as one of 32, or 0
abbrev pub two_numbers : ℕ → ℕ → ℕ
two_numbers n m = cond (leb n 65535 && leb m 65535) (n + m * 65536) 0

-- two numbers with the byte b between them
unfoldable pub pair_value : ℕ → List ℕ → ℕ
pair_value b s = two_numbers (number_in (take (up_to b s) s)) (number_in (drop (up_to b s + 1) s))

-- both sides in pixels
abbrev pub sides_value : List ℕ → ℕ
sides_value s = pair_value 120 s

-- a version with a minor one that isn't 0
unfoldable pub minor_value : List ℕ → ℕ
minor_value s = cond (begins_with (ascii "v") s && leb 65536 (pair_value 46 (drop 1 s))) (pair_value 46 (drop 1 s)) 0
