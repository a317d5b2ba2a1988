-- What the machinery of the index does: it holds, for each distinct record, its offset and its count in one number, or the offset alone and
-- counts in the entries. Assumes nothing.
use Rattle.std.specs.Prelude.{ℕ, zero, suc, ◌+◌, ◌*◌, ◌/◌, ◌%◌, ◌≤◌, ◌<◌, ◌≡◌, List, [], ◌∷◌, ◌++◌, map, Bool, true, false, length, get_or, set, take, drop, Result, Ok, Err, is_ok}
use Rattle.record.specs.Table.{part, le}
use Rattle.order_at.specs.OrderAt.{plain_at, order_at}
use Rattle.rising.specs.Rising.{Rises}
use Rattle.rising.specs.Steps.{rank, hit, taken_in, recount, tallied}
use Rattle.entries.specs.Entry.{entry_of, little8}
use Rattle.index.specs.Index.{firsts, count_in, index_of}

-- what a held offset is multiplied with: 2^32 where counts are held beside it
abbrev pub unit_of : Bool → ℕ
unit_of true = 4294967296
unit_of false = 1

-- what one occurrence counts: 1 where counts are held
abbrev pub count_step : Bool → ℕ
count_step true = 1
count_step false = 0

-- the offsets in held numbers
abbrev pub places_in : Bool → List ℕ → List ℕ
places_in counted ws = map (λ (w : ℕ). w / unit_of counted) ws

-- the counts in held numbers
abbrev pub counts_in : Bool → List ℕ → List ℕ
counts_in counted ws = map (λ (w : ℕ). w % unit_of counted) ws

-- counts are held beside the offsets only where the bytes are fewer than 2^32
abbrev pub Fits : List ℕ → Bool → Type 0
Fits s counted = counted ≡ true → length s < 4294967296

-- x put at place i, what stood there at the next, and so on for n places
unfoldable pub carry : List ℕ → ℕ → ℕ → ℕ → List ℕ
carry a i x zero = a
carry a i x (suc n) = carry (set a i x) (suc i) (get_or a i 0) n

-- the place of a record that is sought among others: its own where it is met, else the one where it would stand
abbrev pub seat_of : Result ℕ ℕ → ℕ
seat_of (Ok at) = at
seat_of (Err at) = at

-- the record at offset p of s is sought among those at qs: how many are Less, and whether one is Equal
pub record SeatAmong (s : List ℕ) (p : ℕ) (qs : List ℕ) (r : Result ℕ ℕ) : Type 0 where
  pub at : seat_of r ≡ rank (λ q. order_at s q p) qs
  pub met : is_ok r ≡ hit (λ q. order_at s q p) qs

-- the first m of the held numbers have rising places, and there is room to hold and count one more at offset p
pub record CanTakeIn (s : List ℕ) (p : ℕ) (held : List ℕ) (m room : ℕ) (counted : Bool) : Type 0 where
  pub most : m ≤ room
  pub long : room ≤ length held
  pub fits : Fits s counted
  pub inside : p < length s
  pub rising : Rises (order_at s) (places_in counted (take m held))
  pub small : tallied (λ q. order_at s q p) (places_in counted (take m held)) (counts_in counted (take m held)) + count_step counted < unit_of counted

-- offset p is taken into the first m of the held numbers; r are held then, or would be where they are more than there is room for
pub record TakenIn (s : List ℕ) (p : ℕ) (held : List ℕ) (m room : ℕ) (counted : Bool) (after : List ℕ) (r : ℕ) : Type 0 where
  pub amount : r ≡ length (taken_in (order_at s) p (places_in counted (take m held)))
  pub places : r ≤ room → places_in counted (take r after) ≡ taken_in (order_at s) p (places_in counted (take m held))
  pub counts : r ≤ room → counts_in counted (take r after) ≡ recount (count_step counted) (λ q. order_at s q p) (places_in counted (take m held)) (counts_in counted (take m held))
  pub long : length after ≡ length held

-- the run of s is gathered: r numbers are held, one for each distinct record, or there are more of them than there is room for
pub record Gathered (s : List ℕ) (room : ℕ) (counted : Bool) (held : List ℕ) (r : ℕ) : Type 0 where
  pub all : r ≤ room → r ≡ length (firsts s)
  pub more : room < r → room < length (firsts s)
  pub places : r ≤ room → places_in counted (take r held) ≡ firsts s
  pub counts : r ≤ room → counts_in counted (take r held) ≡ map (λ (q : ℕ). count_step counted * count_in s q) (firsts s)
  pub long : length held ≡ 1024

-- the entries of the records at some offsets of s, with the counts beside them
unfoldable pub entries_with : List ℕ → List ℕ → List ℕ → List ℕ
entries_with s [] ns = []
entries_with s (q ∷ qs) [] = []
entries_with s (q ∷ qs) (n ∷ ns) = entry_of (plain_at s q) q n ++ entries_with s qs ns

-- the entries of held numbers
abbrev pub entries_held : List ℕ → Bool → List ℕ → List ℕ
entries_held s counted ws = entries_with s (places_in counted ws) (counts_in counted ws)

-- the first m of the held numbers are the offsets of the distinct records of the run, and their entries are put with no counts
pub record Uncounted (s held : List ℕ) (m : ℕ) (out : List ℕ) : Type 0 where
  pub long : m ≤ length held
  pub places : places_in false (take m held) ≡ firsts s
  pub front : take (length (index_of s)) out ≡ entries_held s false (take m held)

-- the bytes with one added to the little-endian number of the eight at an offset
abbrev pub one_more_at : List ℕ → ℕ → List ℕ
one_more_at bytes at = take at bytes ++ little8 (le (part bytes at 8) + 1) ++ drop (at + 8) bytes
