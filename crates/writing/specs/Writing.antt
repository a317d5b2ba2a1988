-- 01, "Numbers given back": what the writer writes and when it refuses, and which bytes it gives back as they were. Assumes nothing.
use Rattle.std.specs.Prelude.{ℕ, zero, suc, ◌/◌, ◌%◌, ◌<◌, ◌≤◌, ◌≡◌, List, [], ◌∷◌, Bool, true, false, cond, ◌||◌, ◌&&◌, leb, ltb, get_or, replicate}
use Rattle.std.proofs.Math.Seq.{paste}
use Rattle.laws.specs.Below.{some_below, each_below}
use Rattle.answers.specs.declared.Refusal.{Refusal}
use Rattle.buffer.specs.Written.{Outcome, written, refused}
use Rattle.record.specs.declared.ResTableConfig.{ResTableConfig}
use Rattle.record.specs.Table.{start_of, end_of, width_of, all_zero, bit, bytes_taken}
use Rattle.reading.specs.Reading.{reads, size_of, taken}

-- the four little-endian bytes of a word
abbrev pub bytes4 : ℕ → List ℕ
bytes4 x = x % 256 ∷ x / 256 % 256 ∷ x / 65536 % 256 ∷ x / 16777216 ∷ []

-- the bytes of each field, in the order of the table
abbrev pub fields_of : ResTableConfig → List (List ℕ)
fields_of r =
    bytes4 r.size
    ∷ bytes4 r.imsi
    ∷ bytes4 r.locale
    ∷ bytes4 r.screen_type
    ∷ bytes4 r.generic_purpose_field
    ∷ bytes4 r.screen_size
    ∷ bytes4 r.version
    ∷ bytes4 r.screen_config
    ∷ bytes4 r.screen_size_dp
    ∷ r.locale_script
    ∷ r.locale_variant
    ∷ bytes4 r.screen_config_2
    ∷ (bit r.locale_script_was_computed ∷ [])
    ∷ r.locale_numbering_system
    ∷ r.end_padding
    ∷ []

-- the bytes of field f
unfoldable pub bytes_of : ResTableConfig → ℕ → List ℕ
bytes_of r f = get_or (fields_of r) f []

-- T: how many bytes a record takes
abbrev pub span : ResTableConfig → ℕ
span r = bytes_taken r.size

-- T zeros, and over them, each from its start on, those of the first n fields that are read at the record's size
unfoldable pub laid : ResTableConfig → ℕ → List ℕ
laid r zero = replicate (span r) 0
laid r (suc f) = cond (reads r.size f) (paste (laid r f) (start_of f) (bytes_of r f) (width_of f)) (laid r f)

-- the T bytes of a record: size and every field that is read at that size, and zero elsewhere
abbrev pub bytes_written : ResTableConfig → List ℕ
bytes_written r = laid r 15

-- field f is read at the record's size, or it is zero
abbrev pub keeps : ResTableConfig → ℕ → Bool
keeps r f = reads r.size f || all_zero (bytes_of r f)

-- every field that isn't read at the record's size is zero
unfoldable pub tidy : ResTableConfig → Bool
tidy r = each_below 15 (keeps r)

-- writing a record: 6 when a field that isn't read at its size isn't zero, then 5; else its T bytes
unfoldable pub write_of : ResTableConfig → List ℕ → Outcome
write_of r old = cond (tidy r) (written (bytes_written r) old) (refused Refusal.UnreadField old)

-- offset k lies in field f
abbrev pub in_field : ℕ → ℕ → Bool
in_field k f = leb (start_of f) k && ltb k (end_of f)

-- offset k lies in a field that is read at that size
unfoldable pub decoded : ℕ → ℕ → Bool
decoded size k = some_below 15 (λ f. reads size f && in_field k f)

-- the bytes of a record that say no more than the record: of its T bytes those in no read field are zero, and the computed
-- byte, where it is read, is 0 or 1
pub record Kept (s : List ℕ) : Type 0 where
  pub skipped : (k : ℕ) → k < taken s → decoded (size_of s) k ≡ false → get_or s k 0 ≡ 0
  pub computed : reads (size_of s) 12 ≡ true → get_or s (start_of 12) 0 ≤ 1
