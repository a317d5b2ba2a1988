-- 01, "The record" and "Ages, marks, runs": what parsing gives, plain and at an age. Assumes nothing.
use Rattle.std.specs.Prelude.{ℕ, List, Bool, not, cond, ◌&&◌, ◌||◌, leb, ltb, length, replicate, Result, Ok, Err}
use Rattle.answers.specs.declared.Refusal.{Refusal}
use Rattle.answers.specs.declared.Told.{Told}
use Rattle.answers.specs.Tells.{success, refusal}
use Rattle.record.specs.declared.ResTableConfig.{ResTableConfig}
use Rattle.record.specs.Ages.{is_age}
use Rattle.record.specs.Blank.{blank_record}
use Rattle.record.specs.Table.{start_of, end_of, width_of, part, le, all_zero, bytes_taken}
use Rattle.reading.specs.declared.Parsed.{Parsed}
use Rattle.reading.specs.Cut.{lacking}

-- the first four fields are always read; a later field is read exactly when its end is at most size
unfoldable pub reads : ℕ → ℕ → Bool
reads size f = ltb f 4 || leb (end_of f) size

-- a reader of age a reads a field exactly when its end is at most a and the plain reading reads it
abbrev pub reads_at : ℕ → ℕ → ℕ → Bool
reads_at a size f = leb (end_of f) a && reads size f

-- the bytes of field f in s where p says that it is read; otherwise it is zero
unfoldable pub field_by : (ℕ → Bool) → List ℕ → ℕ → List ℕ
field_by p s f = cond (p f) (part s (start_of f) (width_of f)) (replicate (width_of f) 0)

-- the record of the fields of which p says that they are read: words are little-endian, and the computed byte is yes when not 0
unfoldable pub record_by : (ℕ → Bool) → List ℕ → ResTableConfig
record_by p s =
    record {
      size = le (field_by p s 0);
      imsi = le (field_by p s 1);
      locale = le (field_by p s 2);
      screen_type = le (field_by p s 3);
      generic_purpose_field = le (field_by p s 4);
      screen_size = le (field_by p s 5);
      version = le (field_by p s 6);
      screen_config = le (field_by p s 7);
      screen_size_dp = le (field_by p s 8);
      locale_script = field_by p s 9;
      locale_variant = field_by p s 10;
      screen_config_2 = le (field_by p s 11);
      locale_script_was_computed = not (all_zero (field_by p s 12));
      locale_numbering_system = field_by p s 13;
      end_padding = field_by p s 14;
    }

-- the size that the record at the front of s declares
abbrev pub size_of : List ℕ → ℕ
size_of s = le (part s 0 4)

-- T: how many bytes the record at the front of s takes
abbrev pub taken : List ℕ → ℕ
taken s = bytes_taken (size_of s)

-- the plain reading
unfoldable pub plain : List ℕ → ResTableConfig
plain s = record_by (reads (size_of s)) s

-- the reading of a reader of age a
unfoldable pub aged : ℕ → List ℕ → ResTableConfig
aged a s = record_by (reads_at a (size_of s)) s

-- what is given where a whole record stands at the front of s; 1 comes when there are fewer than 16 bytes; 2 or 8, by what is
-- lacking, when 16 or more, fewer than size
unfoldable pub if_whole : {A : Type 0} → List ℕ → (Refusal → A) → A → A
if_whole s refuse give =
    cond (ltb (length s) 16) (refuse Refusal.TooFewBytes)
    (cond (ltb (length s) (size_of s)) (refuse (lacking (length s) (size_of s))) give)

-- what is given where a is an age; 3 comes when it is not among the twelve
unfoldable pub if_age : {A : Type 0} → ℕ → (Refusal → A) → A → A
if_age a refuse give = cond (is_age a) give (refuse Refusal.NotAnAge)

-- what a call comes to that gives a record: what it tells, and the record
pub record ParseOutcome : Type 0 where
  pub tells : Told
  pub gives : ResTableConfig

-- n bytes are taken, and a record is given
abbrev pub parse_took : ℕ → ResTableConfig → ParseOutcome
parse_took n r = record { tells = success n; gives = r }

-- nothing is taken, and the record that goes along holds nothing
abbrev pub parse_refused : Refusal → ParseOutcome
parse_refused why = record { tells = refusal why; gives = blank_record }

-- what an answer comes to: the bytes that are taken, and the record
abbrev pub parsed_outcome : Result Parsed Refusal → ParseOutcome
parsed_outcome (Ok parsed) = parse_took parsed.taken parsed.«record»
parsed_outcome (Err why) = parse_refused why

-- parsing
abbrev pub parse_of : List ℕ → ParseOutcome
parse_of s = if_whole s parse_refused (parse_took (taken s) (plain s))

-- parsing by a reader of age a
abbrev pub parse_aged : ℕ → List ℕ → ParseOutcome
parse_aged a s = if_age a parse_refused (if_whole s parse_refused (parse_took (taken s) (aged a s)))

-- how many bytes parsing takes, or its refusal
abbrev pub take_of : List ℕ → Told
take_of s = if_whole s refusal (success (taken s))
