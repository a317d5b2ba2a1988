-- What is easy to get wrong in writing, as one table that antt computes. Assumes nothing.
use Prim.Native.Nat.{ℕ}
use mathlib.Core.Path.{◌≡◌, refl}
use mathlib.Core.Bool.{Bool, true, false}
use mathlib.Core.List.{List, [], ◌∷◌, ◌++◌}
use lib.ListN.{replicate}
use Rattle.answers.specs.declared.Refusal.{Refusal}
use Rattle.answers.specs.Tells.{success, refusal}
use Rattle.buffer.specs.Written.{written}
use Rattle.record.specs.declared.ResTableConfig.{ResTableConfig}
use Rattle.reading.specs.Reading.{reads}
use Rattle.writing.specs.Writing.{bytes_of, laid, tidy, write_of, decoded}

-- a record of that size with mcc 310, and in its later fields only a script, a variant and the computed byte
abbrev sample : ℕ → List ℕ → List ℕ → Bool → ResTableConfig
sample size script variant computed =
    record {
      size = size;
      imsi = 310;
      locale = 0;
      screen_type = 0;
      generic_purpose_field = 0;
      screen_size = 0;
      version = 0;
      screen_config = 0;
      screen_size_dp = 0;
      locale_script = script;
      locale_variant = variant;
      screen_config_2 = 0;
      locale_script_was_computed = computed;
      locale_numbering_system = replicate 8 0;
      end_padding = replicate 3 0;
    }

abbrev latin : List ℕ
latin = 76 ∷ 97 ∷ 116 ∷ 110 ∷ []

-- a buffer of n sevens
abbrev sevens : ℕ → List ℕ
sevens n = replicate n 7

pub examples :
    -- below 16 sixteen bytes are written, and the bytes behind them stay
    (write_of (sample 0 (replicate 4 0) (replicate 8 0) false) (sevens 18)
    ≡ record { tells = success 16; leaves = replicate 4 0 ++ (54 ∷ 1 ∷ replicate 10 0) ++ sevens 2 })
    -- size 44 holds the script, and none of the variant: zeros stand where it would begin
    × (write_of (sample 44 latin (replicate 8 0) false) (sevens 44)
    ≡ record { tells = success 44; leaves = 44 ∷ 0 ∷ 0 ∷ 0 ∷ 54 ∷ 1 ∷ replicate 30 0 ++ latin ++ replicate 4 0 })
    × (write_of (sample 44 latin (0 ∷ 1 ∷ replicate 6 0) false) (sevens 44) ≡ record { tells = refusal Refusal.UnreadField; leaves = sevens 44 })
    -- 6 comes before 5
    × (write_of (sample 44 latin (0 ∷ 1 ∷ replicate 6 0) false) (sevens 3) ≡ record { tells = refusal Refusal.UnreadField; leaves = sevens 3 })
    × (write_of (sample 48 latin (0 ∷ 1 ∷ replicate 6 0) false) (sevens 47) ≡ record { tells = refusal Refusal.ShortBuffer; leaves = sevens 47 })
    -- yes is 1, where size holds it
    × (write_of (sample 53 latin (replicate 8 0) true) (sevens 53)
    ≡ record { tells = success 53; leaves = 53 ∷ 0 ∷ 0 ∷ 0 ∷ 54 ∷ 1 ∷ replicate 30 0 ++ latin ++ replicate 12 0 ++ (1 ∷ []) })
    × (write_of (sample 52 latin (replicate 8 0) true) (sevens 53) ≡ record { tells = refusal Refusal.UnreadField; leaves = sevens 53 })
    -- past 64 there are zeros
    × (write_of (sample 65 latin (replicate 8 0) false) (sevens 66)
    ≡ record { tells = success 65; leaves = 65 ∷ 0 ∷ 0 ∷ 0 ∷ 54 ∷ 1 ∷ replicate 30 0 ++ latin ++ replicate 25 0 ++ sevens 1 })
    -- the offsets that are in a read field, and that aren't
    × (decoded 44 39 ≡ true)
    × (decoded 44 40 ≡ false)
    × (decoded 3 15 ≡ true)
    × (decoded 70 64 ≡ false)
unfolding write_of written tidy laid reads bytes_of decoded
examples = (refl, refl, refl, refl, refl, refl, refl, refl, refl, refl, refl, refl)
