-- 01, "Judged examples": the twelve as one twelve, over the definitions that the public contracts cite. Assumes nothing.
use Rattle.std.specs.Prelude.{ℕ, ◌^◌, List, [], ◌∷◌, ◌++◌, take, replicate}
use Prim.Native.String.{String}
use Rattle.answers.specs.declared.Told.{Told}
use Rattle.buffer.specs.Ascii.{ascii}
use Rattle.buffer.specs.Written.{Outcome}
use Rattle.reading.specs.Reading.{take_of, parse_of}
use Rattle.text.specs.Text.{plain_text, aged_text}
use Rattle.sheet.specs.Sheet.{sheet_of}

-- n zero bytes
abbrev pub zeros : ℕ → List ℕ
zeros n = replicate n 0

-- what an answer tells: its number and its amount
abbrev pub told : Told → List ℕ
told t = t.number ∷ t.amount ∷ []

-- what a call that writes tells: its number, and the bytes that it wrote
abbrev pub told_bytes : Outcome → List ℕ
told_bytes o = o.tells.number ∷ take o.tells.amount o.leaves

-- the plain text of some bytes, in a lent buffer of 344
abbrev pub text : List ℕ → List ℕ
text s = told_bytes (plain_text s (zeros 344))

-- their text for a reader of age a
abbrev pub text_at : ℕ → List ℕ → List ℕ
text_at a s = told_bytes (aged_text a s (zeros 344))

-- a record of size 64: language and country, script, computed byte
abbrev pub locale_record : List ℕ → List ℕ → ℕ → List ℕ
locale_record locale script computed = 64 ∷ (zeros 7 ++ locale ++ zeros 24 ++ script ++ zeros 12 ++ (computed ∷ zeros 11))

-- a record of size 32: screen_type's first byte, and screen_config's second
abbrev pub screen_record : ℕ → ℕ → List ℕ
screen_record orientation mode = 32 ∷ (zeros 11 ++ (orientation ∷ zeros 16) ++ (mode ∷ zeros 2))

-- EF BF BD, as 01 writes it; on purpose apart from the definition of subtags, which the examples are to hold to it
abbrev pub ef_bf_bd : List ℕ
ef_bf_bd = 0xEF ∷ 0xBF ∷ 0xBD ∷ []

-- a judged example: its number, what 01 says of it, what the definitions give, and what 01 asks
pub record Example : Type 0 where
  pub number : ℕ
  pub says : String
  pub given : List (List ℕ)
  pub asked : List (List ℕ)

-- the twelve
abbrev pub twelve : List Example
twelve =
    record {
      number = 1;
      says = "15 zero bytes: 1. Sixteen: taken, text empty.";
      given = told (take_of (zeros 15)) ∷ told (take_of (zeros 16)) ∷ text (zeros 16) ∷ [];
      asked = (1 ∷ 0 ∷ []) ∷ (0 ∷ 16 ∷ []) ∷ (0 ∷ []) ∷ [];
    }
    ∷ record {
      number = 2;
      says = "Size 17 in 16 bytes: 8, as 02 has it. In 17: takes 17.";
      given = told (take_of (17 ∷ zeros 15)) ∷ told (take_of (17 ∷ zeros 16)) ∷ [];
      asked = (8 ∷ 0 ∷ []) ∷ (0 ∷ 17 ∷ []) ∷ [];
    }
    ∷ record {
      number = 3;
      says = "Size 44, 44 bytes: script read, variant zero.";
      given =
          (parse_of (44 ∷ (zeros 35 ++ ascii "Latn" ++ ascii "half"))).gives.locale_script
          ∷ (parse_of (44 ∷ (zeros 35 ++ ascii "Latn" ++ ascii "half"))).gives.locale_variant
          ∷ [];
      asked = ascii "Latn" ∷ zeros 8 ∷ [];
    }
    ∷ record {
      number = 4;
      says = "Language FF FF, no country: EF BF BD three times.";
      given = text (locale_record (0xFF ∷ 0xFF ∷ 0 ∷ 0 ∷ []) (zeros 4) 0) ∷ [];
      asked = (0 ∷ (ef_bf_bd ++ ef_bf_bd ++ ef_bf_bd)) ∷ [];
    }
    ∷ record {
      number = 5;
      says = "AD 05 A4 24: fil-r419.";
      given = text (locale_record (0xAD ∷ 0x05 ∷ 0xA4 ∷ 0x24 ∷ []) (zeros 4) 0) ∷ [];
      asked = (0 ∷ ascii "fil-r419") ∷ [];
    }
    ∷ record {
      number = 6;
      says = "\"sr\", script \"Latn\", size 64: b+sr+Latn; with computed 1: sr.";
      given = text (locale_record (ascii "sr" ++ zeros 2) (ascii "Latn") 0) ∷ text (locale_record (ascii "sr" ++ zeros 2) (ascii "Latn") 1) ∷ [];
      asked = (0 ∷ ascii "b+sr+Latn") ∷ (0 ∷ ascii "sr") ∷ [];
    }
    ∷ record {
      number = 7;
      says = "\"en\", script E2 82 00 41, size 40: b+en+, then EF BF BD 00 41.";
      given = text (40 ∷ (zeros 7 ++ ascii "en" ++ zeros 26 ++ (0xE2 ∷ 0x82 ∷ 0x00 ∷ 0x41 ∷ []))) ∷ [];
      asked = (0 ∷ (ascii "b+en+" ++ ef_bf_bd ++ (0x00 ∷ 0x41 ∷ []))) ∷ [];
    }
    ∷ record {
      number = 8;
      says = "screen_type 2, screen_config 0x0100: land-; 0x2100: land--night.";
      given = text (screen_record 2 0x01) ∷ text (screen_record 2 0x21) ∷ [];
      asked = (0 ∷ ascii "land-") ∷ (0 ∷ ascii "land--night") ∷ [];
    }
    ∷ record {
      number = 9;
      says = "screen_config 0x0100 alone: empty, place 14 said.";
      given = text (screen_record 0 0x01) ∷ ((sheet_of (parse_of (screen_record 0 0x01)).gives).said ∷ []) ∷ [];
      asked = (0 ∷ []) ∷ (2 ^ 14 ∷ []) ∷ [];
    }
    ∷ record {
      number = 10;
      says = "Size 36, dp word not zero: age 32 holds back, 36 shows.";
      given = text_at 32 (36 ∷ (zeros 31 ++ (0x68 ∷ 0x01 ∷ 0 ∷ 0 ∷ []))) ∷ text_at 36 (36 ∷ (zeros 31 ++ (0x68 ∷ 0x01 ∷ 0 ∷ 0 ∷ []))) ∷ [];
      asked = (4 ∷ []) ∷ (0 ∷ ascii "w360dp") ∷ [];
    }
    ∷ record {
      number = 11;
      says = "Size 44, byte 40 is 1: age 40 holds back, 48 shows.";
      given = text_at 40 (44 ∷ (zeros 39 ++ (1 ∷ zeros 3))) ∷ text_at 48 (44 ∷ (zeros 39 ++ (1 ∷ zeros 3))) ∷ [];
      asked = (4 ∷ []) ∷ (0 ∷ []) ∷ [];
    }
    ∷ record {
      number = 12;
      says = "Size 65, byte 64 is 1: age 64 holds back; plain text is given.";
      given = text_at 64 (65 ∷ (zeros 7 ++ ascii "en" ++ zeros 54 ++ (1 ∷ []))) ∷ text (65 ∷ (zeros 7 ++ ascii "en" ++ zeros 54 ++ (1 ∷ []))) ∷ [];
      asked = (4 ∷ []) ∷ (0 ∷ ascii "en") ∷ [];
    }
    ∷ []
