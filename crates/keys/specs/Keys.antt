-- A record's key: sixty bytes, whose order byte by byte is 01's order of records. Assumes nothing.
use Rattle.std.specs.Prelude.{ℕ, ◌/◌, ◌%◌, ◌<◌, ◌≡◌, List, [], ◌∷◌, ◌++◌, ◌↔◌, length}
use Rattle.record.specs.Shape.{Shaped}
use Rattle.record.specs.Table.{bit}
use Rattle.record.specs.declared.ResTableConfig.{ResTableConfig}
use Rattle.order.specs.declared.Ordering.{Ordering}
use Rattle.order.specs.Order.{lex, agree, order_of, equal_of}

-- the four bytes of a word, big-endian
abbrev pub big4 : ℕ → List ℕ
big4 x = x / 16777216 ∷ x / 65536 % 256 ∷ x / 256 % 256 ∷ x % 256 ∷ []

-- the key's bytes of the fields from locale_script on: arrays as they are, yes as 1 and no as 0
abbrev pub later_bytes : ResTableConfig → List ℕ
later_bytes r =
    r.locale_script
    ++ (r.locale_variant
    ++ (big4 r.screen_config_2
    ++ (bit r.locale_script_was_computed ∷ [] ++ (r.locale_numbering_system ++ r.end_padding))))

-- the key of a record: the fourteen fields after size, in table order
unfoldable pub key_of : ResTableConfig → List ℕ
key_of r =
    big4 r.imsi
    ++ (big4 r.locale
    ++ (big4 r.screen_type
    ++ (big4 r.generic_purpose_field
    ++ (big4 r.screen_size
    ++ (big4 r.version ++ (big4 r.screen_config ++ (big4 r.screen_size_dp ++ later_bytes r)))))))

-- what every record of a program has: words below 2^32, and arrays of their lengths
pub record Sound (r : ResTableConfig) : Type 0 where
  pub imsi : r.imsi < 4294967296
  pub locale : r.locale < 4294967296
  pub screen_type : r.screen_type < 4294967296
  pub generic_purpose_field : r.generic_purpose_field < 4294967296
  pub screen_size : r.screen_size < 4294967296
  pub version : r.version < 4294967296
  pub screen_config : r.screen_config < 4294967296
  pub screen_size_dp : r.screen_size_dp < 4294967296
  pub screen_config_2 : r.screen_config_2 < 4294967296
  pub arrays : Shaped r

-- the order of two keys, byte by byte, is the order of their records
abbrev pub KeysOrder : ResTableConfig → ResTableConfig → Type 0
KeysOrder a b = Sound a → Sound b → lex (key_of a) (key_of b) ≡ order_of a b

-- two keys agree where their records are equal, and only there
abbrev pub KeysEqual : ResTableConfig → ResTableConfig → Type 0
KeysEqual a b = Sound a → Sound b → agree (key_of a) (key_of b) ≡ equal_of a b

-- two records have one key exactly when they are Equal
abbrev pub OneKey : ResTableConfig → ResTableConfig → Type 0
OneKey a b = Sound a → Sound b → ((key_of a ≡ key_of b) ↔ (order_of a b ≡ Ordering.Equal))

-- a key has sixty bytes
abbrev pub KeyLong : ResTableConfig → Type 0
KeyLong r = Sound r → length (key_of r) ≡ 60
