-- Keys worked out by hand, which antt computes. Assumes nothing.
use mathlib.Core.Path.{◌≡◌, refl}
use mathlib.Core.Bool.{true, false}
use mathlib.Core.List.{[], ◌∷◌, ◌++◌}
use lib.ListN.{replicate}
use Rattle.buffer.specs.Ascii.{ascii}
use Rattle.record.specs.Blank.{blank_record}
use Rattle.record.specs.declared.ResTableConfig.{ResTableConfig}
use Rattle.order.specs.declared.Ordering.{Ordering}
use Rattle.order.specs.Order.{lex}
use Rattle.keys.specs.Keys.{key_of}

-- the record of the sixteen bytes 16 0 0 0, 54 1 0 0, "enUS", 1 0 240 0
abbrev sixteen : ResTableConfig
sixteen =
    record {
      size = 16;
      imsi = 0x136;
      locale = 0x53556e65;
      screen_type = 0xf00001;
      generic_purpose_field = 0;
      screen_size = 0;
      version = 0;
      screen_config = 0;
      screen_size_dp = 0;
      locale_script = replicate 4 0;
      locale_variant = replicate 8 0;
      screen_config_2 = 0;
      locale_script_was_computed = false;
      locale_numbering_system = replicate 8 0;
      end_padding = replicate 3 0;
    }

-- a record whose fields all say something
abbrev full : ResTableConfig
full =
    record {
      size = 64;
      imsi = 0x01020304;
      locale = 0x05060708;
      screen_type = 0x090a0b0c;
      generic_purpose_field = 0x0d0e0f10;
      screen_size = 0x11121314;
      version = 0x15161718;
      screen_config = 0x191a1b1c;
      screen_size_dp = 0x1d1e1f20;
      locale_script = ascii "Latn";
      locale_variant = ascii "posix" ++ replicate 3 0;
      screen_config_2 = 0xfffefdfc;
      locale_script_was_computed = true;
      locale_numbering_system = ascii "arab" ++ replicate 4 0;
      end_padding = 7 ∷ 8 ∷ 9 ∷ [];
    }

pub examples :
    (key_of blank_record ≡ replicate 60 0)
    -- mcc 310 is imsi's lower half, and stands last of its four bytes; the size is in no key
    × (key_of sixteen ≡ 0 ∷ 0 ∷ 1 ∷ 54 ∷ ascii "SUne" ++ (0 ∷ 240 ∷ 0 ∷ 1 ∷ replicate 48 0))
    -- words are turned, arrays aren't
    × (key_of full
    ≡ 1 ∷ 2 ∷ 3 ∷ 4 ∷ 5 ∷ 6 ∷ 7 ∷ 8 ∷ 9 ∷ 10 ∷ 11 ∷ 12 ∷ 13 ∷ 14 ∷ 15 ∷ 16
    ∷ 17 ∷ 18 ∷ 19 ∷ 20 ∷ 21 ∷ 22 ∷ 23 ∷ 24 ∷ 25 ∷ 26 ∷ 27 ∷ 28 ∷ 29 ∷ 30 ∷ 31 ∷ 32
    ∷ ascii "Latnposix" ++ (0 ∷ 0 ∷ 0 ∷ 255 ∷ 254 ∷ 253 ∷ 252 ∷ 1 ∷ ascii "arab" ++ (0 ∷ 0 ∷ 0 ∷ 0 ∷ 7 ∷ 8 ∷ 9 ∷ [])))
    × (lex (key_of sixteen) (key_of full) ≡ Ordering.Less)
unfolding key_of
examples = (refl, refl, refl, refl)
