-- No text is longer than 344 bytes. Assumes nothing.
use Prim.Native.Nat.{ℕ, ◌+◌, ◌/◌, ◌%◌, ◌≤◌, ◌<◌}
use mathlib.Core.List.{List, [], ◌∷◌, ◌++◌}
use native.Mathlib.Omega.{arith}
use borrow.Author.Rules.{rules}
use lib.Dec.{eqb}
use lib.ListN.{length, length-append}
use mir.Val.{Val}
use denote.Laws.{Is}
use Rattle.laws.proofs.Choice.{chosen}
use Rattle.buffer.specs.Ascii.{ascii}
use Rattle.buffer.specs.Decimal.{decimal}
use Rattle.buffer.proofs.Digits.{decimal_long}
use Rattle.record.specs.declared.ResTableConfig.{ResTableConfig}
use Rattle.record.specs.contracts.ResTableConfig as config
use Rattle.record.proofs.Shapes.{shaped}
use Rattle.locale.specs.Locale.{locale_said, locale_words}
use Rattle.locale.proofs.Long.{locale_long}
use Rattle.places.specs.Places.{some, minor_words, pixel_place, version_place, places_of, text_of}
use Rattle.text_length.proofs.Total.{cost}
use Rattle.text.proofs.Cost.{first_long, Within, within_total, words_cost, label_cost, dp_cost, gender_cost, layout_dir_cost}
use Rattle.text.proofs.Cost.{screen_size_cost, screen_long_cost, screen_round_cost, wide_color_gamut_cost, hdr_cost}
use Rattle.text.proofs.Cost.{orientation_cost, ui_mode_cost, ui_mode_night_cost, density_cost, touchscreen_cost, keys_hidden_cost}
use Rattle.text.proofs.Cost.{keyboard_cost, nav_hidden_cost, navigation_cost}

-- what the type of a word says
abbrev pub Word : ℕ → Type 0
Word w = w < 4294967296

-- what the types say of a record's words and arrays
pub record Ranged (r : ResTableConfig) : Type 0 where
  pub imsi : Word r.imsi
  pub screen : Word r.screen_type
  pub pixels : Word r.screen_size
  pub version : Word r.version
  pub config : Word r.screen_config
  pub dp : Word r.screen_size_dp
  pub locale : Word r.locale
  pub script : length r.locale_script ≤ 4
  pub variant : length r.locale_variant ≤ 8
  pub numbering : length r.locale_numbering_system ≤ 8

code_cost : (front : List ℕ) (n : ℕ) → n < 65536 → cost (some n, front ++ decimal n) ≤ 1 + (length front + 5)
code_cost front n h = label_cost (some n) front n 5 (decimal_long 4 n (omega arith))

pixel_cost : (r : ResTableConfig) → Word r.screen_size → cost (pixel_place r) ≤ 12
pixel_cost r h =
    let w = r.screen_size % 65536 in
    let k = r.screen_size / 65536 in
    words_cost (some r.screen_size) (decimal w ++ ascii "x" ++ decimal k) 11
    (omega (arith, length-append (decimal w ++ ascii "x") (decimal k), length-append (decimal w) (ascii "x"), decimal_long 4 w (omega arith), decimal_long 4 k (omega arith)))

minor_long : (m : ℕ) → m < 65536 → length (minor_words m) ≤ 6
minor_long m h =
    chosen (λ (w : List ℕ). length w ≤ 6) (eqb m 0) (omega arith) (omega (arith, length-append (ascii ".") (decimal m), decimal_long 4 m (omega arith)))

version_cost : (r : ResTableConfig) → Word r.version → cost (version_place r) ≤ 13
version_cost r h =
    let v = r.version % 65536 in
    let m = r.version / 65536 in
    words_cost (some r.version) (ascii "v" ++ decimal v ++ minor_words m) 12
    (omega (arith, length-append (ascii "v" ++ decimal v) (minor_words m), length-append (ascii "v") (decimal v), decimal_long 4 v (omega arith), minor_long m (omega arith)))

-- what each of the twenty-four places adds at the most; with no dash before the first, 344
abbrev costs : List ℕ
costs =
    9 ∷ 9 ∷ 85 ∷ 10 ∷ 6 ∷ 10 ∷ 9 ∷ 9 ∷ 7 ∷ 8 ∷ 9 ∷ 9 ∷ 7 ∷ 16 ∷ 14 ∷ 15 ∷ 9 ∷ 16 ∷ 12 ∷ 13 ∷ 23 ∷ 15 ∷ 12 ∷ 13 ∷ []

module _ (r : ResTableConfig) (h : Ranged r) where
  within : Within (places_of r) costs
  unfolding places_of
  within =
      let imsi = h.imsi in
      let config = h.config in
      let dp = h.dp in
      let screen = h.screen in (
        code_cost (ascii "mcc") (r.imsi % 65536) (omega arith),
        (
          code_cost (ascii "mnc") (r.imsi / 65536) (omega arith),
          (
            words_cost (locale_said r) (locale_words r) 84 (locale_long r h.locale h.script h.variant h.numbering),
            (
              gender_cost (r.generic_purpose_field / 16777216),
              (
                layout_dir_cost (r.screen_config % 256),
                (
                  dp_cost (ascii "sw") (r.screen_config / 65536) (omega arith),
                  (
                    dp_cost (ascii "w") (r.screen_size_dp % 65536) (omega arith),
                    (
                      dp_cost (ascii "h") (r.screen_size_dp / 65536) (omega arith),
                      (
                        screen_size_cost (r.screen_config % 256),
                        (
                          screen_long_cost (r.screen_config % 256),
                          (
                            screen_round_cost (r.screen_config_2 % 256),
                            (
                              wide_color_gamut_cost (r.screen_config_2 / 256 % 256),
                              (
                                hdr_cost (r.screen_config_2 / 256 % 256),
                                (
                                  orientation_cost (r.screen_type % 256) (omega arith),
                                  (
                                    ui_mode_cost (r.screen_config / 256 % 256),
                                    (
                                      ui_mode_night_cost (r.screen_config / 256 % 256),
                                      (
                                        density_cost (r.screen_type / 65536) (omega arith),
                                        (
                                          touchscreen_cost (r.screen_type / 256 % 256) (omega arith),
                                          (
                                            keys_hidden_cost (r.generic_purpose_field / 65536 % 256),
                                            (
                                              keyboard_cost (r.generic_purpose_field % 256) (omega arith),
                                              (
                                                nav_hidden_cost (r.generic_purpose_field / 65536 % 256),
                                                (
                                                  navigation_cost (r.generic_purpose_field / 256 % 256) (omega arith),
                                                  (
                                                    pixel_cost r h.pixels,
                                                    (
                                                      version_cost r h.version,
                                                      tt,
                                                    ),
                                                  ),
                                                ),
                                              ),
                                            ),
                                          ),
                                        ),
                                      ),
                                    ),
                                  ),
                                ),
                              ),
                            ),
                          ),
                        ),
                      ),
                    ),
                  ),
                ),
              ),
            ),
          ),
        ),
      )

  -- no text is longer
  pub ranged_long : length (text_of r) ≤ 344
  unfolding text_of
  ranged_long = omega (arith, first_long (places_of r), within_total (places_of r) costs within)

-- for every record that the type has
pub text_long : (r : ResTableConfig) (vs : List Val) → Is config.the_row r vs → length (text_of r) ≤ 344
text_long r vs h =
    let s = shaped r vs h in
    ranged_long r
    (record {
      imsi = search rules;
      screen = search rules;
      pixels = search rules;
      version = search rules;
      config = search rules;
      dp = search rules;
      locale = search rules;
      script = omega (arith, s.script);
      variant = omega (arith, s.variant);
      numbering = omega (arith, s.numbering);
    })
