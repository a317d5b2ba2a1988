-- 01, "Text": the twenty-four places of a record in the order of `as_string`, each with its test and its words. Assumes nothing.
use Rattle.std.specs.Prelude.{ℕ, List, [], ◌∷◌, ◌++◌, Bool, cond, not, eqb}
use Rattle.buffer.specs.Ascii.{ascii}
use Rattle.buffer.specs.Decimal.{decimal}
use Rattle.kinds.specs.Input.{touchscreen_of, keys_hidden_of, keyboard_of, nav_hidden_of, navigation_of}
use Rattle.kinds.specs.Mode.{grammatical_gender_of, ui_mode_of, ui_mode_night_of}
use Rattle.kinds.specs.Screen.{layout_dir_of, screen_size_of, screen_long_of, screen_round_of, wide_color_gamut_of, hdr_of, orientation_of, density_of}
use Rattle.kinds.specs.declared.Kind.{Kind}
use Rattle.words.specs.Words.{words_of}
use Rattle.record.specs.declared.ResTableConfig.{ResTableConfig}
use Rattle.record.specs.Accessors.{mcc_mnc_of, orientation_touchscreen_density_of, keyboard_navigation_input_flags_of, grammatical_inflection_of, screen_width_height_of, sdk_minor_version_of, screen_layout_ui_smallest_width_of, screen_width_height_dp_of, screen_layout2_color_mode_of}
use Rattle.locale.specs.Locale.{locale_said, locale_words}
use Rattle.said_kinds.specs.Said.{kind_said}
use Rattle.places.specs.Say.{Place, say_all}

-- a kind: said as the tests of `as_string` have it
abbrev pub kind_place : Kind → Place
kind_place k = (kind_said k, words_of k)

-- whether a number isn't 0
abbrev pub some : ℕ → Bool
some n = not (eqb n 0)

-- a minor version behind a dot, unless it is 0
abbrev pub minor_words : ℕ → List ℕ
minor_words m = cond (eqb m 0) [] (ascii "." ++ decimal m)

-- a number behind fixed words: said when it isn't 0
abbrev pub label_place : List ℕ → ℕ → Place
label_place front n = (some n, front ++ decimal n)

-- a number of dp behind fixed words: said when it isn't 0
abbrev pub dp_place : List ℕ → ℕ → Place
dp_place front n = (some n, front ++ decimal n ++ ascii "dp")

-- both sides in pixels: said when the word isn't 0
abbrev pub pixel_place : ResTableConfig → Place
pixel_place r = (some r.screen_size, decimal (screen_width_height_of r).screen_width ++ ascii "x" ++ decimal (screen_width_height_of r).screen_height)

-- the platform's version, and its minor one unless that is 0: said when the word isn't 0
abbrev pub version_place : ResTableConfig → Place
version_place r = (some r.version, ascii "v" ++ decimal (sdk_minor_version_of r).sdk_version ++ minor_words (sdk_minor_version_of r).minor_version)

-- the twenty-four places, 0 to 23
unfoldable pub places_of : ResTableConfig → List Place
places_of r =
    label_place (ascii "mcc") (mcc_mnc_of r).mcc ∷
    label_place (ascii "mnc") (mcc_mnc_of r).mnc ∷
    (locale_said r, locale_words r) ∷
    kind_place (Kind.GrammaticalGender (grammatical_gender_of (grammatical_inflection_of r))) ∷
    kind_place (Kind.LayoutDir (layout_dir_of (screen_layout_ui_smallest_width_of r).screen_layout)) ∷
    dp_place (ascii "sw") (screen_layout_ui_smallest_width_of r).smallest_screen_width_dp ∷
    dp_place (ascii "w") (screen_width_height_dp_of r).screen_width_dp ∷
    dp_place (ascii "h") (screen_width_height_dp_of r).screen_height_dp ∷
    kind_place (Kind.ScreenSize (screen_size_of (screen_layout_ui_smallest_width_of r).screen_layout)) ∷
    kind_place (Kind.ScreenLong (screen_long_of (screen_layout_ui_smallest_width_of r).screen_layout)) ∷
    kind_place (Kind.ScreenRound (screen_round_of (screen_layout2_color_mode_of r).screen_layout_2)) ∷
    kind_place (Kind.WideColorGamut (wide_color_gamut_of (screen_layout2_color_mode_of r).color_mode)) ∷
    kind_place (Kind.Hdr (hdr_of (screen_layout2_color_mode_of r).color_mode)) ∷
    kind_place (Kind.Orientation (orientation_of (orientation_touchscreen_density_of r).orientation)) ∷
    kind_place (Kind.UIMode (ui_mode_of (screen_layout_ui_smallest_width_of r).ui_mode)) ∷
    kind_place (Kind.UIModeNight (ui_mode_night_of (screen_layout_ui_smallest_width_of r).ui_mode)) ∷
    kind_place (Kind.Density (density_of (orientation_touchscreen_density_of r).density)) ∷
    kind_place (Kind.Touchscreen (touchscreen_of (orientation_touchscreen_density_of r).touchscreen)) ∷
    kind_place (Kind.KeysHidden (keys_hidden_of (keyboard_navigation_input_flags_of r).input_flags)) ∷
    kind_place (Kind.Keyboard (keyboard_of (keyboard_navigation_input_flags_of r).keyboard)) ∷
    kind_place (Kind.NavHidden (nav_hidden_of (keyboard_navigation_input_flags_of r).input_flags)) ∷
    kind_place (Kind.Navigation (navigation_of (keyboard_navigation_input_flags_of r).navigation)) ∷
    pixel_place r ∷
    version_place r ∷
    []

-- the text of a record
unfoldable pub text_of : ResTableConfig → List ℕ
text_of r = say_all [] (places_of r)
