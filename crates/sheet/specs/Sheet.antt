-- 01, "Text": the sheet of a record. Assumes nothing.
use Rattle.std.specs.Prelude.{ℕ, ◌+◌, ◌*◌, List, [], ◌∷◌, map, Bool, cond, eqb}
use Rattle.kinds.specs.Input.{touchscreen_of, keys_hidden_of, keyboard_of, nav_hidden_of, navigation_of}
use Rattle.kinds.specs.Mode.{grammatical_gender_of, ui_mode_of, ui_mode_night_of}
use Rattle.kinds.specs.Screen.{layout_dir_of, screen_size_of, screen_long_of, screen_round_of, wide_color_gamut_of, hdr_of, orientation_of, density_of}
use Rattle.record.specs.declared.ResTableConfig.{ResTableConfig}
use Rattle.record.specs.Accessors.{mcc_mnc_of, orientation_touchscreen_density_of, keyboard_navigation_input_flags_of, grammatical_inflection_of, screen_width_height_of, sdk_minor_version_of, screen_layout_ui_smallest_width_of, screen_width_height_dp_of, screen_layout2_color_mode_of}
use Rattle.record.specs.Table.{bit}
use Rattle.places.specs.Say.{Place}
use Rattle.places.specs.Places.{places_of}
use Rattle.sheet.specs.declared.NetworkCode.{NetworkCode}
use Rattle.sheet.specs.declared.Sheet.{Sheet}

-- the network code: silent for 0, code 0 for 65535, else the stored number (02, K6)
abbrev pub network_code_of : ℕ → NetworkCode
network_code_of mnc = cond (eqb mnc 0) NetworkCode.Silent (cond (eqb mnc 65535) (NetworkCode.Code 0) (NetworkCode.Code mnc))

-- some answers as one number, a bit for each, the first lowest
abbrev pub bits : List Bool → ℕ
bits [] = 0
bits (b ∷ bs) = bit b + 2 * bits bs

-- which of the twenty-four places a record says
unfoldable pub said_of : ResTableConfig → List Bool
said_of r = map (λ (p : Place). p.0) (places_of r)

-- the sheet: sixteen kinds, the plain numbers, and bit k of said for place k
unfoldable pub sheet_of : ResTableConfig → Sheet
sheet_of r =
    record {
      mcc = (mcc_mnc_of r).mcc;
      network_code = network_code_of (mcc_mnc_of r).mnc;
      smallest_screen_width_dp = (screen_layout_ui_smallest_width_of r).smallest_screen_width_dp;
      screen_width_dp = (screen_width_height_dp_of r).screen_width_dp;
      screen_height_dp = (screen_width_height_dp_of r).screen_height_dp;
      screen_width = (screen_width_height_of r).screen_width;
      screen_height = (screen_width_height_of r).screen_height;
      sdk_version = (sdk_minor_version_of r).sdk_version;
      minor_version = (sdk_minor_version_of r).minor_version;
      grammatical_gender = grammatical_gender_of (grammatical_inflection_of r);
      layout_dir = layout_dir_of (screen_layout_ui_smallest_width_of r).screen_layout;
      screen_size = screen_size_of (screen_layout_ui_smallest_width_of r).screen_layout;
      screen_long = screen_long_of (screen_layout_ui_smallest_width_of r).screen_layout;
      screen_round = screen_round_of (screen_layout2_color_mode_of r).screen_layout_2;
      wide_color_gamut = wide_color_gamut_of (screen_layout2_color_mode_of r).color_mode;
      hdr = hdr_of (screen_layout2_color_mode_of r).color_mode;
      orientation = orientation_of (orientation_touchscreen_density_of r).orientation;
      ui_mode = ui_mode_of (screen_layout_ui_smallest_width_of r).ui_mode;
      ui_mode_night = ui_mode_night_of (screen_layout_ui_smallest_width_of r).ui_mode;
      density = density_of (orientation_touchscreen_density_of r).density;
      touchscreen = touchscreen_of (orientation_touchscreen_density_of r).touchscreen;
      keys_hidden = keys_hidden_of (keyboard_navigation_input_flags_of r).input_flags;
      keyboard = keyboard_of (keyboard_navigation_input_flags_of r).keyboard;
      nav_hidden = nav_hidden_of (keyboard_navigation_input_flags_of r).input_flags;
      navigation = navigation_of (keyboard_navigation_input_flags_of r).navigation;
      said = bits (said_of r);
    }
