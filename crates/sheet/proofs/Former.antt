-- The sheet as it was before 02, K6, when the network code was the stored number wherever that isn't 0: it moved for 65535, and nothing
-- else of the sheet did. Assumes nothing.
use Prim.Native.Nat.{ℕ}
use mathlib.Core.Path.{◌≡◌, refl, ap, ◌∙◌}
use mathlib.Core.Bool.{cond}
use lib.Dec.{eqb}
use borrow.Author.Tests.{ne_eqb}
use Rattle.kinds.specs.Input.{touchscreen_of, keys_hidden_of, keyboard_of, nav_hidden_of, navigation_of}
use Rattle.kinds.specs.Mode.{grammatical_gender_of, ui_mode_of, ui_mode_night_of}
use Rattle.kinds.specs.Screen.{layout_dir_of, screen_size_of, screen_long_of, screen_round_of, wide_color_gamut_of, hdr_of, orientation_of, density_of}
use Rattle.record.specs.declared.ResTableConfig.{ResTableConfig}
use Rattle.record.specs.Accessors.{mcc_mnc_of, orientation_touchscreen_density_of, keyboard_navigation_input_flags_of, grammatical_inflection_of, screen_width_height_of, sdk_minor_version_of, screen_layout_ui_smallest_width_of, screen_width_height_dp_of, screen_layout2_color_mode_of}
use Rattle.sheet.specs.declared.NetworkCode.{NetworkCode}
use Rattle.sheet.specs.declared.Sheet.{Sheet}
use Rattle.sheet.specs.Sheet.{network_code_of, bits, said_of, sheet_of}
use Rattle.sheet.proofs.Codes.{by_code}

-- the network code of then
abbrev pub former_code : ℕ → NetworkCode
former_code mnc = cond (eqb mnc 0) NetworkCode.Silent (NetworkCode.Code mnc)

-- the sheet of then, with c for its network code
unfoldable pub former_with : NetworkCode → ResTableConfig → Sheet
former_with c r =
    record {
      mcc = (mcc_mnc_of r).mcc;
      network_code = c;
      smallest_screen_width_dp = (screen_layout_ui_smallest_width_of r).smallest_screen_width_dp;
      screen_width_dp = (screen_width_height_dp_of r).screen_width_dp;
      screen_height_dp = (screen_width_height_dp_of r).screen_height_dp;
      screen_width = (screen_width_height_of r).screen_width;
      screen_height = (screen_width_height_of r).screen_height;
      sdk_version = (sdk_minor_version_of r).sdk_version;
      minor_version = (sdk_minor_version_of r).minor_version;
      grammatical_gender = grammatical_gender_of (grammatical_inflection_of r);
      layout_dir = layout_dir_of (screen_layout_ui_smallest_width_of r).screen_layout;
      screen_size = screen_size_of (screen_layout_ui_smallest_width_of r).screen_layout;
      screen_long = screen_long_of (screen_layout_ui_smallest_width_of r).screen_layout;
      screen_round = screen_round_of (screen_layout2_color_mode_of r).screen_layout_2;
      wide_color_gamut = wide_color_gamut_of (screen_layout2_color_mode_of r).color_mode;
      hdr = hdr_of (screen_layout2_color_mode_of r).color_mode;
      orientation = orientation_of (orientation_touchscreen_density_of r).orientation;
      ui_mode = ui_mode_of (screen_layout_ui_smallest_width_of r).ui_mode;
      ui_mode_night = ui_mode_night_of (screen_layout_ui_smallest_width_of r).ui_mode;
      density = density_of (orientation_touchscreen_density_of r).density;
      touchscreen = touchscreen_of (orientation_touchscreen_density_of r).touchscreen;
      keys_hidden = keys_hidden_of (keyboard_navigation_input_flags_of r).input_flags;
      keyboard = keyboard_of (keyboard_navigation_input_flags_of r).keyboard;
      nav_hidden = nav_hidden_of (keyboard_navigation_input_flags_of r).input_flags;
      navigation = navigation_of (keyboard_navigation_input_flags_of r).navigation;
      said = bits (said_of r);
    }

-- the sheet of then
abbrev pub former_sheet : ResTableConfig → Sheet
former_sheet r = former_with (former_code (mcc_mnc_of r).mnc) r

-- the sheet is that of then, with the network code of now: this field alone moved
pub only_code : (r : ResTableConfig) → sheet_of r ≡ former_with (network_code_of (mcc_mnc_of r).mnc) r
unfolding sheet_of former_with
only_code r = refl

-- whatever is told of a sheet and doesn't go by its network code is what it was
pub others_stay : {A : Type 0} (tell : Sheet → A) (r : ResTableConfig) → ((c d : NetworkCode) → tell (former_with c r) ≡ tell (former_with d r))
    → tell (sheet_of r) ≡ tell (former_sheet r)
others_stay tell r same = ap tell (only_code r) ∙ same (network_code_of (mcc_mnc_of r).mnc) (former_code (mcc_mnc_of r).mnc)

-- so are the said bits
pub said_stays : (r : ResTableConfig) → (sheet_of r).said ≡ (former_sheet r).said
unfolding former_with
said_stays r = others_stay (λ s. s.said) r (λ c d. refl)

-- the code moved for no number but 65535
pub code_stays : (n : ℕ) → (n ≡ 65535 → ⊥) → network_code_of n ≡ former_code n
code_stays =
    by_code (λ n c. (n ≡ 65535 → ⊥) → c ≡ former_code n) (λ other. refl) (λ other. absurd (other refl)) (λ n some z other. rw (ne_eqb n 0 some))

-- and a record with another number has the sheet that it had
pub sheet_stays : (r : ResTableConfig) → ((mcc_mnc_of r).mnc ≡ 65535 → ⊥) → sheet_of r ≡ former_sheet r
sheet_stays r other = only_code r ∙ ap (λ (c : NetworkCode). former_with c r) (code_stays (mcc_mnc_of r).mnc other)
