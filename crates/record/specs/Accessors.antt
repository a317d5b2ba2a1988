-- 01, "The record": each accessor, as a plain quotient and remainder of its word by 256, 65,536 or 16,777,216. Assumes nothing.
use Rattle.std.specs.Prelude.{ℕ, ◌+◌, ◌*◌, ◌/◌, ◌%◌}
use Rattle.kinds.specs.declared.screen.Density.{Density}
use Rattle.kinds.specs.Screen.{density_number}
use Rattle.record.specs.declared.ResTableConfig.{ResTableConfig}
use Rattle.record.specs.declared.accessors.MccMnc.{MccMnc}
use Rattle.record.specs.declared.accessors.OrientationTouchscreenDensity.{OrientationTouchscreenDensity}
use Rattle.record.specs.declared.accessors.KeyboardNavigationInputFlags.{KeyboardNavigationInputFlags}
use Rattle.record.specs.declared.accessors.ScreenWidthHeight.{ScreenWidthHeight}
use Rattle.record.specs.declared.accessors.SdkMinorVersion.{SdkMinorVersion}
use Rattle.record.specs.declared.accessors.ScreenLayoutUiSmallestWidth.{ScreenLayoutUiSmallestWidth}
use Rattle.record.specs.declared.accessors.ScreenWidthHeightDp.{ScreenWidthHeightDp}
use Rattle.record.specs.declared.accessors.ScreenLayout2ColorMode.{ScreenLayout2ColorMode}

-- the mobile country and network codes, the halves of imsi
abbrev pub mcc_mnc_of : ResTableConfig → MccMnc
mcc_mnc_of r = record { mcc = r.imsi % 65536; mnc = r.imsi / 65536 }

-- orientation, touchscreen and density, the parts of screen_type
abbrev pub orientation_touchscreen_density_of : ResTableConfig → OrientationTouchscreenDensity
orientation_touchscreen_density_of r =
    record {
      orientation = r.screen_type % 256;
      touchscreen = r.screen_type / 256 % 256;
      density = r.screen_type / 65536;
    }

-- keyboard, navigation and input flags, the three lower bytes of generic_purpose_field
abbrev pub keyboard_navigation_input_flags_of : ResTableConfig → KeyboardNavigationInputFlags
keyboard_navigation_input_flags_of r =
    record {
      keyboard = r.generic_purpose_field % 256;
      navigation = r.generic_purpose_field / 256 % 256;
      input_flags = r.generic_purpose_field / 65536 % 256;
    }

-- the three lower bytes of generic_purpose_field as one number
abbrev pub input_of : ResTableConfig → ℕ
input_of r = r.generic_purpose_field % 16777216

-- the grammatical inflection, the upper byte of generic_purpose_field
abbrev pub grammatical_inflection_of : ResTableConfig → ℕ
grammatical_inflection_of r = r.generic_purpose_field / 16777216

-- width and height in pixels, the halves of screen_size
abbrev pub screen_width_height_of : ResTableConfig → ScreenWidthHeight
screen_width_height_of r = record { screen_width = r.screen_size % 65536; screen_height = r.screen_size / 65536 }

-- the platform's version and its minor one, the halves of version
abbrev pub sdk_minor_version_of : ResTableConfig → SdkMinorVersion
sdk_minor_version_of r = record { sdk_version = r.version % 65536; minor_version = r.version / 65536 }

-- screen layout, UI mode and smallest width, the parts of screen_config
abbrev pub screen_layout_ui_smallest_width_of : ResTableConfig → ScreenLayoutUiSmallestWidth
screen_layout_ui_smallest_width_of r =
    record {
      screen_layout = r.screen_config % 256;
      ui_mode = r.screen_config / 256 % 256;
      smallest_screen_width_dp = r.screen_config / 65536;
    }

-- width and height in dp, the halves of screen_size_dp
abbrev pub screen_width_height_dp_of : ResTableConfig → ScreenWidthHeightDp
screen_width_height_dp_of r =
    record {
      screen_width_dp = r.screen_size_dp % 65536;
      screen_height_dp = r.screen_size_dp / 65536;
    }

-- the second screen layout and the color mode, the two lower bytes of screen_config_2
abbrev pub screen_layout2_color_mode_of : ResTableConfig → ScreenLayout2ColorMode
screen_layout2_color_mode_of r =
    record {
      screen_layout_2 = r.screen_config_2 % 256;
      color_mode = r.screen_config_2 / 256 % 256;
    }

-- the record with another screen_type
abbrev pub with_screen_type : ResTableConfig → ℕ → ResTableConfig
with_screen_type r w =
    record {
      size = r.size;
      imsi = r.imsi;
      locale = r.locale;
      screen_type = w;
      generic_purpose_field = r.generic_purpose_field;
      screen_size = r.screen_size;
      version = r.version;
      screen_config = r.screen_config;
      screen_size_dp = r.screen_size_dp;
      locale_script = r.locale_script;
      locale_variant = r.locale_variant;
      screen_config_2 = r.screen_config_2;
      locale_script_was_computed = r.locale_script_was_computed;
      locale_numbering_system = r.locale_numbering_system;
      end_padding = r.end_padding;
    }

-- the record with another density: the lower half of screen_type stays, and the upper half is the density's number
abbrev pub with_density : ResTableConfig → Density → ResTableConfig
with_density r d = with_screen_type r (r.screen_type % 65536 + density_number d * 65536)
