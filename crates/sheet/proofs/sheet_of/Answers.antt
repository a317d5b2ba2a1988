-- Each field is as it is defined. Assumes nothing.
use Rattle.sheet.specs.Sheet.{sheet_of}
use Rattle.sheet.proofs.Sheets.{same}
use Rattle.sheet.proofs.sheet_of.Goals as goal

pub returns : goal.returns
unfolding sheet_of
returns c = same record {
  mcc = rw c.get_mcc_mnc-codes.ensures;
  network_code = rw c.get_mcc_mnc-codes.ensures at c.network_code.ensures;
  smallest_screen_width_dp = rw c.get_screen_layout_ui_smallest_width-layout.ensures;
  screen_width_dp = rw c.get_screen_width_height_dp-dp.ensures;
  screen_height_dp = rw c.get_screen_width_height_dp-dp.ensures;
  screen_width = rw c.get_screen_width_height-sides.ensures;
  screen_height = rw c.get_screen_width_height-sides.ensures;
  sdk_version = rw c.get_sdk_minor_version-version.ensures;
  minor_version = rw c.get_sdk_minor_version-version.ensures;
  grammatical_gender = rw c.get_grammatical_inflection.ensures at c.from.ensures;
  layout_dir = rw c.get_screen_layout_ui_smallest_width-layout.ensures at c.from-2.ensures;
  screen_size = rw c.get_screen_layout_ui_smallest_width-layout.ensures at c.from-3.ensures;
  screen_long = rw c.get_screen_layout_ui_smallest_width-layout.ensures at c.from-4.ensures;
  screen_round = rw c.get_screen_layout_2_color_mode-second.ensures at c.from-5.ensures;
  wide_color_gamut = rw c.get_screen_layout_2_color_mode-second.ensures at c.from-6.ensures;
  hdr = rw c.get_screen_layout_2_color_mode-second.ensures at c.from-7.ensures;
  orientation = rw c.get_orientation_touchscreen_density-screen.ensures at c.from-8.ensures;
  ui_mode = rw c.get_screen_layout_ui_smallest_width-layout.ensures at c.from-9.ensures;
  ui_mode_night = rw c.get_screen_layout_ui_smallest_width-layout.ensures at c.from-10.ensures;
  density = rw c.get_orientation_touchscreen_density-screen.ensures at c.from-11.ensures;
  touchscreen = rw c.get_orientation_touchscreen_density-screen.ensures at c.from-12.ensures;
  keys_hidden = rw c.get_keyboard_navigation_input_flags-input.ensures at c.from-13.ensures;
  keyboard = rw c.get_keyboard_navigation_input_flags-input.ensures at c.from-14.ensures;
  nav_hidden = rw c.get_keyboard_navigation_input_flags-input.ensures at c.from-15.ensures;
  navigation = rw c.get_keyboard_navigation_input_flags-input.ensures at c.from-16.ensures;
  said = c.said.ensures;
}
