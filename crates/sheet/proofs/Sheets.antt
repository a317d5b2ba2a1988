-- Two sheets are one where each of their fields is. Assumes nothing.
use mathlib.Core.Path.{◌≡◌}
use Rattle.sheet.specs.declared.Sheet.{Sheet}

-- the fields are equal, each under its own name
pub record SameFields (a b : Sheet) : Type 0 where
  pub mcc : a.mcc ≡ b.mcc
  pub network_code : a.network_code ≡ b.network_code
  pub smallest_screen_width_dp : a.smallest_screen_width_dp ≡ b.smallest_screen_width_dp
  pub screen_width_dp : a.screen_width_dp ≡ b.screen_width_dp
  pub screen_height_dp : a.screen_height_dp ≡ b.screen_height_dp
  pub screen_width : a.screen_width ≡ b.screen_width
  pub screen_height : a.screen_height ≡ b.screen_height
  pub sdk_version : a.sdk_version ≡ b.sdk_version
  pub minor_version : a.minor_version ≡ b.minor_version
  pub grammatical_gender : a.grammatical_gender ≡ b.grammatical_gender
  pub layout_dir : a.layout_dir ≡ b.layout_dir
  pub screen_size : a.screen_size ≡ b.screen_size
  pub screen_long : a.screen_long ≡ b.screen_long
  pub screen_round : a.screen_round ≡ b.screen_round
  pub wide_color_gamut : a.wide_color_gamut ≡ b.wide_color_gamut
  pub hdr : a.hdr ≡ b.hdr
  pub orientation : a.orientation ≡ b.orientation
  pub ui_mode : a.ui_mode ≡ b.ui_mode
  pub ui_mode_night : a.ui_mode_night ≡ b.ui_mode_night
  pub density : a.density ≡ b.density
  pub touchscreen : a.touchscreen ≡ b.touchscreen
  pub keys_hidden : a.keys_hidden ≡ b.keys_hidden
  pub keyboard : a.keyboard ≡ b.keyboard
  pub nav_hidden : a.nav_hidden ≡ b.nav_hidden
  pub navigation : a.navigation ≡ b.navigation
  pub said : a.said ≡ b.said

pub same : {a b : Sheet} → SameFields a b → a ≡ b
same e i =
    record {
      mcc = e.mcc i;
      network_code = e.network_code i;
      smallest_screen_width_dp = e.smallest_screen_width_dp i;
      screen_width_dp = e.screen_width_dp i;
      screen_height_dp = e.screen_height_dp i;
      screen_width = e.screen_width i;
      screen_height = e.screen_height i;
      sdk_version = e.sdk_version i;
      minor_version = e.minor_version i;
      grammatical_gender = e.grammatical_gender i;
      layout_dir = e.layout_dir i;
      screen_size = e.screen_size i;
      screen_long = e.screen_long i;
      screen_round = e.screen_round i;
      wide_color_gamut = e.wide_color_gamut i;
      hdr = e.hdr i;
      orientation = e.orientation i;
      ui_mode = e.ui_mode i;
      ui_mode_night = e.ui_mode_night i;
      density = e.density i;
      touchscreen = e.touchscreen i;
      keys_hidden = e.keys_hidden i;
      keyboard = e.keyboard i;
      nav_hidden = e.nav_hidden i;
      navigation = e.navigation i;
      said = e.said i;
    }
