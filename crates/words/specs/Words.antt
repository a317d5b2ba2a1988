-- The words of any kind. Assumes nothing.
use Rattle.std.specs.Prelude.{ℕ, List}
use Rattle.kinds.specs.declared.Kind.{Kind}
use Rattle.words.specs.Layout.{layout_dir_words, screen_size_words, screen_long_words, screen_round_words}
use Rattle.words.specs.Screen.{wide_color_gamut_words, hdr_words, orientation_words, density_words}
use Rattle.words.specs.Mode.{grammatical_gender_words, ui_mode_words, ui_mode_night_words}
use Rattle.words.specs.Input.{touchscreen_words, keys_hidden_words, keyboard_words, nav_hidden_words, navigation_words}

-- what 000 displays of a kind
abbrev pub words_of : Kind → List ℕ
words_of (Kind.GrammaticalGender k) = grammatical_gender_words k
words_of (Kind.LayoutDir k) = layout_dir_words k
words_of (Kind.ScreenSize k) = screen_size_words k
words_of (Kind.ScreenLong k) = screen_long_words k
words_of (Kind.ScreenRound k) = screen_round_words k
words_of (Kind.WideColorGamut k) = wide_color_gamut_words k
words_of (Kind.Hdr k) = hdr_words k
words_of (Kind.Orientation k) = orientation_words k
words_of (Kind.UIMode k) = ui_mode_words k
words_of (Kind.UIModeNight k) = ui_mode_night_words k
words_of (Kind.Density k) = density_words k
words_of (Kind.Touchscreen k) = touchscreen_words k
words_of (Kind.KeysHidden k) = keys_hidden_words k
words_of (Kind.Keyboard k) = keyboard_words k
words_of (Kind.NavHidden k) = nav_hidden_words k
words_of (Kind.Navigation k) = navigation_words k
