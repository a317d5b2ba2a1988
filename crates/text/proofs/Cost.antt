-- What each place adds to a text at the most. Assumes nothing.
use Prim.Native.Nat.{ℕ, ◌+◌, ◌-◌, ◌≤◌, ◌<◌}
use mathlib.Core.Bool.{Bool, true, false}
use mathlib.Core.List.{List, [], ◌∷◌, ◌++◌}
use native.Mathlib.Omega.{arith}
use lib.Bits.{bit_and, and_le_r}
use lib.Dec.{lit≤}
use lib.ListN.{length, length-append}
use Rattle.buffer.specs.Ascii.{ascii}
use Rattle.buffer.specs.Decimal.{decimal}
use Rattle.buffer.proofs.Digits.{decimal_long}
use Rattle.kinds.proofs.Pick.{pick_each}
use Rattle.kinds.specs.Input.{touchscreens, touchscreen_of, keys_hiddens, keys_hidden_of, keyboards, keyboard_of, nav_hiddens, nav_hidden_of, navigations, navigation_of}
use Rattle.kinds.specs.Mode.{grammatical_genders, grammatical_gender_of, ui_modes, ui_mode_of, ui_mode_nights, ui_mode_night_of}
use Rattle.kinds.specs.Screen.{layout_dirs, layout_dir_of, screen_sizes, screen_size_of, screen_longs, screen_long_of, screen_rounds, screen_round_of}
use Rattle.kinds.specs.Screen.{wide_color_gamuts, wide_color_gamut_of, hdrs, hdr_of, orientations, orientation_of, densities, density_of}
use Rattle.kinds.specs.declared.Kind.{Kind}
use Rattle.kinds.specs.declared.input.Keyboard.{Keyboard}
use Rattle.kinds.specs.declared.input.KeysHidden.{KeysHidden}
use Rattle.kinds.specs.declared.input.NavHidden.{NavHidden}
use Rattle.kinds.specs.declared.input.Navigation.{Navigation}
use Rattle.kinds.specs.declared.input.Touchscreen.{Touchscreen}
use Rattle.kinds.specs.declared.mode.GrammaticalGender.{GrammaticalGender}
use Rattle.kinds.specs.declared.mode.UIMode.{UIMode}
use Rattle.kinds.specs.declared.mode.UIModeNight.{UIModeNight}
use Rattle.kinds.specs.declared.screen.Density.{Density}
use Rattle.kinds.specs.declared.screen.Hdr.{Hdr}
use Rattle.kinds.specs.declared.screen.LayoutDir.{LayoutDir}
use Rattle.kinds.specs.declared.screen.Orientation.{Orientation}
use Rattle.kinds.specs.declared.screen.ScreenLong.{ScreenLong}
use Rattle.kinds.specs.declared.screen.ScreenRound.{ScreenRound}
use Rattle.kinds.specs.declared.screen.ScreenSize.{ScreenSize}
use Rattle.kinds.specs.declared.screen.WideColorGamut.{WideColorGamut}
use Rattle.places.specs.Say.{Place, say, dash_after, say_all}
use Rattle.places.specs.Places.{kind_place, dp_place, some}
use Rattle.text_length.proofs.Total.{cost, total, all_adds}

-- the first place that is said has no dash
first_by : (said : Bool) (w : List ℕ) (ps : List Place) → length (say_all [] ps) ≤ total ps - 1
    → length (say_all (say [] said w) ps) ≤ cost (said, w) + total ps - 1
unfolding say dash_after
first_by false w ps h = omega arith
first_by true [] ps h = omega arith
first_by true (b ∷ w) ps h = omega (arith, all_adds b w ps)

pub first_long : (ps : List Place) → length (say_all [] ps) ≤ total ps - 1
unfolding say_all
first_long [] = omega arith
first_long (p ∷ ps) = first_by p.0 p.1 ps (first_long ps)

-- places that add no more than so much each
abbrev pub Within : List Place → List ℕ → Type 0
Within [] [] = Unit {0}
Within [] (k ∷ ks) = ⊥
Within (p ∷ ps) [] = ⊥
Within (p ∷ ps) (k ∷ ks) = (cost p ≤ k) × Within ps ks

abbrev pub sum : List ℕ → ℕ
sum [] = 0
sum (k ∷ ks) = k + sum ks

pub within_total : (ps : List Place) (ks : List ℕ) → Within ps ks → total ps ≤ sum ks
within_total [] [] h = omega arith
within_total [] (k ∷ ks) h = absurd h
within_total (p ∷ ps) [] h = absurd h
within_total (p ∷ ps) (k ∷ ks) h = omega (arith, h.0, within_total ps ks h.1)

-- whatever is said, no more than a dash and the words
pub words_cost : (said : Bool) (w : List ℕ) (k : ℕ) → length w ≤ k → cost (said, w) ≤ 1 + k
words_cost true w k h = omega arith
words_cost false w k h = omega arith

-- a number of d + 1 digits at the most behind a word
pub label_cost : (said : Bool) (front : List ℕ) (n d : ℕ) → length (decimal n) ≤ d → cost (said, front ++ decimal n) ≤ 1 + (length front + d)
label_cost said front n d h = words_cost said (front ++ decimal n) (length front + d) (omega (arith, length-append front (decimal n)))

pub dp_cost : (front : List ℕ) (n : ℕ) → n < 65536 → cost (dp_place front n) ≤ 1 + (length front + 7)
dp_cost front n h =
    words_cost (some n) (front ++ decimal n ++ ascii "dp") (length front + 7)
    (omega (arith, length-append (front ++ decimal n) (ascii "dp"), length-append front (decimal n), decimal_long 4 n (omega arith)))

-- the kinds that a record's numbers give
pub gender_cost : (n : ℕ) → cost (kind_place (Kind.GrammaticalGender (grammatical_gender_of n))) ≤ 10
gender_cost n = pick_each (λ m k. cost (kind_place (Kind.GrammaticalGender k)) ≤ 10) grammatical_genders GrammaticalGender.Any (bit_and n 3) (lit≤ tt, (lit≤ tt, (lit≤ tt, tt))) (lit≤ tt)

pub layout_dir_cost : (n : ℕ) → cost (kind_place (Kind.LayoutDir (layout_dir_of n))) ≤ 6
layout_dir_cost n = pick_each (λ m k. cost (kind_place (Kind.LayoutDir k)) ≤ 6) layout_dirs (LayoutDir.Any (bit_and n 0xc0)) (bit_and n 0xc0) (lit≤ tt, (lit≤ tt, tt)) (lit≤ tt)

pub screen_size_cost : (n : ℕ) → cost (kind_place (Kind.ScreenSize (screen_size_of n))) ≤ 7
screen_size_cost n = pick_each (λ m k. cost (kind_place (Kind.ScreenSize k)) ≤ 7) screen_sizes (ScreenSize.Any (bit_and n 0x0f)) (bit_and n 0x0f) (lit≤ tt, (lit≤ tt, (lit≤ tt, (lit≤ tt, tt)))) (lit≤ tt)

pub screen_long_cost : (n : ℕ) → cost (kind_place (Kind.ScreenLong (screen_long_of n))) ≤ 8
screen_long_cost n = pick_each (λ m k. cost (kind_place (Kind.ScreenLong k)) ≤ 8) screen_longs (ScreenLong.Any (bit_and n 0x30)) (bit_and n 0x30) (lit≤ tt, (lit≤ tt, tt)) (lit≤ tt)

pub screen_round_cost : (n : ℕ) → cost (kind_place (Kind.ScreenRound (screen_round_of n))) ≤ 9
screen_round_cost n = pick_each (λ m k. cost (kind_place (Kind.ScreenRound k)) ≤ 9) screen_rounds (ScreenRound.Any (bit_and n 0x03)) (bit_and n 0x03) (lit≤ tt, (lit≤ tt, tt)) (lit≤ tt)

pub wide_color_gamut_cost : (n : ℕ) → cost (kind_place (Kind.WideColorGamut (wide_color_gamut_of n))) ≤ 9
wide_color_gamut_cost n = pick_each (λ m k. cost (kind_place (Kind.WideColorGamut k)) ≤ 9) wide_color_gamuts (WideColorGamut.Any (bit_and n 0x03)) (bit_and n 0x03) (lit≤ tt, (lit≤ tt, tt)) (lit≤ tt)

pub hdr_cost : (n : ℕ) → cost (kind_place (Kind.Hdr (hdr_of n))) ≤ 7
hdr_cost n = pick_each (λ m k. cost (kind_place (Kind.Hdr k)) ≤ 7) hdrs (Hdr.Any (bit_and n 0x0c)) (bit_and n 0x0c) (lit≤ tt, (lit≤ tt, tt)) (lit≤ tt)

pub orientation_cost : (n : ℕ) → n < 256 → cost (kind_place (Kind.Orientation (orientation_of n))) ≤ 16
orientation_cost n h =
    pick_each (λ m k. cost (kind_place (Kind.Orientation k)) ≤ 16) orientations (Orientation.Unknown n) n (lit≤ tt, (lit≤ tt, (lit≤ tt, (lit≤ tt, tt))))
    (label_cost true (ascii "orientation=") n 3 (decimal_long 2 n (omega arith)))

pub ui_mode_cost : (n : ℕ) → cost (kind_place (Kind.UIMode (ui_mode_of n))) ≤ 14
ui_mode_cost n =
    let h = and_le_r n 0x0f in
    pick_each (λ m k. cost (kind_place (Kind.UIMode k)) ≤ 14) ui_modes (UIMode.Unknown (bit_and n 0x0f)) (bit_and n 0x0f)
    (lit≤ tt, (lit≤ tt, (lit≤ tt, (lit≤ tt, (lit≤ tt, (lit≤ tt, (lit≤ tt, (lit≤ tt, tt))))))))
    (label_cost true (ascii "uiModeType=") (bit_and n 0x0f) 2 (decimal_long 1 (bit_and n 0x0f) (omega arith)))

pub ui_mode_night_cost : (n : ℕ) → cost (kind_place (Kind.UIModeNight (ui_mode_night_of n))) ≤ 15
ui_mode_night_cost n =
    let h = and_le_r n 0x30 in
    pick_each (λ m k. cost (kind_place (Kind.UIModeNight k)) ≤ 15) ui_mode_nights (UIModeNight.Unknown (bit_and n 0x30)) (bit_and n 0x30) (lit≤ tt, (lit≤ tt, (lit≤ tt, tt)))
    (label_cost true (ascii "uiModeNight=") (bit_and n 0x30) 2 (decimal_long 1 (bit_and n 0x30) (omega arith)))

pub density_cost : (n : ℕ) → n < 65536 → cost (kind_place (Kind.Density (density_of n))) ≤ 9
density_cost n h =
    pick_each (λ m k. cost (kind_place (Kind.Density k)) ≤ 9) densities (Density.Unknown n) n
    (lit≤ tt, (lit≤ tt, (lit≤ tt, (lit≤ tt, (lit≤ tt, (lit≤ tt, (lit≤ tt, (lit≤ tt, (lit≤ tt, (lit≤ tt, tt))))))))))
    (omega (arith, length-append (decimal n) (ascii "dpi"), decimal_long 4 n (omega arith)))

pub touchscreen_cost : (n : ℕ) → n < 256 → cost (kind_place (Kind.Touchscreen (touchscreen_of n))) ≤ 16
touchscreen_cost n h =
    pick_each (λ m k. cost (kind_place (Kind.Touchscreen k)) ≤ 16) touchscreens (Touchscreen.Unknown n) n (lit≤ tt, (lit≤ tt, (lit≤ tt, (lit≤ tt, tt))))
    (label_cost true (ascii "touchscreen=") n 3 (decimal_long 2 n (omega arith)))

pub keys_hidden_cost : (n : ℕ) → cost (kind_place (Kind.KeysHidden (keys_hidden_of n))) ≤ 12
keys_hidden_cost n = pick_each (λ m k. cost (kind_place (Kind.KeysHidden k)) ≤ 12) keys_hiddens KeysHidden.Soft (bit_and n 0x03) (lit≤ tt, (lit≤ tt, (lit≤ tt, tt))) (lit≤ tt)

pub keyboard_cost : (n : ℕ) → n < 256 → cost (kind_place (Kind.Keyboard (keyboard_of n))) ≤ 13
keyboard_cost n h =
    pick_each (λ m k. cost (kind_place (Kind.Keyboard k)) ≤ 13) keyboards (Keyboard.Unknown n) n (lit≤ tt, (lit≤ tt, (lit≤ tt, (lit≤ tt, tt))))
    (label_cost true (ascii "keyboard=") n 3 (decimal_long 2 n (omega arith)))

pub nav_hidden_cost : (n : ℕ) → cost (kind_place (Kind.NavHidden (nav_hidden_of n))) ≤ 23
nav_hidden_cost n =
    let h = and_le_r n 0x0c in
    pick_each (λ m k. cost (kind_place (Kind.NavHidden k)) ≤ 23) nav_hiddens (NavHidden.Unknown (bit_and n 0x0c)) (bit_and n 0x0c) (lit≤ tt, (lit≤ tt, (lit≤ tt, tt)))
    (label_cost true (ascii "inputFlagsNavHidden=") (bit_and n 0x0c) 2 (decimal_long 1 (bit_and n 0x0c) (omega arith)))

pub navigation_cost : (n : ℕ) → n < 256 → cost (kind_place (Kind.Navigation (navigation_of n))) ≤ 15
navigation_cost n h =
    pick_each (λ m k. cost (kind_place (Kind.Navigation k)) ≤ 15) navigations (Navigation.Unknown n) n (lit≤ tt, (lit≤ tt, (lit≤ tt, (lit≤ tt, (lit≤ tt, tt)))))
    (label_cost true (ascii "navigation=") n 3 (decimal_long 2 n (omega arith)))
