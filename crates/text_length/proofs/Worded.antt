-- Every place but the UI mode has words where it is said. Assumes nothing.
use Prim.Native.Nat.{ℕ, zero, suc, ◌+◌, ◌/◌, ◌%◌, ◌≤◌}
use mathlib.Core.Path.{◌≡◌, refl, sym, ◌∙◌}
use mathlib.Core.Bool.{Bool, true, true≢false}
use mathlib.Core.List.{List, [], ◌∷◌, ◌++◌}
use native.Mathlib.Omega.{arith}
use lib.Bits.{bit_and}
use lib.Dec.{ltb, leb}
use lib.ListN.{length, take, drop}
use borrow.Author.Tests.{ne_eqb}
use Rattle.laws.proofs.Choice.{chosen, chosen_by}
use Rattle.laws.proofs.Lists.{Each}
use Rattle.buffer.specs.Ascii.{ascii}
use Rattle.buffer.specs.Decimal.{digits, decimal}
use Rattle.kinds.proofs.Pick.{EachRow, pick_each}
use Rattle.kinds.specs.Pick.{pick}
use Rattle.kinds.specs.declared.Kind.{Kind}
use Rattle.kinds.specs.Input.{touchscreens, keys_hiddens, keyboards, nav_hiddens, navigations}
use Rattle.kinds.specs.Mode.{grammatical_genders, ui_mode_of, ui_mode_nights}
use Rattle.kinds.specs.Screen.{layout_dirs, screen_sizes, screen_longs, screen_rounds, wide_color_gamuts, hdrs, orientations, densities}
use Rattle.kinds.specs.declared.input.Keyboard.{Keyboard}
use Rattle.kinds.specs.declared.input.KeysHidden.{KeysHidden}
use Rattle.kinds.specs.declared.input.NavHidden.{NavHidden}
use Rattle.kinds.specs.declared.input.Navigation.{Navigation}
use Rattle.kinds.specs.declared.input.Touchscreen.{Touchscreen}
use Rattle.kinds.specs.declared.mode.GrammaticalGender.{GrammaticalGender}
use Rattle.kinds.specs.declared.mode.UIModeNight.{UIModeNight}
use Rattle.kinds.specs.declared.screen.Density.{Density}
use Rattle.kinds.specs.declared.screen.Hdr.{Hdr}
use Rattle.kinds.specs.declared.screen.LayoutDir.{LayoutDir}
use Rattle.kinds.specs.declared.screen.Orientation.{Orientation}
use Rattle.kinds.specs.declared.screen.ScreenLong.{ScreenLong}
use Rattle.kinds.specs.declared.screen.ScreenRound.{ScreenRound}
use Rattle.kinds.specs.declared.screen.ScreenSize.{ScreenSize}
use Rattle.kinds.specs.declared.screen.WideColorGamut.{WideColorGamut}
use Rattle.subtag.specs.declared.utf8.Front.{Front}
use Rattle.subtag.specs.Utf8.{front_of}
use Rattle.subtag.specs.Subtag.{piece_of, front_size, replaced_by, replaced, keep, drop_nuls, subtag_of}
use Rattle.subtag.proofs.Laws.{size_one}
use Rattle.subtag.proofs.Strip.{subtag_is}
use Rattle.language.specs.Language.{unpacked, language_of}
use Rattle.record.specs.declared.ResTableConfig.{ResTableConfig}
use Rattle.locale.specs.Locale.{language, locale_said, is_new, new_words, legacy_words, locale_words}
use Rattle.places.specs.Say.{Place, say_all}
use Rattle.places.specs.Places.{label_place, dp_place, kind_place, pixel_place, version_place, places_of, text_of}
use Rattle.places.proofs.Laws.{none_said}
use Rattle.text_length.proofs.Total.{Adds, some_words, Worded, joined, three_joined}

-- words with more behind them
some_more : (u v : List ℕ) → some_words u ≡ true → some_words (u ++ v) ≡ true
some_more [] v h = absurd (true≢false (sym h))
some_more (b ∷ u) v h = refl

-- digits
some_digits : (k n : ℕ) → some_words (digits k n) ≡ true
unfolding digits
some_digits zero n = refl
some_digits (suc k) n = chosen (λ (w : List ℕ). some_words w ≡ true) (ltb n 10) refl (some_more (digits k (n / 10)) _ (some_digits k (n / 10)))

some_decimal : (n : ℕ) (w : List ℕ) → some_words (decimal n ++ w) ≡ true
unfolding decimal
some_decimal n w = some_more (digits n n) w (some_digits n n)

-- a subtag that begins with no NUL
some_piece : (f : Front) (b : ℕ) (s : List ℕ) → 1 ≤ front_size f → some_words (piece_of f (b ∷ s)) ≡ true
some_piece (Front.WellFormed zero) b s h = absurd (omega arith)
some_piece (Front.WellFormed (suc n)) b s h = refl
some_piece (Front.IllFormed n) b s h = refl

some_replaced : (b : ℕ) (s : List ℕ) → some_words (replaced (b ∷ s)) ≡ true
unfolding replaced replaced_by
some_replaced b s = some_more (piece_of (front_of (b ∷ s)) (b ∷ s)) _ (some_piece (front_of (b ∷ s)) b s (size_one (b ∷ s) (omega arith)))

some_kept : (b : ℕ) (t : List ℕ) → (b ≡ 0 → ⊥) → some_words (replaced (keep b t)) ≡ true
unfolding keep
some_kept b [] h = rw (ne_eqb b 0 h) (some_replaced b [])
some_kept b (c ∷ t) h = some_replaced b (c ∷ t)

some_subtag : (b : ℕ) (s : List ℕ) → (b ≡ 0 → ⊥) → some_words (subtag_of (b ∷ s)) ≡ true
unfolding drop_nuls
some_subtag b s h = rw (subtag_is (b ∷ s)) (some_kept b (drop_nuls s) h)

-- the locale
some_language : (a b : ℕ) → (a ≡ 0 → ⊥) → some_words (language_of a b) ≡ true
unfolding unpacked
some_language a b h =
    chosen_by (λ (s : List ℕ). some_words (subtag_of s) ≡ true) (leb 128 a)
    (λ packed. some_subtag (b % 32 + 97) _ (λ e. omega arith)) (λ two. rw (ne_eqb a 0 h) (some_subtag a _ h))

worded_locale : (r : ResTableConfig) → Worded (locale_said r, locale_words r)
unfolding locale_words new_words legacy_words
worded_locale r =
    chosen_by (λ (b : Bool). b ≡ true) (locale_said r)
    (λ said. chosen (λ (w : List ℕ). some_words w ≡ true) (is_new r) refl (some_more (language r) _ (some_language (r.locale % 256) (r.locale / 256 % 256) (λ e. true≢false (sym said ∙ none_said (r.locale % 256) e)))))
    (λ silent. refl)

-- words are enough
worded_by : (p : Place) → some_words p.1 ≡ true → Worded p
worded_by p h = chosen (λ (b : Bool). b ≡ true) p.0 h refl

-- a kind that a number gives: each row of its table, and what is left
module _ {A : Type 0} (kind : A → Kind) where
  abbrev every : List (ℕ × A) → Type 0
  every t = EachRow (λ n k. Worded (kind_place (kind k))) t

  worded_kind : (t : List (ℕ × A)) (other : A) (n : ℕ) → every t → Worded (kind_place (kind other)) → Worded (kind_place (kind (pick t other n)))
  worded_kind t other n rows left = pick_each (λ n k. Worded (kind_place (kind k))) t other n rows left

module _ (r : ResTableConfig) where
  -- the places before the UI mode
  pub worded_first : Each Worded (take 14 (places_of r))
  unfolding places_of
  worded_first =
      let gender = r.generic_purpose_field / 16777216 in
      let layout = r.screen_config % 256 in
      let second = r.screen_config_2 % 256 in
      let color = r.screen_config_2 / 256 % 256 in
      let mcc = worded_by (label_place (ascii "mcc") (r.imsi % 65536)) refl in
      let mnc = worded_by (label_place (ascii "mnc") (r.imsi / 65536)) refl in
      let locale = worded_locale r in
      let inflection = worded_kind Kind.GrammaticalGender grammatical_genders GrammaticalGender.Any (bit_and gender 3) (refl, (refl, (refl, tt))) refl in
      let direction = worded_kind Kind.LayoutDir layout_dirs (LayoutDir.Any (bit_and layout 0xc0)) (bit_and layout 0xc0) (refl, (refl, tt)) refl in
      let smallest = worded_by (dp_place (ascii "sw") (r.screen_config / 65536)) refl in
      let width = worded_by (dp_place (ascii "w") (r.screen_size_dp % 65536)) refl in
      let height = worded_by (dp_place (ascii "h") (r.screen_size_dp / 65536)) refl in
      let size = worded_kind Kind.ScreenSize screen_sizes (ScreenSize.Any (bit_and layout 0x0f)) (bit_and layout 0x0f) (refl, (refl, (refl, (refl, tt)))) refl in
      let long = worded_kind Kind.ScreenLong screen_longs (ScreenLong.Any (bit_and layout 0x30)) (bit_and layout 0x30) (refl, (refl, tt)) refl in
      let round = worded_kind Kind.ScreenRound screen_rounds (ScreenRound.Any (bit_and second 0x03)) (bit_and second 0x03) (refl, (refl, tt)) refl in
      let gamut = worded_kind Kind.WideColorGamut wide_color_gamuts (WideColorGamut.Any (bit_and color 0x03)) (bit_and color 0x03) (refl, (refl, tt)) refl in
      let hdr = worded_kind Kind.Hdr hdrs (Hdr.Any (bit_and color 0x0c)) (bit_and color 0x0c) (refl, (refl, tt)) refl in
      let orientation = worded_kind Kind.Orientation orientations (Orientation.Unknown (r.screen_type % 256)) (r.screen_type % 256) (refl, (refl, (refl, (refl, tt)))) refl in
      (mcc, (mnc, (locale, (inflection, (direction, (smallest, (width, (height, (size, (long, (round, (gamut, (hdr, (orientation, tt))))))))))))))

  -- and those behind it
  pub worded_last : Each Worded (drop 15 (places_of r))
  unfolding places_of
  worded_last =
      let density = r.screen_type / 65536 in
      let flags = r.generic_purpose_field / 65536 % 256 in
      let night = worded_kind Kind.UIModeNight ui_mode_nights (UIModeNight.Unknown (bit_and (r.screen_config / 256 % 256) 0x30)) (bit_and (r.screen_config / 256 % 256) 0x30) (refl, (refl, (refl, tt))) refl in
      let dots = worded_kind Kind.Density densities (Density.Unknown density) density (refl, (refl, (refl, (refl, (refl, (refl, (refl, (refl, (refl, (refl, tt)))))))))) (some_decimal density (ascii "dpi")) in
      let touch = worded_kind Kind.Touchscreen touchscreens (Touchscreen.Unknown (r.screen_type / 256 % 256)) (r.screen_type / 256 % 256) (refl, (refl, (refl, (refl, tt)))) refl in
      let hidden = worded_kind Kind.KeysHidden keys_hiddens KeysHidden.Soft (bit_and flags 0x03) (refl, (refl, (refl, tt))) refl in
      let keyboard = worded_kind Kind.Keyboard keyboards (Keyboard.Unknown (r.generic_purpose_field % 256)) (r.generic_purpose_field % 256) (refl, (refl, (refl, (refl, tt)))) refl in
      let nav = worded_kind Kind.NavHidden nav_hiddens (NavHidden.Unknown (bit_and flags 0x0c)) (bit_and flags 0x0c) (refl, (refl, (refl, tt))) refl in
      let navigation = worded_kind Kind.Navigation navigations (Navigation.Unknown (r.generic_purpose_field / 256 % 256)) (r.generic_purpose_field / 256 % 256) (refl, (refl, (refl, (refl, (refl, tt))))) refl in
      let pixels = worded_by (pixel_place r) (some_more (decimal (r.screen_size % 65536) ++ ascii "x") _ (some_decimal (r.screen_size % 65536) (ascii "x"))) in
      let version = worded_by (version_place r) refl in
      (night, (dots, (touch, (hidden, (keyboard, (nav, (navigation, (pixels, (version, tt)))))))))

-- so long is the text of a record whose places before the UI mode, the UI mode, and those behind it add so much
pub text_joined : (r : ResTableConfig) {first mode last : ℕ} → Adds first (take 14 (places_of r)) → Adds mode (take 1 (drop 14 (places_of r)))
    → Adds last (drop 15 (places_of r)) → length (text_of r) ≡ joined (joined (joined 0 first) mode) last
unfolding text_of places_of say_all
text_joined r f m l =
    let mode = kind_place (Kind.UIMode (ui_mode_of (r.screen_config / 256 % 256))) in
    three_joined (take 14 (places_of r)) mode (drop 15 (places_of r)) (worded_first r) (worded_last r) f m l
