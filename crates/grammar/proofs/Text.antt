-- The text of a name's record is the name again. Assumes nothing.
use Prim.Native.Nat.{ℕ, zero, suc, ◌%◌, ◌≤◌}
use mathlib.Core.Path.{◌≡◌, refl, sym, ap, ◌∙◌}
use mathlib.Core.Bool.{Bool, true, false, true≢false}
use mathlib.Core.List.{List, [], ◌∷◌, ◌++◌, append_assoc, append-nil}
use native.Mathlib.Nat.{zero-mod}
use native.Mathlib.Omega.{arith}
use lib.Dec.{eqb}
use lib.ListN.{drop, length, length-append, replicate}
use borrow.Author.Tests.{eqb-false, not-true}
use Rattle.buffer.specs.Ascii.{ascii}
use Rattle.record.specs.declared.ResTableConfig.{ResTableConfig}
use Rattle.locale.specs.Locale.{locale_said, locale_words, legacy_words, behind}
use Rattle.places.specs.Say.{Place, dash_after, say, say_all}
use Rattle.places.specs.Places.{some, places_of, text_of}
use Rattle.grammar.specs.Names.{Part, Rising, Named, with_dashes, part_bytes, values_after, unnamed_values}
use Rattle.grammar.specs.Made.{at, word, made}
use Rattle.grammar.specs.Slots as slot
use Rattle.grammar.proofs.Sized.{sized}
use Rattle.grammar.proofs.Said.{Filled, text_said}
use Rattle.grammar.proofs.Bits.{plus, halves, half_bytes, pairs, thirds, quarters, layout_dir_lem, screen_size_lem, screen_long_lem, ui_mode, night, gamut, hdr, keys_hidden_lem, nav_hidden_lem}
use Rattle.grammar.proofs.Letters.{letters_of}
use Rattle.grammar.proofs.Placed.{places_at, place_at, has_said}
use Rattle.grammar.proofs.Fits.{Fits, values_fit}
use Rattle.grammar.proofs.Gathered.{slots_from, gathered, Held, Led, led}

-- language and region as the text has them, in one place
abbrev locale_at : ℕ → ℕ → Place
locale_at l g = (some (l % 256), letters_of 97 l ++ behind (some (g % 256)) (ascii "-r") (letters_of 48 g))

-- the same of a record
abbrev locale_place : ResTableConfig → Place
locale_place r = (locale_said r, locale_words r)

-- behind a text that isn't empty stands a dash
dash_behind : (t : List ℕ) → 1 ≤ length t → dash_after t ≡ ascii "-"
unfolding dash_after
dash_behind [] h = absurd (omega arith)
dash_behind (b ∷ t) h = refl

-- one place with language and region says as much as two
one_as_two : (t : List ℕ) (a b : Bool) (u w : List ℕ) (ps : List Place) → (b ≡ true → (a ≡ true) × (1 ≤ length u))
    → say_all t ((a, u ++ behind b (ascii "-r") w) ∷ ps) ≡ say_all t ((a, u) ∷ (b, ascii "r" ++ w) ∷ ps)
unfolding say_all say
one_as_two t false false u w ps h = refl
one_as_two t true false u w ps h = rw (append-nil u)
one_as_two t false true u w ps h = absurd (true≢false (sym (h refl).0))
one_as_two t true true u w ps h =
    let front = t ++ dash_after t in
    let d : dash_after (front ++ u) ≡ ascii "-" = dash_behind (front ++ u) (omega (arith, (h refl).1, length-append front u)) in
    ap (λ (l : List ℕ). say_all l ps)
    (rw d (sym (append_assoc front u (ascii "-r" ++ w)) ∙ sym (append_assoc (front ++ u) (ascii "-") (ascii "r" ++ w))))

module _ (vs : List ℕ) (fit : (s : ℕ) → Fits s (at vs s)) where
  -- behind the locale, each of the record's places is that of its own slot
  tail_same : drop 3 (places_of (made vs)) ≡ slots_from slot.gender 21 vs
  unfolding places_of made place_at places_at slots_from
  tail_same =
      let layout = plus (plus (fit slot.layout_dir) (fit slot.screen_size)) (fit slot.screen_long) in
      let mode = plus (fit slot.ui_type) (fit slot.night) in
      let color = plus (fit slot.gamut) (fit slot.hdr) in
      let flags = plus (fit slot.keys_hidden) (fit slot.nav_hidden) in
      let type = thirds (fit slot.orientation) (fit slot.touchscreen) (fit slot.density) (omega arith) (omega arith) (omega arith) in
      let input = quarters (fit slot.keyboard) (fit slot.navigation) flags (fit slot.gender) (omega arith) (omega arith) (omega arith) (omega arith) in
      let config = thirds layout mode (fit slot.smallest_width) (omega arith) (omega arith) (omega arith) in
      let dp = halves (fit slot.width) (fit slot.height) (omega arith) (omega arith) in
      let config2 = pairs (fit slot.screen_round) color (omega arith) (omega arith) in
      let sides : word (at vs slot.sides) ≡ at vs slot.sides = omega (arith, (fit slot.sides).small) in
      let version : word (at vs slot.version) ≡ at vs slot.version = omega (arith, (fit slot.version).small) in
      rw (type.0, type.1, type.2, input.0, input.1, input.2, input.3)
      (rw (config.0, config.1, config.2, dp.0, dp.1, config2.0, config2.1, sides, version)
      (rw (
        layout_dir_lem (fit slot.layout_dir) (fit slot.screen_size) (fit slot.screen_long),
        screen_size_lem (fit slot.layout_dir) (fit slot.screen_size) (fit slot.screen_long),
        screen_long_lem (fit slot.layout_dir) (fit slot.screen_size) (fit slot.screen_long),
        ui_mode (fit slot.ui_type) (fit slot.night),
        night (fit slot.ui_type) (fit slot.night),
        gamut (fit slot.gamut) (fit slot.hdr),
        hdr (fit slot.gamut) (fit slot.hdr),
        keys_hidden_lem (fit slot.keys_hidden) (fit slot.nav_hidden),
        nav_hidden_lem (fit slot.keys_hidden) (fit slot.nav_hidden),
      )))

  -- the record's locale holds language and region
  locale_same : locale_place (made vs) ≡ locale_at (at vs slot.language) (at vs slot.region)
  unfolding made locale_words legacy_words
  locale_same =
      let e = half_bytes (fit slot.language) (fit slot.region) (omega arith) (omega arith) in
      rw (e.0, e.1, e.2, e.3)

  -- all places: those of the slots, with language and region as one
  places_same : places_of (made vs)
      ≡ place_at slot.mcc (at vs slot.mcc) ∷ place_at slot.mnc (at vs slot.mnc) ∷ locale_at (at vs slot.language) (at vs slot.region) ∷ slots_from slot.gender 21 vs
  unfolding places_of made place_at places_at
  places_same =
      let d = halves (fit slot.mcc) (fit slot.mnc) (omega arith) (omega arith) in
      rw (← tail_same, ← locale_same, d.0, d.1)

-- a language is said, and not with nothing
held_said : (l : ℕ) → Held slot.language l → (some (l % 256) ≡ true) × (1 ≤ length (letters_of 97 l))
unfolding place_at places_at
held_said l p =
    let e : ◌≡◌ {A = Place} (some (l % 256), letters_of 97 l) (true, p.bytes) = has_said p.has in
    (ap (λ (q : Place). q.0) e, omega (arith, ap (λ (q : Place). length q.1) e, (sized p.has).some))

-- a low byte that isn't 0 is that of a number that isn't
some_low : (g : ℕ) → some (g % 256) ≡ true → 1 ≤ g
some_low g e = let n = eqb-false (g % 256) 0 (not-true (eqb (g % 256) 0) e) in omega arith

-- the text of the record is what is said of its slots
text_slots : (vs : List ℕ) → ((s : ℕ) → Fits s (at vs s)) → Led vs → text_of (made vs) ≡ say_all [] (slots_from 0 slot.slots vs)
unfolding text_of say_all place_at places_at slots_from
text_slots vs fit h =
    let l = at vs slot.language in
    let g = at vs slot.region in
    ap (say_all []) (places_same vs fit)
    ∙ one_as_two _ (some (l % 256)) (some (g % 256)) (letters_of 97 l) (letters_of 48 g) (slots_from slot.gender 21 vs) (λ e. held_said l (h (some_low g e)))

-- no part is empty
filled : (ps : List Part) → Filled (part_bytes ps)
filled [] = tt
filled (p ∷ ps) = ((sized p.has).some, filled ps)

-- where nothing is named, every value is 0
unnamed : (s : ℕ) → at unnamed_values s ≡ 0
unnamed s = zeros slot.slots s
  where
    zeros : (n s : ℕ) → at (replicate n 0) s ≡ 0
    zeros zero s = refl
    zeros (suc n) zero = refl
    zeros (suc n) (suc s) = zeros n s

-- which fits
unnamed_fits : (s : ℕ) → Fits s (at unnamed_values s)
unnamed_fits s = rw (unnamed s) (record { whole = zero-mod _; small = omega arith })

-- the text of the record that rising parts make is their bytes, joined
parts_again : (ps : List Part) → Rising 0 ps → text_of (made (values_after unnamed_values ps)) ≡ with_dashes (part_bytes ps)
parts_again ps r =
    let vs = values_after unnamed_values ps in
    let none : Led unnamed_values = λ h. absurd (omega (arith, unnamed slot.region)) in
    let l = led ps 0 unnamed_values r refl none (λ e. absurd (omega arith)) in
    let e = gathered slot.slots 0 ps unnamed_values refl r refl (λ s h. unnamed s) in
    text_slots vs (values_fit ps unnamed_values unnamed_fits) l ∙ text_said (slots_from 0 slot.slots vs) (rw e (filled ps)) ∙ ap with_dashes e

-- the text of a name's record is the name again
pub name_again : (s : List ℕ) (r : ResTableConfig) → Named s r → text_of r ≡ s
name_again s r n = rw (n.bytes, n.stands) (parts_again n.parts n.rising)
