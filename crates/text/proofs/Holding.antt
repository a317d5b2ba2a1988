-- A text holds every subtag that it writes, and where none is replaced its own bytes. Assumes nothing.
use Prim.Native.Nat.{ℕ}
use mathlib.Core.Path.{◌≡◌, refl, sym, ap, ◌∙◌}
use mathlib.Core.Bool.{Bool, true, false, ◌||◌, true≢false}
use mathlib.Core.List.{List, [], ◌∷◌, ◌++◌, append_assoc, append-nil}
use mathlib.Core.Logic.{◌⊎◌, inl, inr}
use native.Mathlib.Omega.{arith}
use lib.ListN.{take, drop}
use Rattle.laws.proofs.Choice.{chosen_by}
use Rattle.laws.proofs.Tests.{or_neither}
use Rattle.buffer.specs.Ascii.{ascii}
use Rattle.subtag.specs.Replacements.{replacements, replacements_in}
use Rattle.subtag.specs.Subtag.{subtag_of}
use Rattle.subtag.proofs.Counts.{none_exactly, own_bytes}
use Rattle.record.specs.declared.ResTableConfig.{ResTableConfig}
use Rattle.locale.specs.Locale.{begins, locale_said, has_region, script_provided, is_new, behind, language, region, legacy_words, new_words, locale_words}
use Rattle.locale.specs.Subtags.{language_in, region_in, where_there, locale_subtags, text_subtags}
use Rattle.places.specs.Say.{Place, say, dash_after, say_all}
use Rattle.places.specs.Places.{places_of, text_of}
use Rattle.text.specs.Replacements.{OneOf, here, there, Holds, NoneWhenWellFormed, HoldsOwnBytes}

-- what stands in a part stands in the whole
holds_in : {x w u : List ℕ} → Holds x w → Holds w u → Holds x u
holds_in p q = record {
  front = p.front ++ q.front;
  back = q.back ++ p.back;
  is = p.is ∙ ap (λ (l : List ℕ). p.front ++ l ++ p.back) q.is ∙ simp append_assoc refl;
}

holds_left : (u v : List ℕ) → Holds (u ++ v) u
holds_left u v = record { front = []; back = v; is = refl }

holds_right : (u v : List ℕ) → Holds (u ++ v) v
holds_right u v = record { front = u; back = []; is = sym (append-nil (u ++ v)) }

-- words hold the text of each of some subtags
abbrev Covers : List ℕ → List (List ℕ) → Type 0
Covers w l = (s : List ℕ) → OneOf s l → Holds w (subtag_of s)

one_split : {s : List ℕ} (l m : List (List ℕ)) → OneOf s (l ++ m) → OneOf s l ⊎ OneOf s m
one_split [] m i = inr i
one_split (t ∷ l) m here = inl here
one_split (t ∷ l) m (there i) =
    elim (one_split l m i) [
      | inl j ↦ inl (there j)
      | inr j ↦ inr j
    ]

covers_both : {u v : List ℕ} {l m : List (List ℕ)} → Covers u l → Covers v m → Covers (u ++ v) (l ++ m)
covers_both {u} {v} {l} {m} p q s i =
    elim (one_split l m i) [
      | inl j ↦ holds_in (holds_left u v) (p s j)
      | inr j ↦ holds_in (holds_right u v) (q s j)
    ]

covers_sign : (sign : List ℕ) {w : List ℕ} {l : List (List ℕ)} → Covers w l → Covers (sign ++ w) l
covers_sign sign {w} p s i = holds_in (holds_right sign w) (p s i)

covers_one : (s : List ℕ) → Covers (subtag_of s) (s ∷ [])
covers_one s t here = record { front = []; back = []; is = sym (append-nil (subtag_of s)) }
covers_one s t (there i) = elim i [ ]

-- there is none of none
one_none : {A : Type 0} (s : List ℕ) → OneOf s [] → A
one_none s i = elim i [ ]

covers_part : (test : Bool) (sign s : List ℕ) → Covers (behind test sign (subtag_of s)) (where_there test s)
covers_part true sign s = covers_sign sign (covers_one s)
covers_part false sign s = λ t i. one_none t i

-- a part that isn't there adds nothing
covers_none : {w : List ℕ} {l : List (List ℕ)} (test : Bool) (s : List ℕ) → test ≡ false → Covers w l → Covers w (l ++ where_there test s)
covers_none test s e p = rw (e, append-nil) p

module _ (r : ResTableConfig) where
  covers_new : Covers (new_words r) (locale_subtags r)
  unfolding new_words locale_subtags
  covers_new =
      let language = covers_sign (ascii "b+") (covers_one (language_in r)) in
      let script = covers_both language (covers_part (script_provided r) (ascii "+") r.locale_script) in
      let region = covers_both script (covers_part (has_region r) (ascii "+") (region_in r)) in
      let variant = covers_both region (covers_part (begins r.locale_variant) (ascii "+") r.locale_variant) in
      covers_both variant (covers_part (begins r.locale_numbering_system) (ascii "+u+nu+") r.locale_numbering_system)

  covers_legacy : is_new r ≡ false → Covers (legacy_words r) (locale_subtags r)
  unfolding legacy_words locale_subtags
  covers_legacy h =
      let x = or_neither {a = script_provided r || begins r.locale_variant} h in
      let y = or_neither {a = script_provided r} x.0 in
      let script = covers_none (script_provided r) r.locale_script y.0 (covers_one (language_in r)) in
      let region = covers_both script (covers_part (has_region r) (ascii "-r") (region_in r)) in
      let variant = covers_none (begins r.locale_variant) r.locale_variant y.1 region in
      covers_none (begins r.locale_numbering_system) r.locale_numbering_system x.1 variant

  covers_locale : Covers (locale_words r) (locale_subtags r)
  unfolding locale_words
  covers_locale = chosen_by (λ (w : List ℕ). Covers w (locale_subtags r)) (is_new r) (λ e. covers_new) covers_legacy

-- a text goes on with what was said before
say_keeps : (t : List ℕ) (said : Bool) (w : List ℕ) → Holds (say t said w) t
unfolding say
say_keeps t true w = holds_in (holds_left (t ++ dash_after t) w) (holds_left t (dash_after t))
say_keeps t false w = record { front = []; back = []; is = sym (append-nil t) }

all_keeps : (t : List ℕ) (ps : List Place) → Holds (say_all t ps) t
unfolding say_all
all_keeps t [] = record { front = []; back = []; is = sym (append-nil t) }
all_keeps t (p ∷ ps) = holds_in (all_keeps (say t p.0 p.1) ps) (say_keeps t p.0 p.1)

-- what is said stands in the text
say_holds : (t : List ℕ) (said : Bool) (w : List ℕ) → said ≡ true → Holds (say t said w) w
unfolding say
say_holds t true w e = holds_right (t ++ dash_after t) w
say_holds t false w e = absurd (true≢false (sym e))

module _ (r : ResTableConfig) where
  holds_locale : locale_said r ≡ true → Holds (text_of r) (locale_words r)
  unfolding text_of places_of say_all
  holds_locale e =
      let t = say_all [] (take 2 (places_of r)) in
      holds_in (all_keeps (say t (locale_said r) (locale_words r)) (drop 3 (places_of r))) (say_holds t (locale_said r) (locale_words r) e)

  -- a text holds the text of every subtag that it writes
  pub holds_subtags : (s : List ℕ) → OneOf s (text_subtags r) → Holds (text_of r) (subtag_of s)
  holds_subtags =
      chosen_by (λ (l : List (List ℕ)). (s : List ℕ) → OneOf s l → Holds (text_of r) (subtag_of s)) (locale_said r)
      (λ e s i. holds_in (holds_locale e) (covers_locale r s i)) (λ e s i. one_none s i)

  -- each of some subtags has no replacement where all have none
  none_each : (l : List (List ℕ)) → replacements_in l ≡ 0 → (s : List ℕ) → OneOf s l → replacements s ≡ 0
  none_each [] e t i = elim i [ ]
  none_each (s ∷ l) e t here = omega arith
  none_each (s ∷ l) e t (there i) = none_each l (omega arith) t i

  each_none : (l : List (List ℕ)) → ((s : List ℕ) → OneOf s l → replacements s ≡ 0) → replacements_in l ≡ 0
  each_none [] h = refl
  each_none (s ∷ l) h = omega (arith, h s here, each_none l (λ t i. h t (there i)))

  pub none_well_formed : NoneWhenWellFormed r
  none_well_formed = (
    (λ e s i. (none_exactly s).0 (none_each (text_subtags r) e s i)),
    (λ h. each_none (text_subtags r) (λ s i. (none_exactly s).1 (h s i))),
  )

  pub holds_own : HoldsOwnBytes r
  holds_own e s i = rw (← own_bytes s (none_each (text_subtags r) e s i)) (holds_subtags s i)
