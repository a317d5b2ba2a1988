-- The replacements in a record's locale, part by part, and how many there are at most: 24. Assumes nothing.
use Prim.Native.Nat.{ℕ, ◌+◌, ◌/◌, ◌%◌, ◌≤◌, ◌<◌}
use mathlib.Core.Path.{◌≡◌, refl, ◌∙◌}
use mathlib.Core.Bool.{Bool, true, false, cond, ◌||◌}
use mathlib.Core.List.{List, [], ◌∷◌, ◌++◌}
use native.Mathlib.Omega.{arith}
use borrow.Author.Rules.{rules}
use lib.ListN.{length}
use mir.Val.{Val}
use denote.Laws.{Is}
use Rattle.laws.proofs.Choice.{chosen}
use Rattle.laws.proofs.Tests.{or_neither}
use Rattle.subtag.specs.Replacements.{replacements, replacements_in}
use Rattle.subtag.proofs.Copying.{in_append}
use Rattle.subtag.proofs.Counts.{count_long}
use Rattle.language.proofs.Counts.{language_count, region_count}
use Rattle.record.specs.declared.ResTableConfig.{ResTableConfig}
use Rattle.record.specs.contracts.ResTableConfig as config
use Rattle.record.proofs.Shapes.{shaped}
use Rattle.locale.specs.Locale.{begins, locale_said, has_region, script_provided, is_new}
use Rattle.locale.specs.Subtags.{language_in, region_in, where_there, locale_subtags, locale_replacements, text_replacements}

-- a subtag where it is there
abbrev pub part : Bool → List ℕ → ℕ
part there s = replacements_in (where_there there s)

pub part_is : (there : Bool) (s : List ℕ) → part there s ≡ cond there (replacements s) 0
part_is true s = omega arith
part_is false s = refl

part_most : (there : Bool) (s : List ℕ) (k : ℕ) → replacements s ≤ k → part there s ≤ k
part_most there s k h = rw (part_is there s) (chosen (λ (n : ℕ). n ≤ k) there h (omega arith))

module _ (r : ResTableConfig) where
  -- the parts of the new format
  pub parts_new : locale_replacements r
      ≡ replacements (language_in r) + part (script_provided r) r.locale_script + part (has_region r) (region_in r)
      + part (begins r.locale_variant) r.locale_variant + part (begins r.locale_numbering_system) r.locale_numbering_system
  unfolding locale_subtags
  parts_new =
      let script = where_there (script_provided r) r.locale_script in
      let region = where_there (has_region r) (region_in r) in
      let variant = where_there (begins r.locale_variant) r.locale_variant in
      let numbering = where_there (begins r.locale_numbering_system) r.locale_numbering_system in
      let front = language_in r ∷ [] in
      omega (
        arith,
        in_append (front ++ script ++ region ++ variant) numbering,
        in_append (front ++ script ++ region) variant,
        in_append (front ++ script) region,
        in_append front script,
      )

  -- of the legacy one, where no other part is there
  pub parts_legacy : is_new r ≡ false → locale_replacements r ≡ replacements (language_in r) + part (has_region r) (region_in r)
  parts_legacy h =
      let x = or_neither {a = script_provided r || begins r.locale_variant} h in
      let y = or_neither {a = script_provided r} x.0 in
      parts_new ∙ rw (y.0, y.1, x.1) (omega arith)

  -- how many each part has at the most
  pub record Few : Type 0 where
    pub language : replacements (language_in r) ≤ 3
    pub script : part (script_provided r) r.locale_script ≤ 4
    pub region : part (has_region r) (region_in r) ≤ 1
    pub variant : part (begins r.locale_variant) r.locale_variant ≤ 8
    pub numbering : part (begins r.locale_numbering_system) r.locale_numbering_system ≤ 8

  -- of a record whose word and arrays are as long as their types have them
  pub few_by : r.locale < 4294967296 → length r.locale_script ≤ 4 → length r.locale_variant ≤ 8 → length r.locale_numbering_system ≤ 8 → Few
  few_by word script variant numbering = record {
    language = language_count (r.locale % 256) (r.locale / 256 % 256);
    script = part_most (script_provided r) r.locale_script 4 (omega (arith, count_long r.locale_script));
    region = part_most (has_region r) (region_in r) 1 (region_count (r.locale / 65536 % 256) (r.locale / 16777216) (omega arith));
    variant = part_most (begins r.locale_variant) r.locale_variant 8 (omega (arith, count_long r.locale_variant));
    numbering =
        part_most (begins r.locale_numbering_system) r.locale_numbering_system 8 (omega (arith, count_long r.locale_numbering_system));
  }

  -- so a text has 24 at the most
  pub text_most : Few → text_replacements r ≤ 24
  text_most f =
      chosen (λ (l : List (List ℕ)). replacements_in l ≤ 24) (locale_said r)
      (omega (arith, parts_new, f.language, f.script, f.region, f.variant, f.numbering)) (omega arith)

-- of every record that the type has
pub few : (r : ResTableConfig) (vs : List Val) → Is config.the_row r vs → Few r
few r vs h =
    let s = shaped r vs h in few_by r (search rules) (omega (arith, s.script)) (omega (arith, s.variant)) (omega (arith, s.numbering))
