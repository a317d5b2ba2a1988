-- 02, K1: the subtags of a record's locale as the record holds them, and the replacements in those that a text writes. Assumes nothing.
use Rattle.std.specs.Prelude.{ℕ, ◌/◌, ◌%◌, List, [], ◌∷◌, ◌++◌, Bool, cond}
use Rattle.subtag.specs.Replacements.{replacements_in}
use Rattle.language.specs.Language.{language_bytes, region_bytes}
use Rattle.record.specs.declared.ResTableConfig.{ResTableConfig}
use Rattle.locale.specs.Locale.{begins, locale_said, has_region, script_provided}

-- the bytes of the record's language
abbrev pub language_in : ResTableConfig → List ℕ
language_in r = language_bytes (r.locale % 256) (r.locale / 256 % 256)

-- the bytes of the record's region
abbrev pub region_in : ResTableConfig → List ℕ
region_in r = region_bytes (r.locale / 65536 % 256) (r.locale / 16777216)

-- a subtag, where it is there
abbrev pub where_there : Bool → List ℕ → List (List ℕ)
where_there there s = cond there (s ∷ []) []

-- the subtags that the locale's words have, in either format: in the legacy one no script, variant or numbering system is there
unfoldable pub locale_subtags : ResTableConfig → List (List ℕ)
locale_subtags r =
    (language_in r ∷ [])
    ++ where_there (script_provided r) r.locale_script
    ++ where_there (has_region r) (region_in r)
    ++ where_there (begins r.locale_variant) r.locale_variant
    ++ where_there (begins r.locale_numbering_system) r.locale_numbering_system

-- the subtags that a text of the record writes: none where the locale isn't said
abbrev pub text_subtags : ResTableConfig → List (List ℕ)
text_subtags r = cond (locale_said r) (locale_subtags r) []

-- how many replacements the locale's words have
abbrev pub locale_replacements : ResTableConfig → ℕ
locale_replacements r = replacements_in (locale_subtags r)

-- how many replacements a text of the record has
abbrev pub text_replacements : ResTableConfig → ℕ
text_replacements r = replacements_in (text_subtags r)
