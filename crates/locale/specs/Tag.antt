-- What a private contract cites of the new format's front. No public contract rests on it. Assumes nothing.
use Rattle.std.specs.Prelude.{ℕ, ◌+◌, List, ◌++◌}
use Rattle.buffer.specs.Ascii.{ascii}
use Rattle.subtag.specs.Replacements.{replacements, replacements_in}
use Rattle.subtag.specs.Subtag.{subtag_of}
use Rattle.record.specs.declared.ResTableConfig.{ResTableConfig}
use Rattle.locale.specs.Locale.{language, region, has_region, script_provided, behind}
use Rattle.locale.specs.Subtags.{language_in, region_in, where_there}

-- sign, language, script and region
abbrev pub tag_words : ResTableConfig → List ℕ
tag_words r = ascii "b+" ++ language r ++ behind (script_provided r) (ascii "+") (subtag_of r.locale_script) ++ behind (has_region r) (ascii "+") (region r)

-- the replacements in them
abbrev pub tag_replacements : ResTableConfig → ℕ
tag_replacements r =
    replacements (language_in r) + replacements_in (where_there (script_provided r) r.locale_script) + replacements_in (where_there (has_region r) (region_in r))
