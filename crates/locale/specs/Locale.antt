-- 000's locale: the two formats of its words. Assumes nothing.
use Rattle.std.specs.Prelude.{ℕ, ◌/◌, ◌%◌, List, [], ◌++◌, Bool, cond, not, ◌&&◌, ◌||◌, eqb, get_or}
use Rattle.buffer.specs.Ascii.{ascii}
use Rattle.subtag.specs.Subtag.{subtag_of}
use Rattle.language.specs.Language.{language_of, region_of}
use Rattle.record.specs.declared.ResTableConfig.{ResTableConfig}

-- the record's language, the lower half of locale
abbrev pub language : ResTableConfig → List ℕ
language r = language_of (r.locale % 256) (r.locale / 256 % 256)

-- the record's region, the upper half of locale
abbrev pub region : ResTableConfig → List ℕ
region r = region_of (r.locale / 65536 % 256) (r.locale / 16777216)

-- whether bytes begin with one that isn't 0
abbrev pub begins : List ℕ → Bool
begins s = not (eqb (get_or s 0 0) 0)

-- the locale is said when the first language byte isn't 0
abbrev pub locale_said : ResTableConfig → Bool
locale_said r = not (eqb (r.locale % 256) 0)

-- a region is there when its first byte isn't 0
abbrev pub has_region : ResTableConfig → Bool
has_region r = not (eqb (r.locale / 65536 % 256) 0)

-- a script was provided when it begins and wasn't computed
abbrev pub script_provided : ResTableConfig → Bool
script_provided r = begins r.locale_script && not r.locale_script_was_computed

-- what a part of the locale says behind its sign, where it is there
abbrev pub behind : Bool → List ℕ → List ℕ → List ℕ
behind there sign w = cond there (sign ++ w) []

-- the legacy format: language, region behind "-r"
unfoldable pub legacy_words : ResTableConfig → List ℕ
legacy_words r = language r ++ behind (has_region r) (ascii "-r") (region r)

-- the new format, a modified BCP 47 tag: language, script, region, variant, numbering system
unfoldable pub new_words : ResTableConfig → List ℕ
new_words r =
    ascii "b+" ++ language r
    ++ behind (script_provided r) (ascii "+") (subtag_of r.locale_script)
    ++ behind (has_region r) (ascii "+") (region r)
    ++ behind (begins r.locale_variant) (ascii "+") (subtag_of r.locale_variant)
    ++ behind (begins r.locale_numbering_system) (ascii "+u+nu+") (subtag_of r.locale_numbering_system)

-- the new format is called for where there is a script, a variant or a numbering system
abbrev pub is_new : ResTableConfig → Bool
is_new r = script_provided r || begins r.locale_variant || begins r.locale_numbering_system

-- the new format where it is called for, else the legacy one
unfoldable pub locale_words : ResTableConfig → List ℕ
locale_words r = cond (is_new r) (new_words r) (legacy_words r)

-- what 000 appends to an empty text
abbrev pub locale_text : ResTableConfig → List ℕ
locale_text r = cond (locale_said r) (locale_words r) []
