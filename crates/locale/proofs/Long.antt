-- How long the words of a locale are at most: 84 bytes. Assumes nothing.
use Prim.Native.Nat.{ℕ, ◌+◌, ◌/◌, ◌%◌, ◌≤◌, ◌<◌}
use mathlib.Core.Path.{◌≡◌, refl}
use mathlib.Core.Bool.{Bool, true, false, ◌||◌}
use mathlib.Core.List.{List}
use native.Mathlib.Omega.{arith}
use lib.ListN.{length, length-append}
use mir.Val.{Val}
use denote.Laws.{Is}
use borrow.Author.Rules.{rules}
use Rattle.laws.proofs.Choice.{chosen}
use Rattle.buffer.specs.Ascii.{ascii}
use Rattle.subtag.specs.Subtag.{subtag_of}
use Rattle.subtag.proofs.Long.{subtag_long}
use Rattle.language.proofs.Long.{language_long, region_long}
use Rattle.record.specs.declared.ResTableConfig.{ResTableConfig}
use Rattle.record.specs.contracts.ResTableConfig as config
use Rattle.record.proofs.Shapes.{shaped}
use Rattle.locale.specs.Locale.{language, region, begins, has_region, script_provided, behind, legacy_words, new_words, locale_words}

-- a part behind its sign, where it is there and where it isn't
pub behind_there_long : {there : Bool} (sign w : List ℕ) → there ≡ true → length (behind there sign w) ≡ length sign + length w
behind_there_long sign w e = rw e (length-append sign w)

pub behind_none_long : {there : Bool} (sign w : List ℕ) → there ≡ false → length (behind there sign w) ≡ 0
behind_none_long sign w e = rw e refl

behind_long : (there : Bool) (sign w : List ℕ) → length (behind there sign w) ≤ length sign + length w
behind_long true sign w = omega (arith, length-append sign w)
behind_long false sign w = omega arith

-- of a record whose word and arrays are as long as their types have them, at the most
pub locale_long : (r : ResTableConfig) → r.locale < 4294967296 → length r.locale_script ≤ 4 → length r.locale_variant ≤ 8 → length r.locale_numbering_system ≤ 8
    → length (locale_words r) ≤ 84
unfolding locale_words new_words legacy_words
locale_long r w t1 t2 t3 =
    let p0 = language_long (r.locale % 256) (r.locale / 256 % 256) in
    let q = region_long (r.locale / 65536 % 256) (r.locale / 16777216) (omega arith) in
    let p1 = behind_long (script_provided r) (ascii "+") (subtag_of r.locale_script) in
    let q1 = subtag_long r.locale_script in
    let p2 = behind_long (has_region r) (ascii "+") (region r) in
    let p3 = behind_long (begins r.locale_variant) (ascii "+") (subtag_of r.locale_variant) in
    let q3 = subtag_long r.locale_variant in
    let p4 = behind_long (begins r.locale_numbering_system) (ascii "+u+nu+") (subtag_of r.locale_numbering_system) in
    let q4 = subtag_long r.locale_numbering_system in
    let p5 = behind_long (has_region r) (ascii "-r") (region r) in
    chosen (λ (w : List ℕ). length w ≤ 84) (script_provided r || begins r.locale_variant || begins r.locale_numbering_system)
    (simp length-append (omega arith)) (simp length-append (omega arith))

-- of every record that the type has
pub words_long : (r : ResTableConfig) (vs : List Val) → Is config.the_row r vs → length (locale_words r) ≤ 84
words_long r vs h =
    let s = shaped r vs h in
    locale_long r (search rules) (omega (arith, s.script)) (omega (arith, s.variant)) (omega (arith, s.numbering))

-- how long the parts of either format are together
pub new_parts : (r : ResTableConfig) → length (new_words r)
    ≡ 2 + length (language r) + length (behind (script_provided r) (ascii "+") (subtag_of r.locale_script))
    + length (behind (has_region r) (ascii "+") (region r))
    + length (behind (begins r.locale_variant) (ascii "+") (subtag_of r.locale_variant))
    + length (behind (begins r.locale_numbering_system) (ascii "+u+nu+") (subtag_of r.locale_numbering_system))
unfolding new_words
new_parts r = simp length-append refl

pub legacy_parts : (r : ResTableConfig) → length (legacy_words r) ≡ length (language r) + length (behind (has_region r) (ascii "-r") (region r))
unfolding legacy_words
legacy_parts r = length-append (language r) (behind (has_region r) (ascii "-r") (region r))
