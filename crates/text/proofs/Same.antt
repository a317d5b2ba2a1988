-- What a text doesn't depend on. Assumes nothing.
use Prim.Native.Nat.{ℕ, ◌≤◌}
use mathlib.Core.Path.{◌≡◌, refl, sym, ap, ◌∙◌}
use mathlib.Core.Bool.{true, false}
use mathlib.Core.List.{List}
use native.Mathlib.Omega.{arith}
use lib.ListN.{length}
use borrow.Author.Tests.{not-false, ltb-false}
use Rattle.record.specs.declared.ResTableConfig.{ResTableConfig}
use Rattle.record.specs.Ages.{is_age}
use Rattle.record.specs.Blank.{with_size}
use Rattle.reading.specs.Reading.{taken, size_of, plain, aged}
use Rattle.marking.specs.Marks.{held_back}
use Rattle.marking.proofs.TwoAges.{unheld_plain}
use Rattle.locale.specs.Locale.{legacy_words, new_words, locale_words}
use Rattle.locale.specs.Subtags.{locale_subtags, text_replacements}
use Rattle.places.specs.Places.{places_of, text_of}
use Rattle.text.specs.Text.{aged_text}
use Rattle.text.specs.Counted.{counted_aged}
use Rattle.text.specs.Replacements.{CountsAgree}
use Rattle.text.proofs.Exactly.{aged_exactly}

-- the text doesn't depend on size
pub size_never : (r : ResTableConfig) (n : ℕ) → text_of (with_size r n) ≡ text_of r
unfolding text_of places_of locale_words new_words legacy_words
size_never r n = refl

-- the text of a record that isn't held back at an age is the plain text
pub unheld_text : (a : ℕ) (s : List ℕ) → is_age a ≡ true → taken s ≤ length s → held_back a s ≡ false → text_of (aged a s) ≡ text_of (plain s)
unheld_text a s h k e = ap text_of (unheld_plain a s h k e)

-- nor does the count of its replacements
pub size_count : (r : ResTableConfig) (n : ℕ) → text_replacements (with_size r n) ≡ text_replacements r
unfolding locale_subtags
size_count r n = refl

-- where a reader of an age shows the text, the count is that of the plain text
shown_count : (a : ℕ) (s old : List ℕ) → (aged_text a s old).tells.number ≡ 0 → (counted_aged a s old).replacements ≡ text_replacements (plain s)
shown_count a s old e =
    let n = (aged_exactly a s old).exactly.succeeds.0 e in
    let age : is_age a ≡ true = not-false (is_age a) n.0 in
    let whole : taken s ≤ length s = omega (arith, ltb-false (length s) 16 n.1.0, ltb-false (length s) (size_of s) n.1.1.0) in
    rw (e) (ap text_replacements (unheld_plain a s age whole n.1.1.1.0))

-- so the counts of two ages agree where both show it
pub counts_agree : CountsAgree
counts_agree older newer s x y e f = shown_count older s x e ∙ sym (shown_count newer s y f)
