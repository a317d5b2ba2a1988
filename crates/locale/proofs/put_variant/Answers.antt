-- The variant stands behind a plus, where it begins. Assumes nothing.
use mathlib.Core.Path.{sym, ◌∙◌}
use Rattle.buffer.specs.Ascii.{ascii}
use Rattle.subtag.specs.Subtag.{subtag_of}
use Rattle.locale.proofs.Behind.{behind_there, behind_none}
use Rattle.locale.proofs.put_variant.Goals as goal

pub returns-then-eight_begin : goal.returns-then-eight_begin
returns-then-eight_begin c = behind_there (ascii "+") (subtag_of c.args.r.locale_variant) c.args.r.locale_variant (sym c.eight_begin.ensures ∙ c.if-eight_begin.true)
    c.put-a.ensures c.put_subtag.ensures

pub returns : goal.returns
returns c = behind_none (ascii "+") (subtag_of c.args.r.locale_variant) c.args.r.locale_variant (sym c.eight_begin.ensures ∙ c.if-eight_begin.false)
