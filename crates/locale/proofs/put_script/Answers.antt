-- The script stands behind a plus, where it was provided. Assumes nothing.
use mathlib.Core.Path.{sym, ◌∙◌}
use Rattle.buffer.specs.Ascii.{ascii}
use Rattle.subtag.specs.Subtag.{subtag_of}
use Rattle.locale.proofs.Behind.{behind_there, behind_none}
use Rattle.locale.proofs.put_script.Goals as goal

pub returns-then-script_provided : goal.returns-then-script_provided
returns-then-script_provided c = behind_there (ascii "+") (subtag_of c.args.r.locale_script) c.args.r.locale_script (sym c.script_provided.ensures ∙ c.if-script_provided.true)
    c.put-a.ensures c.put_subtag.ensures

pub returns : goal.returns
returns c = behind_none (ascii "+") (subtag_of c.args.r.locale_script) c.args.r.locale_script (sym c.script_provided.ensures ∙ c.if-script_provided.false)
