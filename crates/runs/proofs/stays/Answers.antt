-- A step that finds nothing gives a record that holds nothing. Assumes nothing.
use Rattle.runs.proofs.stays.Goals as goal

pub returns : goal.returns
returns c = rw c.blank-record.ensures
