-- The parts of the line are put in a row. Assumes nothing.
use Rattle.buffer.proofs.Putting.{put_put}
use Rattle.record_line.specs.RecordLine.{laid_out}
use Rattle.record_line.proofs.Answers.{in_row}
use Rattle.record_line.proofs.put_row.Goals as goal

pub returns : goal.returns
unfolding laid_out
returns c = let front = put_put
    (put_put (put_put c.put_numbers-a.ensures c.put_marks-b.ensures) c.put_byte-c.ensures)
    c.put_shown_text-d.ensures in
    rw (← in_row) (put_put front c.put_between.ensures)
