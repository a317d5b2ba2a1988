-- The three numbers and their spaces are put in a row. Assumes nothing.
use Rattle.buffer.proofs.Putting.{put_put}
use Rattle.record_line.proofs.put_numbers.Goals as goal

pub returns : goal.returns
returns c = put_put (put_put (put_put (put_put (put_put c.put_decimal-a.ensures c.put_byte-b.ensures)
    c.put_decimal-c.ensures) c.put_byte-d.ensures) c.put_decimal-e.ensures)
    c.put_byte.ensures
