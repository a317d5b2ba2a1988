-- 02, K3: which bytes the calls on a chunk go by. Assumes nothing.
use Rattle.std.specs.Prelude.{ℕ, ◌≤◌, ◌≡◌, List, ◌++◌, length}
use Rattle.reading.specs.Reading.{taken, aged}
use Rattle.marking.specs.Marks.{marks_outcome, held_back}
use Rattle.text.specs.Text.{aged_text}
use Rattle.text.specs.Counted.{counted_aged}
use Rattle.chunk.specs.Chunk.{header_size, chunk_take, head_outcome, chunk_parse, chunk_text, chunk_counted, chunk_marks}

-- every call on a chunk comes to the same on s as on t
pub record SameCalls (s t : List ℕ) : Type 0 where
  pub take : chunk_take s ≡ chunk_take t
  pub head : (old : List ℕ) → head_outcome s old ≡ head_outcome t old
  pub parse : (a : ℕ) → chunk_parse a s ≡ chunk_parse a t
  pub text : (a : ℕ) (old : List ℕ) → chunk_text a s old ≡ chunk_text a t old
  pub counted : (a : ℕ) (old : List ℕ) → chunk_counted a s old ≡ chunk_counted a t old
  pub marks : (a : ℕ) (old : List ℕ) → chunk_marks a s old ≡ chunk_marks a t old

-- no byte behind the header matters: h holds the header, and behind it stand as many bytes in both
abbrev pub BehindHeader : Type 0
BehindHeader = (h u v : List ℕ) → 20 ≤ length h → header_size h ≤ length h → length u ≡ length v → SameCalls (h ++ u) (h ++ v)

-- every call on a record at an age comes to the same on s as on t
pub record SameRecord (s t : List ℕ) : Type 0 where
  pub held : (a : ℕ) → held_back a s ≡ held_back a t
  pub reads : (a : ℕ) → aged a s ≡ aged a t
  pub text : (a : ℕ) (old : List ℕ) → aged_text a s old ≡ aged_text a t old
  pub counted : (a : ℕ) (old : List ℕ) → counted_aged a s old ≡ counted_aged a t old
  pub marks : (a : ℕ) (old : List ℕ) → marks_outcome a s old ≡ marks_outcome a t old

-- no byte behind a record matters, so none of its header behind the record holds it back: r is a whole record, and w stands behind it
abbrev pub BehindRecord : Type 0
BehindRecord = (r w : List ℕ) → taken r ≤ length r → SameRecord (r ++ w) r
