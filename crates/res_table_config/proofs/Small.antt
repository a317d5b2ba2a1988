-- What the calls tell is small, so nothing of it is lost in an answer. Assumes nothing.
use Prim.Native.Nat.{ℕ, ◌+◌, ◌-◌, ◌≤◌, ◌<◌}
use mathlib.Core.Path.{◌≡◌, refl, ap}
use mathlib.Core.Bool.{not, ◌&&◌}
use mathlib.Core.List.{List}
use native.Mathlib.Omega.{arith}
use lib.Dec.{eqb, leb, ltb, lit<}
use borrow.Author.Tests.{leb-true}
use lib.ListN.{length, drop, length-take, length-append}
use lib.Seq.{get_or-take, get_or-drop}
use Rattle.answers.specs.declared.Refusal.{Refusal}
use Rattle.answers.specs.declared.Told.{Told}
use Rattle.answers.specs.Numbers.{carried_by}
use Rattle.answers.specs.Tells.{success, refusal}
use Rattle.answers.proofs.OneToOne.{number_pos, number_most}
use Rattle.laws.proofs.Choice.{chosen, chosen_by}
use Rattle.laws.proofs.Tests.{and_both}
use Rattle.buffer.specs.Written.{Outcome, written}
use Rattle.order.specs.declared.Ordering.{Ordering}
use Rattle.record.specs.Ages.{is_age}
use Rattle.order.specs.Order.{order_of, ordering_tells}
use Rattle.record.specs.Table.{Bytes, part}
use Rattle.record.proofs.Bytes.{by_offset}
use Rattle.reading.specs.Reading.{if_whole, if_age, take_of, plain, aged, taken}
use Rattle.reading.proofs.CutExactly.{carried_most}
use Rattle.reading.proofs.Ranges.{part_below}
use Rattle.reading.proofs.Whole.{taking, takes, refuses, took_says, took_whole, refused_whole}
use Rattle.finding.specs.Finding.{find_told}
use Rattle.finding.proofs.Telling.{found_small}
use Rattle.index.specs.Index.{firsts, index_of, index_written}
use Rattle.mark.specs.Word.{top_bits, letters_of, letters_outcome}
use Rattle.mark.proofs.Letters.{letters_length}
use Rattle.marking.specs.Marks.{marks_of, word_of, word_told, marks_outcome, held_back}
use Rattle.marking.proofs.Marking.{marks_length}
use Rattle.marking.proofs.Word.{word_small}
use Rattle.places.specs.Places.{text_of}
use Rattle.text.specs.Counted.{replacements_of}
use Rattle.text.specs.Text.{plain_text, aged_text}
use Rattle.text.proofs.Ranges.{plain_long, aged_long, aged_most}
use Rattle.writing.specs.Writing.{bytes_written}
use Rattle.grammar.specs.Made.{made}
use Rattle.names.specs.Reading.{Read, read_name}
use Rattle.names.specs.Named.{name_written}
use Rattle.names.proofs.Exactly.{made_long}
use Rattle.names.proofs.Offsets.{offset_small}
use Rattle.chunk.specs.Chunk.{type_of, header_size, chunk_size, head_shown, record_part, wrong_sizes, if_head, if_chunk, chunk_take, head_outcome, chunk_text, chunk_marks}
use Rattle.res_table_config.specs.Face.{order_told}
use Rattle.res_table_config.specs.Small.{Small}

refusal_small : (why : Refusal) → carried_by why < 4294967296 → Small (refusal why)
refusal_small why h =
    record {
      number = omega (arith, number_most why);
      amount = lit< tt;
      bare = λ d. refl;
      carried = h;
      clear = λ e. absurd (omega (arith, number_pos why));
    }

success_small : (n : ℕ) → n < 4294967296 → Small (success n)
success_small n h = record { number = lit< tt; amount = h; bare = λ d. absurd (d refl); carried = lit< tt; clear = λ e. refl }

-- what holds of the refusals, and of what a whole record gives, holds of the call
module _ {A : Type 0} (P : A → Type 0) (refuse : Refusal → A) (give : A) (bad : (why : Refusal) → carried_by why < 4294967296 → P (refuse why)) where
  by_whole : (s : List ℕ) → (taken s ≤ length s → P give) → P (if_whole s refuse give)
  by_whole s good =
      elim (taking s) [
        | takes n e ↦ rw (took_whole s refuse give n e) (good (took_says s n e).1)
        | refuses why e ↦
            let same = ap (λ (t : Told). t.carried) e in
            rw (refused_whole s refuse give why e) (bad why (omega (arith, carried_most s)))
      ]

  by_head : (s : List ℕ) → P give → P (if_head s refuse give)
  unfolding if_head
  by_head s good =
      chosen P (ltb (length s) 20) (bad Refusal.TooFewBytes (lit< tt))
      (chosen P (not (eqb (type_of s) 0x0201)) (bad Refusal.WrongType (lit< tt)) (chosen P (wrong_sizes s) (bad Refusal.WrongSizes (lit< tt)) good))

  by_age : (a : ℕ) → P give → P (if_age a refuse give)
  unfolding if_age
  by_age a good = chosen P (is_age a) good (bad Refusal.NotAnAge (lit< tt))

-- what a call that writes tells
abbrev Tells : Outcome → Type 0
Tells o = Small o.tells

written_small : (w old : List ℕ) → length w < 4294967296 → Tells (written w old)
unfolding written
written_small w old h =
    chosen Tells (leb (length w) (length old)) (success_small (length w) h) (refusal_small Refusal.ShortBuffer (lit< tt))

-- of taking: size is a word of 32 bits
pub take_small : (s : List ℕ) → Bytes s → Small (take_of s)
take_small s bytes =
    by_whole Small _ _ refusal_small s
    (λ whole. success_small (taken s) (omega (arith, part_below 4 0 s bytes)))

-- of plain text and of aged text: no text is longer than 344 bytes
pub text_small : (s old : List ℕ) → Bytes s → Small (plain_text s old).tells
text_small s old bytes =
    by_whole Tells _ _ refusal_small s (λ whole. written_small (text_of (plain s)) old (omega (arith, plain_long s bytes)))

pub aged_small : (a : ℕ) (s old : List ℕ) → Bytes s → Small (aged_text a s old).tells
aged_small a s old bytes =
    by_age Tells _ _ refusal_small a
    (by_whole Tells _ _ refusal_small s
    (λ whole. chosen Tells (held_back a s) (refusal_small Refusal.HeldBack (lit< tt)) (written_small (text_of (aged a s)) old (omega (arith, aged_long a s bytes)))))

-- of the replacements in a text: there are 24 at the most
pub replaced_small : (a : ℕ) (s : List ℕ) → Bytes s → Small (replacements_of a s)
replaced_small a s bytes =
    by_age Small _ _ refusal_small a
    (by_whole Small _ _ refusal_small s
    (λ whole. chosen Small (held_back a s) (refusal_small Refusal.HeldBack (lit< tt)) (success_small _ (omega (arith, aged_most a s bytes)))))

-- of marks in one word: it is below 2^28
pub word_told_small : (a : ℕ) (s : List ℕ) → Small (word_told a s)
word_told_small a s =
    by_age Small _ _ refusal_small a
    (by_whole Small _ _ refusal_small s (λ whole. success_small (word_of a s) (omega (arith, word_small a (taken s) s))))

-- of the letters of a word: there are fourteen
pub letters_small : (word : ℕ) (old : List ℕ) → Small (letters_outcome word old).tells
letters_small word old =
    chosen Tells (top_bits word) (refusal_small Refusal.TopBits (lit< tt)) (written_small (letters_of word) old (omega (arith, letters_length word)))

-- of marks: there are fourteen
pub marks_small : (a : ℕ) (s old : List ℕ) → Small (marks_outcome a s old).tells
marks_small a s old =
    by_age Tells _ _ refusal_small a
    (by_whole Tells _ _ refusal_small s (λ whole. written_small (marks_of a s) old (omega (arith, marks_length a (taken s) s))))

pub ordering_most : (o : Ordering) → ordering_tells o < 4294967296
ordering_most Ordering.Less = lit< tt
ordering_most Ordering.Equal = lit< tt
ordering_most Ordering.Greater = lit< tt

-- of order: 2 at the most
pub order_small : (a b : List ℕ) → Small (order_told a b)
order_small a b =
    by_whole Small _ _ refusal_small a
    (λ h. by_whole Small _ _ refusal_small b (λ g. success_small _ (ordering_most (order_of (plain a) (plain b)))))

-- of an index: it has 1,024 entries at the most
pub index_small : (s old : List ℕ) → Small (index_written s old).tells
unfolding index_written
index_small s old =
    chosen_by Tells (leb (length (firsts s)) 1024 && leb (length (index_of s)) (length old))
    (λ e. success_small (length (firsts s)) (omega (arith, leb-true (length (firsts s)) 1024 (and_both e).0)))
    (λ e. refusal_small Refusal.ShortBuffer (lit< tt))

-- of what is found: no place past 4,294,967,293 is looked at
pub find_small : (e s : List ℕ) → Small (find_told e s)
unfolding find_told
find_small e s = by_whole Small _ _ refusal_small s (λ whole. found_small Small success_small e (plain s))

-- of a name's record: it has 64 bytes, and no name is refused at an offset above 325
pub named_small : (s old : List ℕ) → Small (name_written s old).tells
named_small s old = go (read_name s) refl
  where
    go : (r : Read) → read_name s ≡ r → Small (name_written s old).tells
    go (Read.so_far next vs) e = rw e (written_small (bytes_written (made vs)) old (omega (arith, made_long vs)))
    go (Read.refused o) e = rw e (refusal_small (Refusal.NotAName o) (omega (arith, offset_small s o e)))

-- the same of a chunk
by_chunk : {A : Type 0} (P : A → Type 0) (refuse : Refusal → A) (give : A) → ((why : Refusal) → carried_by why < 4294967296 → P (refuse why))
    → (s : List ℕ) → P give → P (if_chunk s refuse give)
by_chunk P refuse give bad s good = by_head P refuse _ bad s (by_whole P refuse give bad (record_part s) (λ whole. good))

part_bytes : (s : List ℕ) (a n : ℕ) → Bytes s → Bytes (part s a n)
part_bytes s a n bytes =
    by_offset (part s a n)
    (λ i h. rw (get_or-take n (drop a s) i 0 (omega (arith, length-take n (drop a s))), get_or-drop a s i 0) (bytes (a + i)))

-- of a chunk's size, which is a word of 32 bits
pub chunk_take_small : (s : List ℕ) → Bytes s → Small (chunk_take s)
chunk_take_small s bytes = by_chunk Small _ _ refusal_small s (success_small (chunk_size s) (omega (arith, part_below 4 4 s bytes)))

-- of its head: ten bytes at the most are shown
pub head_small : (s old : List ℕ) → Small (head_outcome s old).tells
head_small s old =
    by_chunk Tells _ _ refusal_small s
    (written_small (head_shown s) old
    (omega (arith, length-append (part s 8 2) (part s 12 8), length-take 2 (drop 8 s), length-take 8 (drop 12 s))))

-- of its record's text and marks
pub chunk_text_small : (a : ℕ) (s old : List ℕ) → Bytes s → Small (chunk_text a s old).tells
chunk_text_small a s old bytes =
    by_age Tells _ _ refusal_small a (by_head Tells _ _ refusal_small s (aged_small a (record_part s) old (part_bytes s 20 (header_size s - 20) bytes)))

pub chunk_marks_small : (a : ℕ) (s old : List ℕ) → Small (chunk_marks a s old).tells
chunk_marks_small a s old = by_age Tells _ _ refusal_small a (by_head Tells _ _ refusal_small s (marks_small a (record_part s) old))
