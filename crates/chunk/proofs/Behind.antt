-- The calls on a chunk go by no byte behind its header, and those on a record by none behind the record. Assumes nothing.
use Prim.Native.Nat.{ℕ, ◌+◌, ◌-◌, ◌≤◌, ◌<◌, min, max}
use mathlib.Core.Path.{◌≡◌, sym, ap, ◌∙◌}
use mathlib.Core.List.{List, ◌++◌}
use native.Mathlib.Omega.{arith}
use native.Mathlib.Decide.{dec_le}
use lib.Dec.{leb}
use lib.ListN.{length, take, drop, length-append}
use lib.Seq.{take-append-le, ext_get_or}
use borrow.Author.Tests.{lt-leb, lt-ltb}
use Rattle.answers.specs.declared.Refusal.{Refusal}
use Rattle.buffer.specs.Counted.{counting}
use Rattle.buffer.specs.Written.{Outcome, written}
use Rattle.record.specs.declared.ResTableConfig.{ResTableConfig}
use Rattle.record.specs.Table.{part, le, start_of, end_of}
use Rattle.reading.specs.Reading.{taken, aged, field_by, record_by, if_whole, if_age}
use Rattle.reading.proofs.FieldBytes.{record_fields}
use Rattle.reading.proofs.Limits.{aged_is}
use Rattle.reading.proofs.Whole.{whole_took}
use Rattle.mark.specs.Word.{letter_of}
use Rattle.marking.specs.Marks.{mark_between, mark_in, letters_in, marks_of, held_back}
use Rattle.marking.proofs.Zeros.{drop_take}
use Rattle.marking.proofs.Marking.{marks_length, mark_at}
use Rattle.locale.specs.Subtags.{text_replacements}
use Rattle.text.specs.Text.{aged_text}
use Rattle.chunk.specs.Chunk.{type_of, header_size, chunk_size, head_shown, record_part, if_head, chunk_text}
use Rattle.chunk.specs.Behind.{SameCalls, BehindHeader, BehindRecord}

-- a part that ends within s is the same whatever stands behind s
pub part_front : (s w : List ℕ) (start end : ℕ) → end ≤ length s → part (s ++ w) start (end - start) ≡ part s start (end - start)
part_front s w start end h = sym (drop_take start end (s ++ w)) ∙ ap (drop start) (take-append-le end s w h) ∙ drop_take start end s

-- a text with its replacements goes by the record read and by the text
counted_by : {x y : ResTableConfig} {o p : Outcome} → x ≡ y → o ≡ p → counting (text_replacements x) o ≡ counting (text_replacements y) p
counted_by e g = rw (e, g)

-- what the calls on a chunk go by
pub record SameHead (s t : List ℕ) : Type 0 where
  pub long : length s ≡ length t
  pub type : type_of s ≡ type_of t
  pub header : header_size s ≡ header_size t
  pub size : chunk_size s ≡ chunk_size t
  pub shown : head_shown s ≡ head_shown t
  pub holds : record_part s ≡ record_part t

module _ {s t : List ℕ} (e : SameHead s t) where
  -- so goes every call by a head
  by_head : {A : Type 0} (refuse : Refusal → A) {x y : A} → x ≡ y → if_head s refuse x ≡ if_head t refuse y
  unfolding if_head
  by_head refuse g = rw (e.long, e.type, e.header, e.size, g)

  same_text : (a : ℕ) (old : List ℕ) → chunk_text a s old ≡ chunk_text a t old
  same_text a old = ap (if_age a _) (by_head _ (ap (λ (r : List ℕ). aged_text a r old) e.holds))

  same_calls : SameCalls s t
  same_calls =
      record {
        take = by_head _ (rw (e.holds, e.size));
        head = λ old. by_head _ (rw (e.holds, e.shown));
        parse = λ a. ap (if_age a _) (by_head _ (rw (e.holds, e.size)));
        text = same_text;
        counted = λ a old. counted_by (ap (aged a) e.holds) (same_text a old);
        marks = λ a old. ap (if_age a _) (by_head _ (rw e.holds));
      }

-- no byte behind the header matters
pub behind_header : BehindHeader
behind_header h u v long holds even =
    let same : (start end : ℕ) → end ≤ length h → part (h ++ u) start (end - start) ≡ part (h ++ v) start (end - start) =
    λ start end g. part_front h u start end g ∙ sym (part_front h v start end g) in
    let header : header_size (h ++ u) ≡ header_size (h ++ v) = ap le (same 2 4 (omega arith)) in
    same_calls record {
      long = length-append h u ∙ ap (λ (n : ℕ). length h + n) even ∙ sym (length-append h v);
      type = ap le (same 0 2 (omega arith));
      header = header;
      size = ap le (same 4 8 (omega arith));
      shown = rw (same 8 10 (omega arith), same 12 20 (omega arith));
      holds = rw header (rw (ap le (part_front h v 2 4 (omega arith))) (same 20 (header_size h) holds));
    }

-- a whole record, and bytes behind it
module _ (r w : List ℕ) (whole : taken r ≤ length r) where
  -- it takes as many bytes, and they are there
  pub same_taken : taken (r ++ w) ≡ taken r
  same_taken = ap (λ (b : List ℕ). max (le b) 16) (part_front r w 0 4 (omega arith))

  pub both_whole : taken (r ++ w) ≤ length (r ++ w)
  both_whole = omega (arith, same_taken, length-append r w)

  -- so goes every call by a record
  by_whole : {A : Type 0} (refuse : Refusal → A) {x y : A} → x ≡ y → if_whole (r ++ w) refuse x ≡ if_whole r refuse y
  by_whole refuse e = whole_took (r ++ w) refuse _ both_whole ∙ e ∙ sym (whole_took r refuse _ whole)

  -- it holds the same bytes back
  same_held : (a : ℕ) → held_back a (r ++ w) ≡ held_back a r
  unfolding held_back
  same_held a = rw (same_taken, take-append-le (taken r) r w whole)

  -- a field that ends within the record is the same, and every other is zero
  same_field : (l f : ℕ) → l ≤ length r → field_by (λ g. leb (end_of g) l) (r ++ w) f ≡ field_by (λ g. leb (end_of g) l) r f
  unfolding field_by
  same_field l f h =
      elim (dec_le (end_of f) l) [
        | yes g ↦ rw (part_front r w (start_of f) (end_of f) (omega arith))
        | no g ↦ rw (lt-leb (end_of f) l (omega arith))
      ]

  same_reading : (a : ℕ) → aged a (r ++ w) ≡ aged a r
  same_reading a =
      aged_is a (r ++ w) ∙ ap (λ (n : ℕ). record_by (λ f. leb (end_of f) (min n a)) (r ++ w)) same_taken
      ∙ record_fields _ _ (r ++ w) r (λ f h. same_field (min (taken r) a) f (omega arith)) ∙ sym (aged_is a r)

  -- its mark, too
  same_mark : (a f : ℕ) → mark_in a (taken r) (r ++ w) f ≡ mark_in a (taken r) r f
  unfolding mark_between
  same_mark a f =
      elim (dec_le (end_of f) (taken r)) [
        | yes g ↦ rw (part_front r w (start_of f) (end_of f) (omega arith))
        | no g ↦ rw (lt-ltb (taken r) (end_of f) (omega arith))
      ]

  same_letters : (a : ℕ) → marks_of a (r ++ w) ≡ marks_of a r
  same_letters a =
      let n = marks_length a (taken r) (r ++ w) in
      ap (λ (t : ℕ). letters_in a t (r ++ w)) same_taken ∙ ext_get_or 0 _ _ (n ∙ sym (marks_length a (taken r) r)) (λ i h.
      let g : i < 14 = omega (arith, n) in
      mark_at a (taken r) (r ++ w) i g ∙ ap letter_of (same_mark a (i + 1)) ∙ sym (mark_at a (taken r) r i g))

  -- so the text is the same, or its refusal
  same_shown : (a : ℕ) (old : List ℕ) → aged_text a (r ++ w) old ≡ aged_text a r old
  same_shown a old = ap (if_age a _) (by_whole _ (rw (same_held a, same_reading a)))

-- no byte behind the record matters
pub behind_record : BehindRecord
behind_record r w whole =
    record {
      held = same_held r w whole;
      reads = same_reading r w whole;
      text = same_shown r w whole;
      counted = λ a old. counted_by (same_reading r w whole a) (same_shown r w whole a old);
      marks = λ a old. ap (if_age a _) (by_whole r w whole _ (ap (λ (l : List ℕ). written l old) (same_letters r w whole a)));
    }
