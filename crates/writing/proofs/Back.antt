-- A record that the writer takes is read back as the same record, its size included, also with bytes behind it.
-- What it asks of a record, `Shaped`, holds of every record: the contract of `shape` says so. Assumes nothing.
use Prim.Native.Nat.{ℕ, ◌+◌, ◌-◌, ◌<◌}
use mathlib.Core.Path.{◌≡◌, refl, sym, ap, ◌∙◌}
use mathlib.Core.Bool.{Bool, true, false, not}
use mathlib.Core.List.{List, [], ◌∷◌, ◌++◌, append-nil}
use native.Mathlib.Omega.{arith}
use lib.Dec.{lit<}
use lib.ListN.{length, get_or, take, drop, replicate, length-append, get_or-append}
use lib.Seq.{ext_get_or, get_or-take, get_or-drop, take_at}
use Rattle.laws.proofs.Lists.{part_long}
use Rattle.buffer.specs.Written.{Outcome}
use Rattle.record.specs.Table.{part, le, all_zero, start_of, width_of, bit, bytes_taken}
use Rattle.record.specs.declared.ResTableConfig.{ResTableConfig}
use Rattle.reading.specs.Reading.{reads, field_by, record_by, plain, parse_of, parse_took, size_of, taken}
use Rattle.reading.proofs.Limits.{start_end, end_within}
use Rattle.reading.proofs.Records.{same}
use Rattle.reading.proofs.Whole.{whole_took}
use Rattle.record.specs.Shape.{Shaped}
use Rattle.writing.specs.Writing.{bytes4, bytes_of, span, tidy, bytes_written}
use Rattle.writing.specs.Demand2.{ReadsBack}
use Rattle.writing.proofs.Answers.{wrote-is, unread-zero, took-tidy}
use Rattle.writing.proofs.Offsets.{bytes_long, written_in, written_long}
use Rattle.writing.proofs.Zeros.{zeros_of}

-- a word that is written is read again
word_round : (x : ℕ) → le (bytes4 x) ≡ x
word_round x = omega arith

bit_round : (b : Bool) → not (all_zero (bit b ∷ [])) ≡ b
bit_round true = refl
bit_round false = refl

module _ (r : ResTableConfig) (w : Shaped r) (more : List ℕ) where
  -- a field that is read stands where the table has it
  there : (f : ℕ) → f < 15 → reads r.size f ≡ true → part (bytes_written r ++ more) (start_of f) (width_of f) ≡ bytes_of r f
  there f h e =
      let a = start_of f in
      let n = width_of f in
      let s = bytes_written r ++ more in
      let i = end_within r.size f h e in
      let j = start_end f h in
      let t = written_long r w in
      let m : length (part s a n) ≡ n = part_long s a n (omega (arith, length-append (bytes_written r) more)) in
      ext_get_or 0 (part s a n) (bytes_of r f) (m ∙ sym (bytes_long r w f h))
      (λ k l. let g : k < n = omega arith in
      let q : a + k - a ≡ k = omega arith in
      get_or-take n (drop a s) k 0 g
      ∙ get_or-drop a s k 0
      ∙ get_or-append (bytes_written r) more 0 (a + k) (omega arith)
      ∙ written_in r w (a + k) f h e (omega arith) (omega arith)
      ∙ ap (λ (m : ℕ). get_or (bytes_of r f) m 0) q)

  size_is : size_of (bytes_written r ++ more) ≡ r.size
  unfolding reads bytes_of
  size_is = ap le (there 0 (lit< tt) refl) ∙ word_round r.size

  module _ (fine : tidy r ≡ true) where
    field_by_lem : (f : ℕ) → f < 15 → (b : Bool) → reads r.size f ≡ b → field_by (reads r.size) (bytes_written r ++ more) f ≡ bytes_of r f
    unfolding field_by
    field_by_lem f h true e = rw e (there f h e)
    field_by_lem f h false e = rw e (sym (zeros_of (bytes_of r f) (unread-zero r fine f h e) ∙ ap (λ (m : ℕ). replicate m 0) (bytes_long r w f h)))

    field_is : (f : ℕ) → f < 15 → field_by (reads r.size) (bytes_written r ++ more) f ≡ bytes_of r f
    field_is f h = field_by_lem f h (reads r.size f) refl

    word_is : (f x : ℕ) → f < 15 → bytes_of r f ≡ bytes4 x → le (field_by (reads r.size) (bytes_written r ++ more) f) ≡ x
    word_is f x h e = ap le (field_is f h ∙ e) ∙ word_round x

    record_is : record_by (reads r.size) (bytes_written r ++ more) ≡ r
    unfolding record_by bytes_of
    record_is =
        same record {
          size = word_is 0 r.size (lit< tt) refl;
          imsi = word_is 1 r.imsi (lit< tt) refl;
          locale = word_is 2 r.locale (lit< tt) refl;
          screen_type = word_is 3 r.screen_type (lit< tt) refl;
          generic_purpose_field = word_is 4 r.generic_purpose_field (lit< tt) refl;
          screen_size = word_is 5 r.screen_size (lit< tt) refl;
          version = word_is 6 r.version (lit< tt) refl;
          screen_config = word_is 7 r.screen_config (lit< tt) refl;
          screen_size_dp = word_is 8 r.screen_size_dp (lit< tt) refl;
          locale_script = field_is 9 (lit< tt);
          locale_variant = field_is 10 (lit< tt);
          screen_config_2 = word_is 11 r.screen_config_2 (lit< tt) refl;
          locale_script_was_computed = ap (λ (l : List ℕ). not (all_zero l)) (field_is 12 (lit< tt)) ∙ bit_round r.locale_script_was_computed;
          locale_numbering_system = field_is 13 (lit< tt);
          end_padding = field_is 14 (lit< tt);
        }

    plain_back : plain (bytes_written r ++ more) ≡ r
    unfolding plain
    plain_back = rw size_is record_is

    -- the T bytes, with any bytes behind them
    pub back_behind : parse_of (bytes_written r ++ more) ≡ parse_took (span r) r
    back_behind =
        let s = bytes_written r ++ more in
        let t : taken s ≡ span r = ap bytes_taken size_is in
        whole_took s _ _ (omega (arith, t, length-append (bytes_written r) more, written_long r w))
        ∙ ap (λ (n : ℕ). parse_took n (plain s)) t
        ∙ ap (parse_took (span r)) plain_back

-- the T bytes of a record that the writer takes are read as the same record
pub back : (r : ResTableConfig) → Shaped r → tidy r ≡ true → parse_of (bytes_written r) ≡ parse_took (span r) r
back r w fine = rw append-nil at (back_behind r w [] fine)

-- a record that is written reads back as itself: from the lent buffer, and from its first T bytes
pub written_back : ReadsBack
written_back r old w e =
    let f = took-tidy r w old e in
    let o = wrote-is r w old f.0 f.1 in
    let n = length (bytes_written r) in
    let l = written_long r w in (
      ap (λ (z : Outcome). z.tells.amount) o ∙ l,
      ap (λ (z : Outcome). parse_of z.leaves) o ∙ back_behind r w (drop n old) f.0,
      ap (λ (z : Outcome). parse_of (take (span r) z.leaves)) o ∙ ap parse_of (take_at (bytes_written r) (drop n old) (span r) l) ∙ back r w f.0,
    )
