-- Demand 3 holds for runs of chunks: what the calls come to on a chunk is what they come to on its record alone. Assumes nothing.
use Prim.Native.Nat.{ℕ, ◌-◌, ◌≤◌, ◌<◌}
use mathlib.Core.Path.{◌≡◌, refl, sym, ap, ◌∙◌}
use mathlib.Core.Bool.{true}
use mathlib.Core.List.{List}
use lib.ListN.{length, get_or, drop}
use Rattle.std.specs.Prelude.{Result, Ok, Err}
use Rattle.buffer.specs.Written.{Outcome}
use Rattle.record.specs.declared.ResTableConfig.{ResTableConfig}
use Rattle.record.specs.Ages.{is_age}
use Rattle.reading.specs.Reading.{taken}
use Rattle.reading.proofs.Whole.{age_known}
use Rattle.marking.specs.Marks.{marks_outcome}
use Rattle.text.specs.Text.{aged_text}
use Rattle.runs.specs.Fronts.{StepOutcome}
use Rattle.runs.specs.Runs.{step_of}
use Rattle.runs.proofs.Along.{stands_at, each, finds_one, finds_all, same_offsets, same_stop, stops_there, same_reason}
use Rattle.runs.proofs.Fronts.{Whole}
use Rattle.runs.proofs.Showing.{step_gives}
use Rattle.runs.proofs.Demand3.{of_record}
use Rattle.chunk.specs.Chunk.{chunk_text, chunk_marks}
use Rattle.chunk.proofs.Head.{chunk_headed}
use Rattle.chunk_runs.specs.Chunks.{chunk_front, record_at, chunk_step_of, chunk_finds}
use Rattle.chunk_runs.specs.Demand3.{OfChunk, ChunkDemand3}
use Rattle.chunk_runs.proofs.Chunks.{chunk_stands, chunk_holds, chunk_run, chunk_steps}

-- a whole chunk stands at offset q of s
module _ (s : List ℕ) (q n : ℕ) (stands : chunk_front (drop q s) ≡ Ok n) where
  pub record_whole : taken (record_at s q) ≤ length (record_at s q)
  record_whole = (chunk_holds (drop q s) n stands).2

  -- at an age, the calls on it are those on its record
  module _ (a : ℕ) (age : is_age a ≡ true) where
    pub text_is : (old : List ℕ) → chunk_text a (drop q s) old ≡ aged_text a (record_at s q) old
    text_is old = age_known a _ _ (sym age) ∙ chunk_headed (drop q s) (Ok n) (chunk_stands (drop q s) n stands) n refl _ _

    pub marks_are : (old : List ℕ) → chunk_marks a (drop q s) old ≡ marks_outcome a (record_at s q) old
    marks_are old = age_known a _ _ (sym age) ∙ chunk_headed (drop q s) (Ok n) (chunk_stands (drop q s) n stands) n refl _ _

    pub gives_is : (chunk_step_of a s q).gives ≡ (step_of a (record_at s q) 0).gives
    gives_is =
        ap (λ (o : StepOutcome ResTableConfig). o.gives) (finds_one (chunk_steps a s) (sym age) q n (stands_at (chunk_run s) q n stands))
        ∙ sym (step_gives a (record_at s q) 0 age record_whole)

  of_chunk : (a b : ℕ) (x y : List ℕ) → a ≤ b → is_age a ≡ true → is_age b ≡ true → length x ≡ length y → OfChunk s q a b x y
  of_chunk a b x y rising older newer even =
      let o = of_record (record_at s q) 0 a b x y rising older newer even record_whole in
      record {
        older_values = rw (gives_is a older) o.older_values;
        newer_values = rw (gives_is b newer) o.newer_values;
        marks = λ m k h g f l u e.
            ap (λ (w : Outcome). get_or w.leaves (f - 1) 0) (marks_are a older m) ∙ o.marks m k h g f l u e
            ∙ sym (ap (λ (w : Outcome). get_or w.leaves (f - 1) 0) (marks_are b newer k));
        shows_when = rw (text_is a older x) o.shows_when;
        when_shows = rw (text_is a older x) o.when_shows;
        plain_text_lem = rw (text_is a older x) o.plain_text_lem;
        newer_too = rw (text_is a older x, text_is b newer y) o.newer_too;
        refuses = rw (text_is a older x) o.refuses;
      }

-- demand 3, for chunks
pub chunk_demand_3 : ChunkDemand3
chunk_demand_3 s p a b x y rising older newer even =
    let old = chunk_steps a s in
    let new = chunk_steps b s in
    record {
      offsets = same_offsets old new older newer p;
      stop = same_stop old new older newer p;
      stopped = stops_there old new older newer p;
      reason = same_reason old new older newer p;
      each = λ i h.
          let w = stands i h in
          of_chunk s (get_or (chunk_finds a s p) i 0) w.amount w.takes a b x y rising older newer even;
    } where
      stands : (i : ℕ) → i < length (chunk_finds a s p) → Whole (λ q. chunk_front (drop q s)) (get_or (chunk_finds a s p) i 0)
      stands i h = rw (finds_all (chunk_steps a s) (sym older) p) (each (chunk_run s) p i (rw (finds_all (chunk_steps a s) (sym older) p) at h))
