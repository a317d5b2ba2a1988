-- Runs as they were before 02, K2, when 2 told no row: they have the same records and stop at the same places, at every age.
-- Assumes nothing.
use Prim.Native.Nat.{ℕ, zero, suc, ◌+◌}
use mathlib.Core.Path.{◌≡◌, refl, sym, ap, ◌∙◌}
use mathlib.Core.Bool.{true, cond}
use mathlib.Core.List.{List, [], ◌∷◌}
use lib.Dec.{eqb}
use lib.ListN.{length, drop}
use Rattle.record.specs.Ages.{is_age}
use Rattle.reading.specs.Reading.{taken}
use Rattle.reading.proofs.Former.{former, former_whole, former_whole_lem}
use Rattle.reading.proofs.Whole.{cond_map, whole_map}
use Rattle.runs.specs.declared.Stop.{Stop}
use Rattle.std.specs.Prelude.{Result, Ok, Err}
use Rattle.runs.specs.declared.RunEnd.{RunEnd}
use Rattle.runs.specs.Fronts.{by_front, offsets_in, stop_in, stop_at, end_in}
use Rattle.runs.specs.Runs.{front_at, most, stop_of, run_of, finds_of, stands_of}
use Rattle.runs.proofs.Fronts.{stop_is}
use Rattle.runs.proofs.Records.{run_stopped, finds_are, stands_are}

-- what stands, with another reason where the run stops
abbrev with_stop : (Stop → Stop) → Result ℕ Stop → Result ℕ Stop
with_stop reason (Ok n) = Ok n
with_stop reason (Err stop) = Err (reason stop)

-- what is given by it, where nothing goes by that reason
by_front_lem : {A : Type 0} (reason : Stop → Stop) (stopped : A) (u v : ℕ → A) → ((n : ℕ) → u n ≡ v n)
    → (f : Result ℕ Stop) → by_front (λ stop. stopped) u (with_stop reason f) ≡ by_front (λ stop. stopped) v f
by_front_lem reason stopped u v e (Ok n) = e n
by_front_lem reason stopped u v e (Err stop) = refl

-- a run whose stops have other reasons
module _ (front other : ℕ → Result ℕ Stop) (reason : Stop → Stop) (same : (p : ℕ) → other p ≡ with_stop reason (front p)) where
  -- has the same offsets
  pub same_offsets : (k p : ℕ) → offsets_in k other p ≡ offsets_in k front p
  unfolding offsets_in
  same_offsets zero p = refl
  same_offsets (suc k) p =
      ap (by_front (λ stop. []) (λ n. p ∷ offsets_in k other (p + n))) (same p)
      ∙ by_front_lem reason [] _ _ (λ n. ap (λ (l : List ℕ). p ∷ l) (same_offsets k (p + n))) (front p)

  -- and stops at the same one
  pub same_stop : (k p : ℕ) → stop_in k other p ≡ stop_in k front p
  unfolding stop_in
  same_stop zero p = refl
  same_stop (suc k) p =
      ap (by_front (λ stop. p) (λ n. stop_in k other (p + n))) (same p) ∙ by_front_lem reason p _ _ (λ n. same_stop k (p + n)) (front p)

  -- for that reason
  pub same_reason : (p : ℕ) (stop : Stop) → front p ≡ Err stop → stop_at other p ≡ reason stop
  same_reason p stop e = ap (by_front (λ why. why) (λ n. Stop.Ended)) (same p ∙ ap (with_stop reason) e)

-- a stop as it was then
abbrev pub former_stop : Stop → Stop
former_stop Stop.Ended = Stop.Ended
former_stop (Stop.Refused why) = Stop.Refused (former why)

-- what stood at offset p of s then
unfoldable pub former_at : List ℕ → ℕ → Result ℕ Stop
former_at s p =
    cond (eqb p (length s)) (Err Stop.Ended)
    (former_whole (drop p s) (λ why. Err (Stop.Refused why)) (Ok (taken (drop p s))))

-- it is what stands now, with the stop of then
former_front : (s : List ℕ) (p : ℕ) → former_at s p ≡ with_stop former_stop (front_at s p)
unfolding former_at front_at
former_front s p =
    sym (cond_map (with_stop former_stop) (eqb p (length s)) (Err Stop.Ended) _
    ∙ ap (cond (eqb p (length s)) (Err Stop.Ended))
    (whole_map (with_stop former_stop) (drop p s) _ _ ∙ former_whole_lem (drop p s) (λ why. Err (Stop.Refused why)) _))

end_same : {m n i j : ℕ} {x y : Stop} → m ≡ n → i ≡ j → x ≡ y
    → ◌≡◌ {A = RunEnd} (record { records = m; offset = i; stop = x }) (record { records = n; offset = j; stop = y })
end_same p q r = cc

-- a run's end as it was then
abbrev pub former_end : RunEnd → RunEnd
former_end e = record { records = e.records; offset = e.offset; stop = former_stop e.stop }

module _ (s : List ℕ) (p : ℕ) where
  -- as many records, and the same stop but for the row and for 8
  pub former_run : end_in (most s) (former_at s) p ≡ former_end (run_of s p)
  former_run =
      let w = run_stopped s p in
      let stop = same_stop (front_at s) (former_at s) former_stop (former_front s) (most s) p in
      end_same
      (ap length (same_offsets (front_at s) (former_at s) former_stop (former_front s) (most s) p))
      stop
      (ap (stop_at (former_at s)) stop ∙ same_reason (front_at s) (former_at s) former_stop (former_front s) (stop_of s p) w.stop w.stopped
      ∙ ap former_stop (sym (stop_is (front_at s) (stop_of s p) w.stop w.stopped)))

  -- a reader of any age finds the records that it found, and stops where it stopped
  module _ (a : ℕ) (known : true ≡ is_age a) where
    pub former_finds : finds_of a s p ≡ offsets_in (most s) (former_at s) p
    former_finds = finds_are a s known p ∙ sym (same_offsets (front_at s) (former_at s) former_stop (former_front s) (most s) p)

    pub former_stands : stands_of a s p ≡ stop_in (most s) (former_at s) p
    former_stands = stands_are a s known p ∙ sym (same_stop (front_at s) (former_at s) former_stop (former_front s) (most s) p)
