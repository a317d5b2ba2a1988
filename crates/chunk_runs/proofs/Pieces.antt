-- A run of pieces that stand end to end, whatever they are: it finds each where it was put, and stops at its exact end. Assumes nothing.
use Prim.Native.Nat.{ℕ, zero, suc, ◌+◌, ◌*◌, ◌<◌}
use mathlib.Core.Path.{◌≡◌, refl, sym, ap, ◌∙◌}
use mathlib.Core.List.{List, [], ◌∷◌, ◌++◌, map}
use native.Mathlib.Omega.{arith}
use lib.ListN.{length, drop, length-append}
use lib.Seq.{drop-drop, drop-append_seam}
use Rattle.runs.specs.declared.Stop.{Stop}
use Rattle.std.specs.Prelude.{Result, Ok, Err}
use Rattle.runs.specs.Fronts.{offsets_in, stop_in, end_in}
use Rattle.runs.specs.Runs.{most}
use Rattle.runs.proofs.Fronts.{offset_next, offset_none, stop_next, stop_here, stop_is}
use Rattle.runs.proofs.Along.{Run, at_end, stands_at, within}
use Rattle.chunk_runs.specs.Chunked.{joined, places_from, ends}

-- from p on, s is the pieces xs end to end
pub record Laid (s : List ℕ) (p : ℕ) (xs : List (List ℕ)) : Type 0 where
  pub there : drop p s ≡ joined xs
  pub reach : p + length (joined xs) ≡ length s

-- it begins with all of them
pub laid_all : (xs : List (List ℕ)) → Laid (joined xs) 0 xs
laid_all xs = record { there = refl; reach = omega arith }

-- behind the first it is the others
pub laid_next : {s : List ℕ} {p : ℕ} {xs : List (List ℕ)} (x : List ℕ) → Laid s p (x ∷ xs) → Laid s (p + length x) xs
laid_next {s} {p} {xs} x l =
    record {
      there = sym (drop-drop (length x) p s) ∙ ap (drop (length x)) l.there ∙ drop-append_seam x (joined xs);
      reach = omega (arith, l.reach, length-append x (joined xs));
    }

-- as many places as pieces
places_many : {A : Type 0} (f : A → List ℕ) (p : ℕ) (l : List A) → length (places_from p (map f l)) ≡ length l
places_many f p [] = refl
places_many f p (x ∷ l) = ap suc (places_many f (p + length (f x)) l)

-- each piece stands at the front of whatever begins with it
module _ {s : List ℕ} (run : Run s) {A : Type 0} (f : A → List ℕ) (stands : (x : A) (w : List ℕ) → run.here (f x ++ w) ≡ Ok (length (f x))) where
  piece_stands : (p : ℕ) (x : A) (l : List A) → Laid s p (map f (x ∷ l)) → run.front p ≡ Ok (length (f x))
  piece_stands p x l at = stands_at run p (length (f x)) (ap run.here at.there ∙ stands x (joined (map f l)))

  -- in k turns, where 16 k bytes are left and fewer than 16 more: each is found where it was put, and the run stops at the end
  abbrev Goes : ℕ → ℕ → List A → Type 0
  Goes k p l = (offsets_in k run.front p ≡ places_from p (map f l)) × (stop_in k run.front p ≡ length s)

  none_left : (k p : ℕ) → Laid s p [] → Goes k p []
  none_left k p at =
      let here : p ≡ length s = omega (arith, at.reach) in
      let e = at_end run p here in
      (offset_none run.front p Stop.Ended e k, stop_here run.front p Stop.Ended e k ∙ here)

  goes : (k p : ℕ) (l : List A) → length s < p + 16 * k + 16 → Laid s p (map f l) → Goes k p l
  goes zero p [] h at = none_left zero p at
  goes zero p (x ∷ l) h at = absurd (omega (arith, within run p (length (f x)) (piece_stands p x l at)))
  goes (suc k) p [] h at = none_left (suc k) p at
  goes (suc k) p (x ∷ l) h at =
      let e = piece_stands p x l at in
      let rest = goes k (p + length (f x)) l (omega (arith, within run p (length (f x)) e)) (laid_next (f x) at) in (
        offset_next run.front p (length (f x)) e k ∙ ap (λ (l : List ℕ). p ∷ l) rest.0,
        stop_next run.front p (length (f x)) e k ∙ rest.1,
      )

  -- all of them
  pub pieces : (l : List A) → Laid s 0 (map f l)
      → (offsets_in (most s) run.front 0 ≡ places_from 0 (map f l)) × (end_in (most s) run.front 0 ≡ ends (length l) (length s))
  pieces l at =
      let all = goes (most s) 0 l (omega arith) at in
      (all.0, rw (all.0, all.1, places_many f 0 l, stop_is run.front (length s) Stop.Ended (at_end run (length s) refl)))
