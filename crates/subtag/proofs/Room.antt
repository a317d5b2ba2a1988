-- Where a replaced text stops in a buffer of so many bytes, front by front. Assumes nothing.
use Prim.Native.Nat.{ℕ, suc, ◌+◌, ◌-◌, ◌≤◌, ◌<◌}
use mathlib.Core.Path.{◌≡◌, sym, ap, ◌∙◌}
use mathlib.Core.List.{List, ◌++◌}
use native.Mathlib.Omega.{arith}
use lib.ListN.{length, get_or, take, drop, length-append, length-drop}
use lib.Seq.{length-take-le, drop-drop, drop-cons}
use Rattle.laws.proofs.Lists.{rest_is}
use Rattle.buffer.specs.Put.{reach}
use Rattle.buffer.proofs.Putting.{reach_append, reach_fits, reach_full}
use Rattle.subtag.specs.declared.utf8.Front.{Front}
use Rattle.subtag.specs.Utf8.{front_of}
use Rattle.subtag.specs.Subtag.{piece_of, front_size, replaced}
use Rattle.subtag.specs.Steps.{Measured}
use Rattle.subtag.proofs.Low.{low_judged}
use Rattle.subtag.proofs.Laws.{size_one, size_in, well_in, replaced_more, replaced_none}

-- a byte below 80 at offset i, measured
pub measured_low : (s : List ℕ) (i : ℕ) → i < length s → get_or s i 0 < 128 → Measured (take (length s - i) (drop i s)) 1 1
measured_low s i h k =
    let w = low_judged (get_or s i 0) (drop (suc i) s) k in
    rw (rest_is s i ∙ drop-cons s i 0 h) (record { long = rw w; takes = rw w })

-- a judged front, measured
module _ (s : List ℕ) {f : Front} {n : ℕ} (e : f ≡ front_of s) where
  pub measured_well : f ≡ Front.WellFormed n → 0 < length s → Measured s n n
  measured_well q h =
      let w = sym e ∙ q in record { long = rw w (sym (length-take-le n s (well_in s e q h))); takes = rw w }

  pub measured_ill : f ≡ Front.IllFormed n → Measured s 3 n
  measured_ill q = let w = sym e ∙ q in record { long = rw w; takes = rw w }

-- a front of what is left behind offset i: what it becomes and has, and what is left then
module _ (s : List ℕ) {i becomes taken : ℕ} (h : i < length s) (m : Measured (take (length s - i) (drop i s)) becomes taken) where
  here : Measured (drop i s) becomes taken
  here = rw (rest_is s i) at m

  left : 0 < length (drop i s)
  left = omega (arith, length-drop i s)

  pub front_in : (1 ≤ taken) × (i + taken ≤ length s)
  front_in =
      let e = here.takes in
      let l = length-drop i s in
      (omega (arith, size_one (drop i s) left), omega (arith, size_in (drop i s) left))

  more : replaced (drop i s) ≡ piece_of (front_of (drop i s)) (drop i s) ++ replaced (drop (i + taken) s)
  more =
      let n = front_size (front_of (drop i s)) in
      let d : drop n (drop i s) ≡ drop (i + taken) s = rw (← here.takes, drop-drop) in
      rw d at (replaced_more (drop i s) left)

  -- where there is room for what the front becomes, the rest stands behind it
  pub reach_more : (room o : ℕ) → o + becomes ≤ room → reach room o (replaced (drop i s)) ≡ reach room (o + becomes) (replaced (drop (i + taken) s))
  reach_more room o k =
      let piece = piece_of (front_of (drop i s)) (drop i s) in
      let e : reach room o piece ≡ o + becomes = rw here.long (reach_fits room o piece (omega (arith, here.long))) in
      rw more (reach_append room o piece (replaced (drop (i + taken) s)) ∙ rw e)

  -- where there is none, the writer stops at the end
  pub reach_none : (room o : ℕ) → o ≤ room → room - o < becomes → reach room o (replaced (drop i s)) ≡ room
  reach_none room o k l =
      let piece = piece_of (front_of (drop i s)) (drop i s) in
      reach_full room o (replaced (drop i s)) k
      (omega (arith, here.long, ap length more, length-append piece (replaced (drop (i + taken) s))))

-- behind the last front nothing is left
pub reach_end : (s : List ℕ) (i room o : ℕ) → length s ≤ i → reach room o (replaced (drop i s)) ≡ o
unfolding reach
reach_end s i room o h = rw (replaced_none (drop i s) (omega (arith, length-drop i s)))
