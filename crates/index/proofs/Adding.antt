-- A walk over a run that counts its records beside some places: what is counted and what is left to count make up the whole. Assumes nothing.
use Prim.Native.Nat.{ℕ, zero, suc, ◌+◌, ◌*◌, ◌-◌, ◌≤◌}
use mathlib.Core.Path.{◌≡◌, sym, ap, ◌∙◌}
use mathlib.Core.List.{List, ◌∷◌, map}
use native.Mathlib.Omega.{arith}
use native.Mathlib.Nat.{mul-suc, mul-zero}
use lib.ListN.{length, get_or}
use Rattle.std.specs.Prelude.{Ok, Err}
use Rattle.runs.specs.declared.Stop.{Stop}
use Rattle.runs.specs.Fronts.{offsets_in}
use Rattle.runs.specs.Runs.{front_at, most, offsets_of}
use Rattle.runs.proofs.Fronts.{offset_next, offset_none}
use Rattle.runs.proofs.Records.{front_within, whole_records}
use Rattle.order_at.specs.OrderAt.{order_at}
use Rattle.rising.specs.Rising.{count_equal, Rises}
use Rattle.rising.specs.Steps.{taken_in, recount, tallied}
use Rattle.rising.proofs.Ranked.{toward_place}
use Rattle.rising.proofs.Counts.{tallied_next, counts_are, count_own, count_most}
use Rattle.index.specs.Index.{count_in}
use Rattle.index.proofs.Words.{ranks}

-- beside the places qs stand the counts ns, where each record met counts k; what is left of the run begins at offset p, in as many turns at most
pub record Adding (s : List ℕ) (k : ℕ) (qs ns : List ℕ) (left p : ℕ) : Type 0 where
  pub enough : length s ≤ p + left * 16 + 15
  pub adds : (x : ℕ) → tallied (λ q. order_at s q x) qs ns + k * count_equal (λ q. order_at s q x) (offsets_in left (front_at s) p) ≡ k * count_in s x

-- it begins where nothing is counted
pub adding_begins : (s : List ℕ) (k : ℕ) (qs ns : List ℕ) → ((x : ℕ) → tallied (λ q. order_at s q x) qs ns ≡ 0) → Adding s k qs ns (most s) 0
adding_begins s k qs ns none = record { enough = omega arith; adds = λ x. omega (arith, none x) }

-- each record takes 16 bytes or more
pub count_few : (s : List ℕ) (x : ℕ) → count_in s x * 16 ≤ length s
count_few s x =
    let c = count_most (λ q. order_at s q x) (offsets_of s 0) in
    let d = (whole_records s 0).few in
    omega (arith, c, d)

module _ (s : List ℕ) (k : ℕ) (qs ns : List ℕ) (left p n : ℕ) (a : Adding s k qs ns left p) (takes : front_at s p ≡ Ok n) where
  abbrev rest : List ℕ
  rest = offsets_in (left - 1) (front_at s) (p + n)

  more : (l q i : ℕ) → q + 16 ≤ l → l ≤ q + i * 16 + 15 → i ≡ suc (i - 1)
  more l q i h e = omega arith

  some : left ≡ suc (left - 1)
  some = more (length s) p left (omega (arith, front_within s p n takes)) a.enough

  -- the record at p is the next
  pub next : offsets_in left (front_at s) p ≡ p ∷ rest
  next = ap (λ (i : ℕ). offsets_in i (front_at s) p) some ∙ offset_next (front_at s) p n takes (left - 1)

  adds_next : (x : ℕ) → tallied (λ q. order_at s q x) qs ns + k * count_equal (λ q. order_at s q x) (p ∷ rest) ≡ k * count_in s x
  adds_next x = ap (λ (l : List ℕ). tallied (λ q. order_at s q x) qs ns + k * count_equal (λ q. order_at s q x) l) (sym next) ∙ a.adds x

  -- it isn't counted yet
  pub one_short : tallied (λ q. order_at s q p) qs ns + k ≤ k * count_in s p
  one_short = short _ _ _ (adds_next p) (count_own (order_at s) (ranks s) p rest)
    where
      short : (t c l : ℕ) → t + k * c ≡ l → 1 ≤ c → t + k ≤ l
      short t zero l e h = absurd (omega arith)
      short t (suc c) l e h = let m = mul-suc k c in omega (arith, m)

  pub adding_on : length qs ≡ length ns → Adding s k (taken_in (order_at s) p qs) (recount k (λ q. order_at s q p) qs ns) (left - 1) (p + n)
  adding_on beside =
      record {
        enough = omega (arith, front_within s p n takes, a.enough, some);
        adds = λ x. tallied_next (order_at s) (ranks s) k (toward_place (order_at s) (ranks s) x) p (k * count_in s x) qs ns rest beside (adds_next x);
      }

-- where the run stops all are counted
pub added_all : (s : List ℕ) (k : ℕ) (qs ns : List ℕ) (left p : ℕ) (stop : Stop) → Adding s k qs ns left p → front_at s p ≡ Err stop
    → length qs ≡ length ns → Rises (order_at s) qs → ns ≡ map (λ (q : ℕ). k * count_in s q) qs
unfolding count_equal
added_all s k qs ns left p stop a stops beside rising =
    counts_are (order_at s) (ranks s) (λ q. k * count_in s q) qs ns beside rising
    (λ i h. let f = rw (offset_none (front_at s) p stop stops left) at (a.adds (get_or qs i 0)) in nothing_left _ _ f)
  where
    nothing_left : (t c : ℕ) → t + k * 0 ≡ c → t ≡ c
    nothing_left t c f = let z = mul-zero k in omega (arith, f, z)
