-- Laws of the forms with numbers: each gives its value to what it makes, and makes that to which it gives a value. Assumes nothing.
use Prim.Native.Nat.{ℕ, zero, suc, ◌+◌, ◌*◌, ◌-◌, ◌/◌, ◌%◌, ◌≤◌, ◌<◌}
use mathlib.Core.Path.{◌≡◌, refl, sym, ap, ◌∙◌}
use mathlib.Core.List.{List, [], ◌∷◌, ◌++◌}
use mathlib.Core.Bool.{◌&&◌}
use native.Mathlib.Omega.{arith}
use native.Mathlib.Decide.{dec_lt}
use native.Mathlib.Numerals.{add-one}
use lib.Dec.{leb, eqb}
use lib.ListN.{length, get_or, take, drop, length-append, length-drop, take-append-drop}
use lib.Seq.{take-append_seam, drop-append_seam, split_at}
use borrow.Author.Tests.{le-leb, ne_eqb, leb-true}
use Rattle.laws.proofs.Choice.{chosen_by}
use Rattle.laws.proofs.Tests.{and_both}
use Rattle.buffer.specs.Ascii.{ascii}
use Rattle.buffer.specs.Decimal.{decimal}
use Rattle.buffer.proofs.Digits.{decimal_one, decimal_more}
use Rattle.kinds.specs.Screen.{density_of}
use Rattle.kinds.specs.declared.screen.Density.{Density}
use Rattle.grammar.specs.Forms.{Form, Makes}
use Rattle.compare.specs.Compare.{same, begins_with, up_to}
use Rattle.compare.proofs.Compare.{same_true, same_refl, begins_true, begins_front, up_past, up_here, up_found}
use Rattle.numbers.specs.Numbers.{number_in}
use Rattle.numbers.proofs.Numbers.{number_forth, number_back, number_empty}
use Rattle.forms.specs.Values.{number_before, number_value, unnamed, density_value, pair_value, minor_value}

-- a number before a word
before_forth : (n : ℕ) (back : List ℕ) → n ≤ 65535 → number_before back (decimal n ++ back) ≡ n
unfolding number_before
before_forth n back h =
    let l = length-append (decimal n) back in
    let e : length (decimal n ++ back) - length back ≡ length (decimal n) = omega arith in
    rw (e, take-append_seam (decimal n) back, drop-append_seam (decimal n) back, same_refl back, number_forth n h, le-leb (length back) (length (decimal n ++ back)) (omega arith), le-leb n 65535 h)

before_back : (back s : List ℕ) (n : ℕ) → number_before back s ≡ n → 1 ≤ n → (s ≡ decimal n ++ back) × (n ≤ 65535)
unfolding number_before
before_back back s n =
    let digits = take (length s - length back) s in
    let behind = drop (length s - length back) s in
    chosen_by (λ (x : ℕ). x ≡ n → 1 ≤ n → (s ≡ decimal n ++ back) × (n ≤ 65535)) (leb (length back) (length s) && same behind back)
    (λ t. chosen_by (λ (x : ℕ). x ≡ n → 1 ≤ n → (s ≡ decimal n ++ back) × (n ≤ 65535)) (leb (number_in digits) 65535)
    (λ l e h.
    let g = leb-true (number_in digits) 65535 l in
    let m : n ≤ 65535 = omega arith in
    let q = and_both {a = leb (length back) (length s)} {b = same behind back} t in
    (sym (take-append-drop (length s - length back) s) ∙ rw (number_back digits n e m, same_true behind back q.1), m))
    (λ l e h. absurd (omega arith)))
    (λ t e h. absurd (omega arith))

-- a number between two words, also 0
pub between_forth : (front back : List ℕ) (n : ℕ) → n ≤ 65535 → number_value front back (front ++ (decimal n ++ back)) ≡ n
unfolding number_value
between_forth front back n h = rw (begins_front front (decimal n ++ back), drop-append_seam front (decimal n ++ back)) (before_forth n back h)

pub between_back : (front back s : List ℕ) (n : ℕ) → number_value front back s ≡ n → 1 ≤ n → (s ≡ front ++ (decimal n ++ back)) × (n ≤ 65535)
unfolding number_value
between_back front back s n =
    chosen_by (λ (x : ℕ). x ≡ n → 1 ≤ n → (s ≡ front ++ (decimal n ++ back)) × (n ≤ 65535)) (begins_with front s)
    (λ t e h. let p = before_back back (drop (length front) s) n e h in (begins_true front s t ∙ ap (λ (l : List ℕ). front ++ l) p.0, p.1))
    (λ t e h. absurd (omega arith))

-- a number, by the grammar
pub number_gives : {front back : List ℕ} {v : ℕ} {w : List ℕ} → Makes (Form.number front back) v w → number_value front back w ≡ v
number_gives (Makes.number {front = f} {back = b} {n = n} h) = between_forth f b n h.high

pub number_makes : (front back s : List ℕ) (v : ℕ) → number_value front back s ≡ v → 1 ≤ v → Makes (Form.number front back) v s
number_makes front back s v e h = let b = between_back front back s v e h in rw b.0 (Makes.number (record { low = h; high = b.1 }))

-- no number has more than 16 bits
pub number_most : (front back s : List ℕ) → number_value front back s ≤ 65535
number_most front back s =
    elim (dec_lt 0 (number_value front back s)) [
      | yes h ↦ (between_back front back s (number_value front back s) refl (omega arith)).1
      | no h ↦ omega arith
    ]

-- what has no word is its own number
abbrev OwnNumber : ℕ → Density → Type 0
OwnNumber n d = 1 ≤ unnamed d → d ≡ Density.Unknown n

-- a density has a word or no text, or it is its own number
pub named_or_not : (n : ℕ) → 1 ≤ unnamed (density_of n) → density_of n ≡ Density.Unknown n
named_or_not n =
    chosen_by P (eqb n 0) (λ e. none) (λ e. chosen_by P (eqb n 120) (λ e. none) (λ e. chosen_by P (eqb n 160) (λ e. none)
    (λ e. chosen_by P (eqb n 213) (λ e. none) (λ e. chosen_by P (eqb n 240) (λ e. none) (λ e. chosen_by P (eqb n 320) (λ e. none)
    (λ e. chosen_by P (eqb n 480) (λ e. none) (λ e. chosen_by P (eqb n 640) (λ e. none) (λ e. chosen_by P (eqb n 0xfffe) (λ e. none)
    (λ e. chosen_by P (eqb n 0xffff) (λ e. none) (λ e h. refl))))))))))
  where
    P : Density → Type 0
    P d = OwnNumber n d

    none : {A : Type 0} → 1 ≤ 0 → A
    none h = absurd (omega arith)

-- and the number of one that has neither is its own
pub unknown_is : (n v : ℕ) → density_of n ≡ Density.Unknown v → v ≡ n
unknown_is n v e = sym (ap (own n) e) ∙ owned
  where
    own : ℕ → Density → ℕ
    own n Density.Default = n
    own n Density.Low = n
    own n Density.Medium = n
    own n Density.TV = n
    own n Density.High = n
    own n Density.XHigh = n
    own n Density.XXHigh = n
    own n Density.XXXHigh = n
    own n Density.Any = n
    own n Density.None = n
    own n (Density.Unknown v) = v

    P : Density → Type 0
    P d = own n d ≡ n

    owned : own n (density_of n) ≡ n
    owned =
        chosen_by P (eqb n 0) (λ e. refl) (λ e. chosen_by P (eqb n 120) (λ e. refl) (λ e. chosen_by P (eqb n 160) (λ e. refl)
        (λ e. chosen_by P (eqb n 213) (λ e. refl) (λ e. chosen_by P (eqb n 240) (λ e. refl) (λ e. chosen_by P (eqb n 320) (λ e. refl)
        (λ e. chosen_by P (eqb n 480) (λ e. refl) (λ e. chosen_by P (eqb n 640) (λ e. refl) (λ e. chosen_by P (eqb n 0xfffe) (λ e. refl)
        (λ e. chosen_by P (eqb n 0xffff) (λ e. refl) (λ e. refl))))))))))

-- a density that has no word, by the grammar
pub density_gives : {v : ℕ} {w : List ℕ} → Makes Form.density v w → density_value w ≡ v
unfolding density_value
density_gives (Makes.density {n = n} h e) = ap (λ (m : ℕ). unnamed (density_of m)) (between_forth [] (ascii "dpi") n h.high) ∙ ap unnamed e

pub density_makes : (s : List ℕ) (v : ℕ) → density_value s ≡ v → 1 ≤ v → Makes Form.density v s
unfolding density_value
density_makes s v e h = made (number_value [] (ascii "dpi") s) refl e
  where
    made : (n : ℕ) → number_value [] (ascii "dpi") s ≡ n → unnamed (density_of n) ≡ v → Makes Form.density v s
    made n g f =
        let u = named_or_not n (omega arith) in
        let m : n ≡ v = sym (ap unnamed u) ∙ f in
        let b = between_back [] (ascii "dpi") s v (g ∙ m) h in
        rw b.0 (Makes.density (record { low = h; high = b.1 }) (rw m at u))

-- digits hold no other byte
up_more : (b : ℕ) (u : List ℕ) (d : ℕ) → (d ≡ b → ⊥) → up_to b u ≡ length u → up_to b (u ++ (d ∷ [])) ≡ length (u ++ (d ∷ []))
unfolding up_to
up_more b u d h e =
    let g : up_to b (d ∷ []) ≡ 1 = rw (ne_eqb d b h) in
    up_past b u (d ∷ []) e ∙ rw (g, length-append u (d ∷ []))

up_decimal_by : (b k n : ℕ) → n ≤ k → ((d : ℕ) → d < 10 → 48 + d ≡ b → ⊥) → up_to b (decimal n) ≡ length (decimal n)
unfolding up_to
up_decimal_by b zero n h g = rw (decimal_one n (omega arith), ne_eqb (48 + n) b (g n (omega arith)))
up_decimal_by b (suc k) n h g =
    elim (dec_lt n 10) [
      | yes l ↦ rw (decimal_one n l, ne_eqb (48 + n) b (g n l))
      | no l ↦ rw (decimal_more n (omega arith)) (up_more b (decimal (n / 10)) (48 + n % 10) (g (n % 10) (omega arith)) (up_decimal_by b k (n / 10) (omega arith) g))
    ]

pub up_decimal : (b n : ℕ) → ((d : ℕ) → d < 10 → 48 + d ≡ b → ⊥) → up_to b (decimal n) ≡ length (decimal n)
up_decimal b n g = up_decimal_by b n n (omega arith) g

-- 'x' and '.' are no digits
pub no_x : (d : ℕ) → d < 10 → 48 + d ≡ 120 → ⊥
no_x d l e = omega arith

pub no_dot : (d : ℕ) → d < 10 → 48 + d ≡ 46 → ⊥
no_dot d l e = omega arith

-- two numbers with a byte between them
behind_suc : (u v : List ℕ) (b : ℕ) → drop (suc (length u)) (u ++ b ∷ v) ≡ v
behind_suc [] v b = refl
behind_suc (a ∷ u) v b = behind_suc u v b

behind : (u v : List ℕ) (b : ℕ) → drop (length u + 1) (u ++ b ∷ v) ≡ v
behind u v b = rw (add-one (length u)) (behind_suc u v b)

pair_forth : (b n m : ℕ) → ((d : ℕ) → d < 10 → 48 + d ≡ b → ⊥) → n ≤ 65535 → m ≤ 65535 → pair_value b (decimal n ++ b ∷ decimal m) ≡ n + m * 65536
unfolding pair_value
pair_forth b n m g h k =
    rw (
      up_here b (decimal n) (decimal m) (up_decimal b n g),
      take-append_seam (decimal n) (b ∷ decimal m),
      behind (decimal n) (decimal m) b,
      number_forth n h,
      number_forth m k,
      le-leb n 65535 h,
      le-leb m 65535 k,
    )

-- what two numbers say
record Pair (b : ℕ) (s : List ℕ) (v : ℕ) : Type 0 where
  n : ℕ
  m : ℕ
  n_small : n ≤ 65535
  m_small : m ≤ 65535
  value : v ≡ n + m * 65536
  bytes : s ≡ decimal n ++ b ∷ decimal m

pair_back : (b : ℕ) (s : List ℕ) (v : ℕ) → pair_value b s ≡ v → 1 ≤ v → Pair b s v
unfolding pair_value
pair_back b s v =
    chosen_by (λ (x : ℕ). x ≡ v → 1 ≤ v → Pair b s v) (leb (number_in (take (up_to b s) s)) 65535 && leb (number_in (drop (up_to b s + 1) s)) 65535)
    (λ t e h.
    let q = and_both {a = leb (number_in (take (up_to b s) s)) 65535} {b = leb (number_in (drop (up_to b s + 1) s)) 65535} t in
    let hn = leb-true _ _ q.0 in
    let hm = leb-true _ _ q.1 in
    let dn = number_back (take (up_to b s) s) _ refl hn in
    let dm = number_back (drop (up_to b s + 1) s) _ refl hm in
    record {
      n = number_in (take (up_to b s) s);
      m = number_in (drop (up_to b s + 1) s);
      n_small = hn;
      m_small = hm;
      value = sym e;
      bytes = split s (up_to b s) b dn dm (inside hm) (up_found b s (inside hm));
    })
    (λ t e h. absurd (omega arith))
  where
    inside : number_in (drop (up_to b s + 1) s) ≤ 65535 → up_to b s < length s
    inside hm =
        elim (dec_lt (up_to b s) (length s)) [
          | yes l ↦ l
          | no l ↦ absurd (omega (arith, number_empty (drop (up_to b s + 1) s) (length-drop (up_to b s + 1) s ∙ omega arith)))
        ]

    split : (s : List ℕ) (k b : ℕ) {u v : List ℕ} → take k s ≡ u → drop (k + 1) s ≡ v → k < length s → get_or s k 0 ≡ b → s ≡ u ++ b ∷ v
    split s k b p q l e = split_at s k 0 l ∙ rw (p, e, ← add-one k, q)

-- both sides, by the grammar
pub sides_give : {w : List ℕ} {v : ℕ} → Makes Form.sides v w → pair_value 120 w ≡ v
sides_give (Makes.sides {n = n} {m = m} h k f) = pair_forth 120 n m no_x h.high k.high

pub sides_make : (s : List ℕ) (v : ℕ) → pair_value 120 s ≡ v → 1 ≤ v → Makes Form.sides v s
sides_make s v e h = made (pair_back 120 s v e h)
  where
    made : Pair 120 s v → Makes Form.sides v s
    made p = rw (p.bytes, p.value)
        (Makes.sides {n = p.n} {m = p.m} (record { low = omega arith; high = p.n_small }) (record { low = omega arith; high = p.m_small }) (omega (arith, p.value)))

-- a version with a minor one, by the grammar
pub minor_gives : {w : List ℕ} {v : ℕ} → Makes Form.minor v w → minor_value w ≡ v
unfolding minor_value begins_with same
minor_gives (Makes.minor {n = n} {m = m} h k) =
    let e = pair_forth 46 n m no_dot h.high k.high in
    rw (e, le-leb 65536 (n + m * 65536) (omega (arith, k.low)))

pub minor_makes : (s : List ℕ) (v : ℕ) → minor_value s ≡ v → 1 ≤ v → Makes Form.minor v s
unfolding minor_value
minor_makes s v =
    chosen_by (λ (x : ℕ). x ≡ v → 1 ≤ v → Makes Form.minor v s) (begins_with (ascii "v") s && leb 65536 (pair_value 46 (drop 1 s)))
    (λ t e h.
    let q = and_both {a = begins_with (ascii "v") s} {b = leb 65536 (pair_value 46 (drop 1 s))} t in
    let l = leb-true 65536 (pair_value 46 (drop 1 s)) q.1 in
    made (begins_true (ascii "v") s q.0) (pair_back 46 (drop 1 s) v e h) (omega arith))
    (λ t e h. absurd (omega arith))
  where
    made : s ≡ ascii "v" ++ drop 1 s → Pair 46 (drop 1 s) v → 65536 ≤ v → Makes Form.minor v s
    made e p h = rw (e, p.bytes, p.value)
        (Makes.minor {n = p.n} {m = p.m} (record { low = omega arith; high = p.n_small }) (record { low = omega (arith, p.value, p.n_small); high = p.m_small }))
