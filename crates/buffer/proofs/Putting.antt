-- Laws of `Put`: a writer after a writer puts the appended words, with no room asked; with room, what stands there. Assumes nothing.
use Prim.Native.Nat.{ℕ, suc, ◌+◌, ◌-◌, ◌≤◌, ◌<◌, min}
use mathlib.Core.Path.{◌≡◌, refl, sym, ap, ◌∙◌}
use mathlib.Core.List.{List, [], ◌∷◌, ◌++◌}
use native.Mathlib.Omega.{arith}
use native.Mathlib.Decide.{dec_le, dec_lt}
use native.Mathlib.Nat.{zero-add}
use lib.ListN.{length, set, take, drop, get_or, length-set}
use lib.Seq.{sets, sets-eq, set_out, take_at, take-suc, take_all}
use borrow.Author.Tests.{lt-ltb, le-ltb}
use borrow.Rule.Slice.PartMut.{put_mid}
use Rattle.std.proofs.lemmas.List.{append_assoc, take-append-drop, length-take-le, drop_all, drop-drop}
use Rattle.buffer.specs.Put.{put_at, reach, Put}

-- past the end nothing is put, and a writer stops at once
put_over : (o : List ℕ) (at : ℕ) (w : List ℕ) → length o ≤ at → put_at o at w ≡ o
unfolding put_at
put_over o at [] h = refl
put_over o at (b ∷ w) h = rw (set_out o at b h) (put_over o (suc at) w (omega arith))

reach_over : (n at : ℕ) (w : List ℕ) → n ≤ at → reach n at w ≡ at
unfolding reach
reach_over n at [] h = refl
reach_over n at (b ∷ w) h = rw le-ltb

pub put_length : (o : List ℕ) (at : ℕ) (w : List ℕ) → length (put_at o at w) ≡ length o
unfolding put_at
put_length o at [] = refl
put_length o at (b ∷ w) = put_length (set o at b) (suc at) w ∙ length-set o at b

-- a writer keeps the buffer's length
pub put_same : {o : List ℕ} {at : ℕ} {w : List ℕ} {n : List ℕ} {r : ℕ} → Put o at w n r → length n ≡ length o
put_same {o} {at} {w} p = ap length p.holds ∙ put_length o at w

-- both of two words in a row
pub reach_append : (n at : ℕ) (u v : List ℕ) → reach n at (u ++ v) ≡ reach n (reach n at u) v
unfolding reach
reach_append n at [] v = refl
reach_append n at (b ∷ u) v =
    elim (dec_lt at n) [
      | yes h ↦ rw lt-ltb (reach_append n (suc at) u v)
      | no h ↦ let g : n ≤ at = omega arith in rw le-ltb (sym (reach_over n at v g))
    ]

put_append : (o : List ℕ) (at : ℕ) (u v : List ℕ) → put_at o at (u ++ v) ≡ put_at (put_at o at u) (reach (length o) at u) v
unfolding put_at reach
put_append o at [] v = refl
put_append o at (b ∷ u) v =
    elim (dec_lt at (length o)) [
      | yes h ↦ rw lt-ltb (rw (length-set o at b) at (put_append (set o at b) (suc at) u v))
      | no h ↦ let g : length o ≤ at = omega arith in
          rw le-ltb (put_over o at ((b ∷ u) ++ v) g ∙ sym (put_over o at v g) ∙ ap (λ (l : List ℕ). put_at l at v) (sym (put_over o at (b ∷ u) g)))
    ]

-- a writer after a writer
pub put_put : {o : List ℕ} {at : ℕ} {u : List ℕ} {m : List ℕ} {a : ℕ} {v : List ℕ} {n : List ℕ} {r : ℕ}
    → Put o at u m a → Put m a v n r → Put o at (u ++ v) n r
put_put {o} {at} {u} {m} {a} {v} {n} {r} p q = record {
  ends = rw (reach_append, ← p.ends, ← put_length o at u, ← p.holds) q.ends;
  holds = rw (put_append, ← p.ends, ← p.holds) q.holds;
}

-- a writer that wrote nothing
pub put_nil : {o : List ℕ} {at : ℕ} → Put o at [] o at
unfolding put_at reach
put_nil = record { ends = refl; holds = refl }

-- one byte, where there is room and where not
pub put_room : {o : List ℕ} {at : ℕ} (b : ℕ) → at < length o → Put o at (b ∷ []) (set o at b) (at + 1)
unfolding put_at reach
put_room b h = record { ends = rw lt-ltb (omega arith); holds = refl }

pub put_full : {o : List ℕ} {at : ℕ} (b : ℕ) → length o ≤ at → Put o at (b ∷ []) o at
unfolding put_at reach
put_full b h = record { ends = rw le-ltb; holds = sym (set_out _ _ b h) }

-- the bytes of w one by one
pub put_turn : {o : List ℕ} {at : ℕ} (w : List ℕ) {m : List ℕ} {a : ℕ} {n : List ℕ} {r : ℕ} (j : ℕ)
    → j < length w → Put o at (take j w) m a → Put m a (get_or w j 0 ∷ []) n r → Put o at (take (suc j) w) n r
put_turn w j h p q = rw (take-suc w j 0 h) (put_put p q)

pub put_all : {o : List ℕ} {at : ℕ} (w : List ℕ) {n : List ℕ} {r : ℕ} (j : ℕ) → length w ≤ j → Put o at (take j w) n r → Put o at w n r
put_all w j h p = rw take_all at p

-- where the words fit: the end, and what stands there
pub reach_fits : (n at : ℕ) (w : List ℕ) → at + length w ≤ n → reach n at w ≡ at + length w
unfolding reach
reach_fits n at [] h = omega arith
reach_fits n at (b ∷ w) h = let g : at < n = omega arith in rw lt-ltb (reach_fits n (suc at) w (omega arith) ∙ omega arith)

-- where they don't, the end of the buffer
pub reach_full : (n at : ℕ) (w : List ℕ) → at ≤ n → n ≤ at + length w → reach n at w ≡ n
unfolding reach
reach_full n at [] h k = omega arith
reach_full n at (b ∷ w) h k =
    elim (dec_lt at n) [
      | yes l ↦ rw lt-ltb (reach_full n (suc at) w (omega arith) (omega arith))
      | no l ↦ let g : n ≤ at = omega arith in rw le-ltb (omega arith)
    ]

-- with room for n bytes and one more, whether w has more than n
pub reach_within : (n : ℕ) (w : List ℕ) → reach (n + 1) 0 w ≤ n → length w ≤ n
reach_within n w h =
    elim (dec_lt n (length w)) [
      | yes l ↦ absurd (omega (arith, reach_full (n + 1) 0 w (omega arith) (omega arith)))
      | no l ↦ omega arith
    ]

pub reach_past : (n : ℕ) (w : List ℕ) → n < reach (n + 1) 0 w → n < length w
reach_past n w h =
    elim (dec_lt n (length w)) [
      | yes l ↦ l
      | no l ↦ absurd (omega (arith, reach_fits (n + 1) 0 w (omega arith)))
    ]

put_sets : (o : List ℕ) (at : ℕ) (w : List ℕ) → put_at o at w ≡ sets o at w
unfolding put_at
put_sets o at [] = refl
put_sets o at (b ∷ w) = put_sets (set o at b) (suc at) w

pub put_ends : {o : List ℕ} {at : ℕ} {w : List ℕ} {n : List ℕ} {r : ℕ} → Put o at w n r → at + length w ≤ length o → r ≡ at + length w
put_ends {o} {at} {w} p h = p.ends ∙ reach_fits (length o) at w h

pub put_is : {o : List ℕ} {at : ℕ} {w : List ℕ} {n : List ℕ} {r : ℕ} → Put o at w n r → at + length w ≤ length o → n ≡ take at o ++ w ++ drop (at + length w) o
put_is {o} {at} {w} p h = p.holds ∙ put_sets o at w ∙ sets-eq w o at h

-- where there is no room, all words are alike
pub put_past : {o : List ℕ} {at : ℕ} {u : List ℕ} (v : List ℕ) {n : List ℕ} {r : ℕ} → length o ≤ at → Put o at u n r → Put o at v n r
put_past {o} {at} {u} v h p = record {
  ends = p.ends ∙ reach_over (length o) at u h ∙ sym (reach_over (length o) at v h);
  holds = p.holds ∙ put_over o at u h ∙ sym (put_over o at v h);
}

-- the k bytes of w that there is room for, put in one go
pub put_part : {o : List ℕ} {at : ℕ} (w : List ℕ) {v : List ℕ} {k n : ℕ}
    → at < length o → k ≡ min (length w) (length o - at) → v ≡ take k w → n ≡ k → Put o at w (put_mid at n o v) (at + k)
put_part {o} {at} w {v} {k} {n} h e f g =
    let l : length v ≡ k = rw f (length-take-le k w (omega arith)) in
    let p : Put o at v (put_mid at n o v) (at + k) = record {
      ends = sym (reach_fits (length o) at v (omega arith) ∙ ap (λ (m : ℕ). at + m) l);
      holds = rw (put_sets o at v, sets-eq v o at (omega arith), append_assoc, l, g, drop-drop);
    } in
    let q : Put (put_mid at n o v) (at + k) (drop k w) (put_mid at n o v) (at + k) =
    elim (dec_le (length w) k) [
      | yes m ↦ rw (drop_all k w m) put_nil
      | no m ↦ put_past _ (omega (arith, put_same p)) put_nil
    ] in
    rw (← take-append-drop k w, ← f) (put_put p q)

-- the same at the front of a buffer
pub front_ends : {o : List ℕ} {w : List ℕ} {n : List ℕ} {r : ℕ} → Put o 0 w n r → length w ≤ length o → r ≡ length w
front_ends {o} {w} p h = omega (arith, put_ends p (omega arith))

pub front_is : {o : List ℕ} {w : List ℕ} {n : List ℕ} {r : ℕ} → Put o 0 w n r → length w ≤ length o → n ≡ w ++ drop (length w) o
front_is {o} {w} p h = simp zero-add at (put_is p (omega arith))

pub front_take : {o : List ℕ} {w : List ℕ} {n : List ℕ} {r : ℕ} → Put o 0 w n r → length w ≤ length o → take r n ≡ w
front_take {o} {w} {n} {r} p h = rw (front_is p h) (take_at w (drop (length w) o) r (sym (front_ends p h)))

reach_least : (n at : ℕ) (w : List ℕ) → at ≤ reach n at w
unfolding reach
reach_least n at [] = omega arith
reach_least n at (b ∷ w) =
    elim (dec_lt at n) [
      | yes h ↦ rw lt-ltb (let g = reach_least n (suc at) w in omega arith)
      | no h ↦ let g : n ≤ at = omega arith in rw le-ltb (omega arith)
    ]

-- where there is room, a writer of no words stays, and a writer of some does not
pub put_stays : {o : List ℕ} {at : ℕ} {n : List ℕ} {r : ℕ} → Put o at [] n r → r ≡ at
unfolding reach
put_stays p = p.ends

pub put_moves : {o : List ℕ} {at b : ℕ} {w : List ℕ} {n : List ℕ} {r : ℕ} → at < length o → Put o at (b ∷ w) n r → at < r
unfolding reach
put_moves {o} {at} {b} {w} {n} {r} h p = let e = rw lt-ltb at p.ends in omega (arith, reach_least (length o) (suc at) w)

-- a writer that starts in the buffer ends in it
reach_most : (n at : ℕ) (w : List ℕ) → at ≤ n → reach n at w ≤ n
unfolding reach
reach_most n at [] h = h
reach_most n at (b ∷ w) h =
    elim (dec_lt at n) [
      | yes l ↦ rw lt-ltb (reach_most n (suc at) w (omega arith))
      | no l ↦ let g : n ≤ at = omega arith in rw le-ltb h
    ]

pub put_most : {o : List ℕ} {at : ℕ} {w : List ℕ} {n : List ℕ} {r : ℕ} → Put o at w n r → at ≤ length o → (r ≤ length o) × (r ≤ length n)
put_most {o} {at} {w} p h =
    let e = reach_most (length o) at w h in (rw p.ends e, rw (p.holds, put_length, p.ends) e)
