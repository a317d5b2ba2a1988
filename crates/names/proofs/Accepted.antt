-- A name is accepted exactly when the grammar has it, with the grammar's record. Assumes nothing.
use Prim.Native.Nat.{ℕ, suc, ◌+◌, ◌≤◌}
use mathlib.Core.Path.{◌≡◌, refl, sym, ap, ◌∙◌}
use mathlib.Core.List.{List, [], ◌∷◌, ◌++◌}
use mathlib.Core.Bool.{Bool, true, false, cond, not}
use native.Mathlib.Omega.{arith}
use lib.Dec.{eqb, leb}
use lib.ListN.{length, get_or, drop, set, length-append}
use lib.Seq.{take-append_seam}
use borrow.Author.Tests.{eqb-true, eqb-false, leb-true, ne_eqb, le-leb}
use Rattle.laws.proofs.Choice.{chosen_by}
use Rattle.laws.proofs.Tests.{and_both}
use Rattle.record.specs.declared.ResTableConfig.{ResTableConfig}
use Rattle.reading.specs.Reading.{ParseOutcome, parse_took}
use Rattle.grammar.specs.Slots as slot
use Rattle.grammar.specs.Made.{made}
use Rattle.grammar.specs.Names.{Part, Follows, Rising, with_dashes, part_bytes, values_after, unnamed_values, Named}
use Rattle.grammar.proofs.Sized.{NoDash, sized}
use Rattle.compare.specs.Compare.{up_to}
use Rattle.compare.proofs.Compare.{up_past}
use Rattle.parts.specs.declared.Found.{Found}
use Rattle.parts.specs.Recognised.{recognised, in_slot}
use Rattle.names.specs.Reading.{in_first, parts_of, Read, may, read_parts, start, read_name}
use Rattle.names.specs.Named.{name_of}
use Rattle.names.specs.Claims.{AcceptedExactly, OneRecord}
use Rattle.names.proofs.Exact.{sound, complete}
use Rattle.names.proofs.Reading.{read_more, kept, parts_last, parts_first, read_all, step_bad, step_taken, may_value, name_read}

-- what may stand somewhere follows there
may_follow : (next : ℕ) (f : Found) → may next f ≡ true → Follows next f.slot
unfolding may
may_follow next f e =
    let q = and_both {a = not (eqb f.value 0)} {b = cond (eqb f.slot slot.region) (eqb next slot.region) (leb next f.slot)} e in
    chosen_by (λ (b : Bool). b ≡ true → Follows next f.slot) (eqb f.slot slot.region)
    (λ t g. both f.slot next (eqb-true _ _ t) (eqb-true _ _ g))
    (λ t g. Follows.later (eqb-false _ _ t) (leb-true _ _ g)) q.1
  where
    both : (s next : ℕ) → s ≡ slot.region → next ≡ slot.region → Follows next s
    both s next e f = rw (e, f) Follows.region

-- and what follows may stand there
follow_may : (next s v : ℕ) → 1 ≤ v → Follows next s → may next (in_slot s v) ≡ true
unfolding may
follow_may next s v h Follows.region = rw (ne_eqb v 0 (λ e. omega arith))
follow_may next s v h (Follows.later f l) = rw (ne_eqb v 0 (λ e. omega arith), ne_eqb s slot.region f, le-leb next s l)

-- reading went on to the values ws
pub record Going (r : Read) : Type 0 where
  pub next : ℕ
  pub values : List ℕ
  pub is : r ≡ Read.so_far next values

-- what is refused didn't go on
pub not_both : {A : Type 0} {r : Read} {o : ℕ} → r ≡ Read.refused o → Going r → A
not_both e g = let z : ◌≡◌ {A = ℕ} 0 1 = ap mark (sym g.is ∙ e) in absurd (omega arith)
  where
    mark : Read → ℕ
    mark (Read.so_far next vs) = 0
    mark (Read.refused o) = 1

-- the grammar's parts, of what was read
record Parts (next : ℕ) (vs : List ℕ) (ps : List (List ℕ)) (ws : List ℕ) : Type 0 where
  parts : List Part
  rising : Rising next parts
  bytes : ps ≡ part_bytes parts
  values : ws ≡ values_after vs parts

-- the values that were read
abbrev values_in : Read → List ℕ
values_in (Read.so_far next vs) = vs
values_in (Read.refused o) = []

-- what is read to the end is of the grammar
read_sound : (ps : List (List ℕ)) (next : ℕ) (vs : List ℕ) (at n : ℕ) (ws : List ℕ) → read_parts (Read.so_far next vs) at ps ≡ Read.so_far n ws → Parts next vs ps ws
unfolding read_parts
read_sound [] next vs at n ws h = record { parts = []; rising = Rising.end; bytes = refl; values = sym (ap values_in h) }
read_sound (p ∷ ps) next vs at n ws h = go (may next (recognised p)) refl (λ m us g. read_sound ps m us (at + length p + 1) n ws g)
  where
    go : (b : Bool) → may next (recognised p) ≡ b
        → ((m : ℕ) (us : List ℕ) → read_parts (Read.so_far m us) (at + length p + 1) ps ≡ Read.so_far n ws → Parts m us ps ws) → Parts next vs (p ∷ ps) ws
    go false m ih =
        let k = sym (ap (λ (r : Read). read_parts r (at + length p + 1) ps) (step_bad next vs at p m) ∙ kept at (at + length p + 1) ps) in
        not_both refl (record { next = n; values = ws; is = k ∙ h })
    go true m ih =
        let f = recognised p in
        let z = step_taken next vs at p m in
        let r = ih _ _ (sym (ap (λ (r : Read). read_parts r (at + length p + 1) ps) z) ∙ h) in
        record {
          parts = record { slot = f.slot; value = f.value; bytes = p; has = sound p (may_value next f m) } ∷ r.parts;
          rising = Rising.then (may_follow next f m) r.rising;
          bytes = ap (λ (l : List (List ℕ)). p ∷ l) r.bytes;
          values = r.values;
        }

-- reading comes to the values ws
record Comes (r : Read) (ws : List ℕ) : Type 0 where
  next : ℕ
  is : r ≡ Read.so_far next ws

-- the grammar's parts are read to the end
read_complete : (cs : List Part) (next : ℕ) (vs : List ℕ) (at : ℕ) → Rising next cs → Comes (read_parts (Read.so_far next vs) at (part_bytes cs)) (values_after vs cs)
unfolding read_parts
read_complete [] next vs at r = record { next = next; is = refl }
read_complete (c ∷ cs) next vs at (Rising.then f r) =
    let g = complete c.has in
    let m : may next (recognised c.bytes) ≡ true = rw g (follow_may next c.slot c.value (sized c.has).valued f) in
    let z = step_taken next vs at c.bytes m in
    rw (read_more (Read.so_far next vs) at c.bytes (part_bytes cs), z, g) (read_complete cs (suc c.slot) (set vs c.slot c.value) (at + length c.bytes + 1) r)

-- a byte in front of joined parts
joined_first : (b : ℕ) (ws : List (List ℕ)) → with_dashes (in_first b ws) ≡ b ∷ with_dashes ws
unfolding with_dashes
joined_first b [] = refl
joined_first b (w ∷ []) = refl
joined_first b (w ∷ v ∷ ws) = refl

joined_dash : (ws : List (List ℕ)) → (ws ≡ [] → ⊥) → with_dashes ([] ∷ ws) ≡ 45 ∷ with_dashes ws
unfolding with_dashes
joined_dash [] h = absurd (h refl)
joined_dash (w ∷ ws) h = refl

-- there is always a part
pub parts_some : (s : List ℕ) → parts_of s ≡ [] → ⊥
unfolding parts_of
parts_some [] = λ e. omega (arith, ap length e)
parts_some (b ∷ s) =
    chosen_by (λ (x : List (List ℕ)). x ≡ [] → ⊥) (eqb b 45) (λ t e. omega (arith, ap length e)) (λ t e. some (parts_of s) e)
  where
    some : (ws : List (List ℕ)) → in_first b ws ≡ [] → ⊥
    some [] e = omega (arith, ap length e)
    some (w ∷ ws) e = omega (arith, ap length e)

-- a name is its parts, joined
pub joined_parts : (s : List ℕ) → with_dashes (parts_of s) ≡ s
unfolding parts_of with_dashes
joined_parts [] = refl
joined_parts (b ∷ s) =
    chosen_by (λ (x : List (List ℕ)). with_dashes x ≡ b ∷ s) (eqb b 45)
    (λ t. joined_dash (parts_of s) (parts_some s) ∙ rw (joined_parts s, ← eqb-true b 45 t))
    (λ t. joined_first b (parts_of s) ∙ rw (joined_parts s))

-- what has no dash
pub no_dash_up : (w : List ℕ) → NoDash w → up_to 45 w ≡ length w
unfolding up_to
no_dash_up [] h = refl
no_dash_up (b ∷ w) h = rw (ne_eqb b 45 h.0, no_dash_up w h.1)

-- and a dash behind it
pub up_dash : (w t : List ℕ) → up_to 45 w ≡ length w → up_to 45 (w ++ 45 ∷ t) ≡ length w
unfolding up_to
up_dash w t e = up_past 45 w (45 ∷ t) e ∙ omega arith

pub behind_dash : (w t : List ℕ) → drop (suc (length w)) (w ++ 45 ∷ t) ≡ t
behind_dash [] t = refl
behind_dash (a ∷ w) t = behind_dash w t

-- parts that have no dash
abbrev pub AllPlain : List (List ℕ) → Type 0
AllPlain [] = Unit {0}
AllPlain (w ∷ ws) = (up_to 45 w ≡ length w) × AllPlain ws

-- come apart again, when they are joined
pub apart : (w : List ℕ) (ws : List (List ℕ)) → AllPlain (w ∷ ws) → parts_of (with_dashes (w ∷ ws)) ≡ w ∷ ws
unfolding with_dashes
apart w [] a = parts_last w (omega (arith, a.0))
apart w (v ∷ ws) a =
    let t = with_dashes (v ∷ ws) in
    let u = up_dash w t a.0 in
    parts_first (w ++ 45 ∷ t) (omega (arith, u, length-append w (45 ∷ t)))
    ∙ rw (u, take-append_seam w (45 ∷ t), behind_dash w t, apart v ws a.1)

-- the grammar's parts have none
plain_parts : (cs : List Part) → AllPlain (part_bytes cs)
plain_parts [] = tt
plain_parts (c ∷ cs) = (no_dash_up c.bytes (sized c.has).undashed, plain_parts cs)

-- what is joined begins as its first part does
first_joined : (w : List ℕ) (ws : List (List ℕ)) → 1 ≤ length w → (1 ≤ length (with_dashes (w ∷ ws))) × (get_or (with_dashes (w ∷ ws)) 0 0 ≡ get_or w 0 0)
unfolding with_dashes
first_joined [] ws h = absurd (omega arith)
first_joined (a ∷ w) [] h = (omega arith, refl)
first_joined (a ∷ w) (v ∷ ws) h = (omega arith, refl)

first_plain : (w : List ℕ) → 1 ≤ length w → NoDash w → get_or w 0 0 ≡ 45 → ⊥
first_plain [] h n = λ e. omega arith
first_plain (a ∷ w) h n = n.0

-- a name of the grammar is read to the end
accepted_by : (cs : List Part) → Rising 0 cs → Comes (read_name (with_dashes (part_bytes cs))) (values_after unnamed_values cs)
unfolding with_dashes read_name
accepted_by [] r = record { next = 0; is = refl }
accepted_by (c ∷ cs) r =
    let s = with_dashes (part_bytes (c ∷ cs)) in
    let z = sized c.has in
    let f = first_joined c.bytes (part_bytes cs) z.some in
    let e : read_name s ≡ read_parts start 0 (part_bytes (c ∷ cs)) =
    read_all s (λ g. omega (arith, f.0)) (λ g. first_plain c.bytes z.some z.undashed (sym f.1 ∙ g))
    ∙ ap (read_parts start 0) (apart c.bytes (part_bytes cs) (plain_parts (c ∷ cs))) in
    rw e (read_complete (c ∷ cs) 0 unnamed_values 0 r)

-- what is read to the end is a name of the grammar
pub read_named : (s : List ℕ) (n : ℕ) (vs : List ℕ) → read_name s ≡ Read.so_far n vs → Named s (made vs)
unfolding read_name with_dashes
read_named [] n vs = λ h. record { parts = []; rising = Rising.end; bytes = refl; stands = ap (λ (r : Read). made (values_in r)) (sym h) }
read_named (b ∷ s) n vs =
    chosen_by (λ (x : Read). x ≡ Read.so_far n vs → Named (b ∷ s) (made vs)) (eqb b 45)
    (λ t g. not_both refl (record { next = n; values = vs; is = g }))
    (λ t g.
    let r = read_sound (parts_of (b ∷ s)) 0 unnamed_values 0 n vs g in
    record { parts = r.parts; rising = r.rising; bytes = sym (joined_parts (b ∷ s)) ∙ ap with_dashes r.bytes; stands = ap made r.values })

-- a name of the grammar gives its record
pub named_read : (s : List ℕ) (r : ResTableConfig) → Named s r → name_of s ≡ parse_took (length s) r
named_read s r n =
    let c = accepted_by n.parts n.rising in
    let e : read_name s ≡ Read.so_far c.next (values_after unnamed_values n.parts) = ap read_name n.bytes ∙ c.is in
    sym (name_read s c.next (values_after unnamed_values n.parts) e) ∙ rw (← n.stands)

-- and is read to the end
pub named_going : (s : List ℕ) (r : ResTableConfig) → Named s r → Going (read_name s)
named_going s r n = let c = accepted_by n.parts n.rising in record { next = c.next; values = values_after unnamed_values n.parts; is = ap read_name n.bytes ∙ c.is }

-- what gives a record is a name of the grammar
read_back : (s : List ℕ) (r : ResTableConfig) → name_of s ≡ parse_took (length s) r → Named s r
read_back s r e = go (read_name s) refl
  where
    go : (x : Read) → read_name s ≡ x → Named s r
    go (Read.so_far n vs) h =
        let g : made vs ≡ r = ap (λ (o : ParseOutcome). o.gives) (rw h at e) in
        let m = read_named s n vs h in
        record { parts = m.parts; rising = m.rising; bytes = m.bytes; stands = sym g ∙ m.stands }
    go (Read.refused o) h = absurd (omega (arith, ap (λ (x : ParseOutcome). x.tells.number) (rw h at e)))

-- accepted exactly when the grammar has the name
pub accepted_exactly : AcceptedExactly
accepted_exactly s r = (read_back s r, named_read s r)

-- so no name stands for two records
pub one_record : OneRecord
one_record s r q n m = ap (λ (o : ParseOutcome). o.gives) (sym (named_read s r n) ∙ named_read s q m)
