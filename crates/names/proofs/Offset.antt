-- 11 carries the offset of the first part that ends no name of the grammar, exactly when there is one. Assumes nothing.
use Prim.Native.Nat.{ℕ, ◌+◌}
use mathlib.Core.Path.{◌≡◌, refl, sym, ap, subst, ◌∙◌}
use mathlib.Core.List.{List, [], ◌∷◌, ◌++◌, append_assoc}
use mathlib.Core.Bool.{Bool, true, false}
use native.Mathlib.Omega.{arith}
use lib.Dec.{eqb}
use lib.ListN.{length, get_or}
use borrow.Author.Tests.{eqb-true, eqb-false}
use Rattle.laws.proofs.Choice.{chosen_by}
use Rattle.answers.specs.declared.Refusal.{Refusal}
use Rattle.reading.specs.Reading.{ParseOutcome, parse_refused}
use Rattle.compare.specs.Compare.{up_to}
use Rattle.grammar.specs.Names.{with_dashes}
use Rattle.grammar.specs.Made.{made}
use Rattle.parts.specs.Recognised.{recognised}
use Rattle.names.specs.Reading.{in_first, parts_of, Read, may, step, read_parts, start, read_name}
use Rattle.names.specs.Named.{name_of}
use Rattle.names.specs.Claims.{InGrammar, offset_of, FirstAt, RefusedExactly}
use Rattle.names.proofs.Reading.{read_more, kept, read_all, step_bad, step_taken}
use Rattle.names.proofs.Accepted.{Going, not_both, AllPlain, apart, parts_some, read_named, named_going}

-- a part at which reading is refused
record Stop (next : ℕ) (vs : List ℕ) (at : ℕ) (ps : List (List ℕ)) (o : ℕ) : Type 0 where
  before : List (List ℕ)
  part : List ℕ
  after : List (List ℕ)
  parts : ps ≡ before ++ (part ∷ after)
  offset : o ≡ at + offset_of before
  ends : read_parts (Read.so_far next vs) at (before ++ (part ∷ [])) ≡ Read.refused o
  goes : Going (read_parts (Read.so_far next vs) at before)

-- the offset at which reading is refused
abbrev offset_in : Read → ℕ
offset_in (Read.so_far next vs) = 0
offset_in (Read.refused o) = o

-- where parts are refused, one of them is
stopped : (ps : List (List ℕ)) (next : ℕ) (vs : List ℕ) (at o : ℕ) → read_parts (Read.so_far next vs) at ps ≡ Read.refused o → Stop next vs at ps o
unfolding read_parts offset_of
stopped [] next vs at o h = not_both h (record { next = next; values = vs; is = refl })
stopped (p ∷ ps) next vs at o h = go (may next (recognised p)) refl (λ n us g. stopped ps n us (at + length p + 1) o g)
  where
    on : Read → Read
    on r = read_parts r (at + length p + 1) ps

    go : (b : Bool) → may next (recognised p) ≡ b
        → ((n : ℕ) (us : List ℕ) → read_parts (Read.so_far n us) (at + length p + 1) ps ≡ Read.refused o → Stop n us (at + length p + 1) ps o) → Stop next vs at (p ∷ ps) o
    go false m ih =
        let z = step_bad next vs at p m in
        let e : at ≡ o = ap offset_in (sym (ap on z ∙ kept at (at + length p + 1) ps) ∙ h) in
        record {
          before = [];
          part = p;
          after = ps;
          parts = refl;
          offset = omega arith;
          ends = read_more (Read.so_far next vs) at p [] ∙ z ∙ ap Read.refused e;
          goes = record { next = next; values = vs; is = refl };
        }
    go true m ih =
        let z = step_taken next vs at p m in
        let r = ih _ _ (sym (ap on z) ∙ h) in
        record {
          before = p ∷ r.before;
          part = r.part;
          after = r.after;
          parts = ap (λ (l : List (List ℕ)). p ∷ l) r.parts;
          offset = r.offset ∙ omega arith;
          ends = read_more (Read.so_far next vs) at p (r.before ++ (r.part ∷ [])) ∙ ap (λ (q : Read). read_parts q (at + length p + 1) (r.before ++ (r.part ∷ []))) z ∙ r.ends;
          goes = record {
            next = r.goes.next;
            values = r.goes.values;
            is = read_more (Read.so_far next vs) at p r.before ∙ ap (λ (q : Read). read_parts q (at + length p + 1) r.before) z ∙ r.goes.is;
          };
        }

-- what is refused stays so when more is read
refused_more : (qs rs : List (List ℕ)) (r : Read) (at o : ℕ) → read_parts r at qs ≡ Read.refused o → read_parts r at (qs ++ rs) ≡ Read.refused o
unfolding read_parts
refused_more [] rs r at o h = ap (λ (x : Read). read_parts x at rs) h ∙ kept o at rs
refused_more (q ∷ qs) rs r at o h = refused_more qs rs (step r at q) (at + length q + 1) o h

-- so a beginning of what goes on goes on
prefix : (qs rs : List (List ℕ)) (r : Read) (at : ℕ) → Going (read_parts r at (qs ++ rs)) → Going (read_parts r at qs)
prefix qs rs r at g = go (read_parts r at qs) refl
  where
    go : (x : Read) → read_parts r at qs ≡ x → Going (read_parts r at qs)
    go (Read.so_far n vs) h = record { next = n; values = vs; is = h }
    go (Read.refused o) h = not_both (refused_more qs rs r at o h) g

-- the parts of a name have no dash
first_plain : (b : ℕ) (ws : List (List ℕ)) → eqb b 45 ≡ false → AllPlain ws → AllPlain (in_first b ws)
unfolding up_to
first_plain b [] e a = (rw e, tt)
first_plain b (w ∷ ws) e a = (rw (e, a.0), a.1)

all_plain : (s : List ℕ) → AllPlain (parts_of s)
unfolding parts_of up_to
all_plain [] = (refl, tt)
all_plain (b ∷ s) = chosen_by AllPlain (eqb b 45) (λ e. (refl, all_plain s)) (λ e. first_plain b (parts_of s) e (all_plain s))

plain_left : (qs rs : List (List ℕ)) → AllPlain (qs ++ rs) → AllPlain qs
plain_left [] rs a = tt
plain_left (q ∷ qs) rs a = (a.0, plain_left qs rs a.1)

-- what begins with a byte that is no dash is read as its parts
first_byte : (b : ℕ) (w : List ℕ) (ws : List (List ℕ)) → (get_or (with_dashes ((b ∷ w) ∷ ws)) 0 0 ≡ b) × (length (with_dashes ((b ∷ w) ∷ ws)) ≡ 0 → ⊥)
unfolding with_dashes
first_byte b w [] = (refl, λ e. omega arith)
first_byte b w (v ∷ ws) = (refl, λ e. omega arith)

begun : (b : ℕ) (w : List ℕ) (ws : List (List ℕ)) → (b ≡ 45 → ⊥) → AllPlain ((b ∷ w) ∷ ws) → read_name (with_dashes ((b ∷ w) ∷ ws)) ≡ read_parts start 0 ((b ∷ w) ∷ ws)
begun b w ws h a =
    let f = first_byte b w ws in
    read_all (with_dashes ((b ∷ w) ∷ ws)) f.1 (λ e. h (sym f.0 ∙ e)) ∙ ap (read_parts start 0) (apart (b ∷ w) ws a)

-- the first part of a name that begins with no dash
record Head (b : ℕ) (ps : List (List ℕ)) : Type 0 where
  word : List ℕ
  rest : List (List ℕ)
  is : ps ≡ (b ∷ word) ∷ rest

head_of : (b : ℕ) (s : List ℕ) → eqb b 45 ≡ false → Head b (parts_of (b ∷ s))
unfolding parts_of
head_of b s e = rw e (go (parts_of s))
  where
    go : (ws : List (List ℕ)) → Head b (in_first b ws)
    go [] = record { word = []; rest = []; is = refl }
    go (w ∷ ws) = record { word = w; rest = ws; is = refl }

-- a beginning of such a name's parts is the empty name, or is read as its parts
begun_left : (b : ℕ) (qs rs : List (List ℕ)) (w : List ℕ) (ws : List (List ℕ)) → (b ≡ 45 → ⊥) → qs ++ rs ≡ (b ∷ w) ∷ ws → AllPlain (qs ++ rs)
    → read_name (with_dashes qs) ≡ read_parts start 0 qs
unfolding with_dashes read_name read_parts
begun_left b [] rs w ws h e a = refl
begun_left b (q ∷ qs) rs w ws h e a =
    let z : q ≡ b ∷ w = ap (λ (l : List (List ℕ)). get_or l 0 []) e in
    let p = plain_left (q ∷ qs) rs a in
    subst (λ (x : List ℕ). read_name (with_dashes (x ∷ qs)) ≡ read_parts start 0 (x ∷ qs)) (sym z) (begun b w qs h (rw z at p))

one_more : (ps : List (List ℕ)) (p : List ℕ) (qs : List (List ℕ)) → (ps ++ (p ∷ [])) ++ qs ≡ ps ++ (p ∷ qs)
one_more [] p qs = refl
one_more (w ∷ ps) p qs = ap (λ (l : List (List ℕ)). w ∷ l) (one_more ps p qs)

-- what goes on is in the grammar
in_grammar : (s : List ℕ) → Going (read_name s) → InGrammar s
in_grammar s g = record { stands = made g.values; named = read_named s g.next g.values g.is }

-- what is refused isn't
not_in_grammar : (s : List ℕ) (o : ℕ) → read_name s ≡ Read.refused o → InGrammar s → ⊥
not_in_grammar s o e g = not_both e (named_going s g.stands g.named)

-- a Going that is carried along an equation
carried : {x y : Read} → x ≡ y → Going y → Going x
carried e g = record { next = g.next; values = g.values; is = e ∙ g.is }

-- a name that begins with no dash
undashed : (b : ℕ) (s : List ℕ) (o : ℕ) → eqb b 45 ≡ false → read_parts start 0 (parts_of (b ∷ s)) ≡ Read.refused o → FirstAt (b ∷ s) o
undashed b s o e h =
    let k = stopped (parts_of (b ∷ s)) 0 _ 0 o h in
    let d = head_of b s e in
    let n = eqb-false b 45 e in
    let upto : List (List ℕ) = k.before ++ (k.part ∷ []) in
    let whole : upto ++ k.after ≡ (b ∷ d.word) ∷ d.rest = one_more k.before k.part k.after ∙ sym k.parts ∙ d.is in
    let plain : AllPlain (upto ++ k.after) = rw (one_more k.before k.part k.after, ← k.parts) (all_plain (b ∷ s)) in
    record {
      before = k.before;
      part = k.part;
      after = k.after;
      parts = k.parts;
      offset = k.offset ∙ omega arith;
      ends = not_in_grammar (with_dashes upto) o (begun_left b upto k.after d.word d.rest n whole plain ∙ k.ends);
      first = λ qs rs g.
          let left : List (List ℕ) = rs ++ (k.part ∷ k.after) in
          let all : qs ++ left ≡ (b ∷ d.word) ∷ d.rest =
          sym (append_assoc qs rs (k.part ∷ k.after)) ∙ ap (λ (l : List (List ℕ)). l ++ (k.part ∷ k.after)) (sym g) ∙ sym k.parts ∙ d.is in
          let free : AllPlain (qs ++ left) = subst (λ (l : List (List ℕ)). AllPlain l) (d.is ∙ sym all) (all_plain (b ∷ s)) in
          in_grammar (with_dashes qs) (carried (begun_left b qs left d.word d.rest n all free) (prefix qs rs start 0 (rw g at k.goes)));
    }

-- the empty name is in the grammar, and is all that stands before the first dash of a name that begins with one
lone : (qs rs : List (List ℕ)) → [] ∷ [] ≡ qs ++ rs → InGrammar (with_dashes qs)
unfolding with_dashes read_name
lone [] rs e = in_grammar [] (record { next = 0; values = _; is = refl })
lone (w ∷ []) rs e = let z : w ≡ [] = sym (ap (λ (l : List (List ℕ)). get_or l 0 []) e) in rw z (in_grammar [] (record { next = 0; values = _; is = refl }))
lone (w ∷ v ∷ ws) rs e = absurd (omega (arith, ap length e))

dashed : (s : List ℕ) (ws : List (List ℕ)) → parts_of s ≡ ws → FirstAt (45 ∷ s) 1
unfolding parts_of with_dashes read_name offset_of
dashed s [] e = absurd (parts_some s e)
dashed s (q ∷ qs) e =
    record {
      before = [] ∷ [];
      part = q;
      after = qs;
      parts = ap (λ (l : List (List ℕ)). [] ∷ l) e;
      offset = refl;
      ends = not_in_grammar (45 ∷ q) 1 refl;
      first = λ ps rs g. lone ps rs g;
    }

-- a refused name is refused at the first part that ends no name
pub first_at : (s : List ℕ) (o : ℕ) → read_name s ≡ Read.refused o → FirstAt s o
unfolding read_name
first_at [] o = λ h. not_both h (record { next = 0; values = _; is = refl })
first_at (b ∷ s) o =
    chosen_by (λ (x : Read). x ≡ Read.refused o → FirstAt (b ∷ s) o) (eqb b 45)
    (λ t g. let z = eqb-true b 45 t in let y : 1 ≡ o = ap offset_in g in rw (z, ← y) (dashed s (parts_of s) refl)) (λ t g. undashed b s o t g)

-- two places in one list: the same, or one before the other
data Either (b : List (List ℕ)) (p : List ℕ) (c : List (List ℕ)) (q : List ℕ) : Type 0 where
  same_place : b ≡ c → Either b p c q
  earlier : (rs : List (List ℕ)) → c ≡ (b ++ (p ∷ [])) ++ rs → Either b p c q
  later : (rs : List (List ℕ)) → b ≡ (c ++ (q ∷ [])) ++ rs → Either b p c q

either : (b : List (List ℕ)) (p : List ℕ) (a c : List (List ℕ)) (q : List ℕ) (d : List (List ℕ)) → b ++ (p ∷ a) ≡ c ++ (q ∷ d) → Either b p c q
either [] p a [] q d e = Either.same_place refl
either [] p a (w ∷ c) q d e = Either.earlier c (ap (λ (l : List (List ℕ)). get_or l 0 [] ∷ c) (sym e))
either (v ∷ b) p a [] q d e = Either.later b (ap (λ (l : List (List ℕ)). get_or l 0 [] ∷ b) e)
either (v ∷ b) p a (w ∷ c) q d e = on (either b p a c q d (ap tail e)) (ap (λ (l : List (List ℕ)). get_or l 0 []) e)
  where
    tail : List (List ℕ) → List (List ℕ)
    tail [] = []
    tail (x ∷ l) = l

    on : Either b p c q → v ≡ w → Either (v ∷ b) p (w ∷ c) q
    on (Either.same_place h) z = Either.same_place (rw (z, h))
    on (Either.earlier rs h) z = Either.earlier rs (rw (z, h))
    on (Either.later rs h) z = Either.later rs (rw (z, h))

-- there is one such part
one_first : (s : List ℕ) (o u : ℕ) → FirstAt s o → FirstAt s u → o ≡ u
one_first s o u f g = go (either f.before f.part f.after g.before g.part g.after (sym f.parts ∙ g.parts))
  where
    go : Either f.before f.part g.before g.part → o ≡ u
    go (Either.same_place h) = f.offset ∙ ap offset_of h ∙ sym g.offset
    go (Either.earlier rs h) = absurd (f.ends (g.first (f.before ++ (f.part ∷ [])) rs h))
    go (Either.later rs h) = absurd (g.ends (f.first (g.before ++ (g.part ∷ [])) rs h))

-- a name of the grammar has no such part
going_first : (s : List ℕ) (o : ℕ) → Going (read_name s) → FirstAt s o → ⊥
unfolding read_name parts_of with_dashes
going_first [] o = λ g f. empty f.before f.part f.after f.parts f.ends
  where
    empty : (b : List (List ℕ)) (p : List ℕ) (a : List (List ℕ)) → [] ∷ [] ≡ b ++ (p ∷ a) → (InGrammar (with_dashes (b ++ (p ∷ []))) → ⊥) → ⊥
    empty [] p a e n = let z : p ≡ [] = sym (ap (λ (l : List (List ℕ)). get_or l 0 []) e) in n (rw z (in_grammar [] (record { next = 0; values = _; is = refl })))
    empty (w ∷ []) p a e n = omega (arith, ap length e)
    empty (w ∷ v ∷ b) p a e n = omega (arith, ap length e)
going_first (b ∷ s) o =
    chosen_by (λ (x : Read). Going x → FirstAt (b ∷ s) o → ⊥) (eqb b 45)
    (λ t g f. not_both refl g)
    (λ t g f.
    let upto : List (List ℕ) = f.before ++ (f.part ∷ []) in
    let d = head_of b s t in
    let all : upto ++ f.after ≡ parts_of (b ∷ s) = one_more f.before f.part f.after ∙ sym f.parts in
    let free : AllPlain (upto ++ f.after) = rw all (all_plain (b ∷ s)) in
    let on : Going (read_parts start 0 (upto ++ f.after)) = rw all g in
    f.ends (in_grammar (with_dashes upto) (carried (begun_left b upto f.after d.word d.rest (eqb-false b 45 t) (all ∙ d.is) free) (prefix upto f.after start 0 on))))

-- 11 comes at an offset exactly when that is where the first such part is
pub refused_exactly : RefusedExactly
refused_exactly s o = (forth, back)
  where
    forth : name_of s ≡ parse_refused (Refusal.NotAName o) → FirstAt s o
    forth e = by (read_name s) refl
      where
        by : (x : Read) → read_name s ≡ x → FirstAt s o
        by (Read.so_far n vs) h = absurd (omega (arith, ap (λ (x : ParseOutcome). x.tells.number) (rw h at e)))
        by (Read.refused u) h = let z : u ≡ o = ap (λ (x : ParseOutcome). x.tells.carried) (rw h at e) in first_at s o (h ∙ ap Read.refused z)

    back : FirstAt s o → name_of s ≡ parse_refused (Refusal.NotAName o)
    back f = by (read_name s) refl
      where
        by : (x : Read) → read_name s ≡ x → name_of s ≡ parse_refused (Refusal.NotAName o)
        by (Read.so_far n vs) h = absurd (going_first s o (record { next = n; values = vs; is = h }) f)
        by (Read.refused u) h = let z : u ≡ o = one_first s u o (first_at s u h) f in rw (h, z)
