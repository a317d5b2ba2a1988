-- The text of said places is their words joined. Assumes nothing.
use Prim.Native.Nat.{ℕ, ◌≤◌}
use mathlib.Core.Path.{◌≡◌, refl, ap, ◌∙◌}
use mathlib.Core.Bool.{true, false, true≢false}
use mathlib.Core.List.{List, [], ◌∷◌, ◌++◌, append_assoc}
use native.Mathlib.Omega.{arith}
use lib.ListN.{length}
use Rattle.laws.proofs.Lists.{Each}
use Rattle.buffer.specs.Ascii.{ascii}
use Rattle.places.specs.Say.{Place, dash_after, say, say_all}
use Rattle.grammar.specs.Names.{with_dashes}

-- the words of those places that are said
unfoldable pub said_words : List Place → List (List ℕ)
said_words [] = []
said_words ((true, w) ∷ ps) = w ∷ said_words ps
said_words ((false, w) ∷ ps) = said_words ps

-- none of some words is empty
abbrev pub Filled : List (List ℕ) → Type 0
Filled ws = Each (λ w. 1 ≤ length w) ws

-- two words that a dash joins are as good as one
glue : (u w : List ℕ) (ws : List (List ℕ)) → with_dashes ((u ++ (ascii "-" ++ w)) ∷ ws) ≡ with_dashes (u ∷ w ∷ ws)
unfolding with_dashes
glue u w [] = refl
glue u w (v ∷ ws) = append_assoc u (ascii "-" ++ w) (ascii "-" ++ with_dashes (v ∷ ws))

-- a text that isn't empty goes on with a dash
tail_said : (ps : List Place) (b : ℕ) (t : List ℕ) → say_all (b ∷ t) ps ≡ with_dashes ((b ∷ t) ∷ said_words ps)
unfolding say_all say dash_after said_words with_dashes
tail_said [] b t = refl
tail_said ((false, w) ∷ ps) b t = tail_said ps b t
tail_said ((true, w) ∷ ps) b t =
    tail_said ps b ((t ++ ascii "-") ++ w)
    ∙ ap (λ (l : List ℕ). with_dashes ((b ∷ l) ∷ said_words ps)) (append_assoc t (ascii "-") w)
    ∙ glue (b ∷ t) w (said_words ps)

-- the text is the said words joined
pub text_said : (ps : List Place) → Filled (said_words ps) → say_all [] ps ≡ with_dashes (said_words ps)
unfolding say_all say dash_after said_words with_dashes
text_said [] f = refl
text_said ((false, w) ∷ ps) f = text_said ps f
text_said ((true, []) ∷ ps) f = absurd (omega (arith, f.0))
text_said ((true, b ∷ w) ∷ ps) f = tail_said ps b w

-- a place that isn't said adds no words
pub say_silent : (x : Place) (ps : List Place) → x.0 ≡ false → said_words (x ∷ ps) ≡ said_words ps
unfolding said_words
say_silent (true, w) ps e = absurd (true≢false e)
say_silent (false, w) ps e = refl

-- one that is said adds its own
pub say_said : (x : Place) (w : List ℕ) (ps : List Place) → x ≡ (true, w) → said_words (x ∷ ps) ≡ w ∷ said_words ps
unfolding said_words
say_said x w ps e = ap (λ (y : Place). said_words (y ∷ ps)) e
