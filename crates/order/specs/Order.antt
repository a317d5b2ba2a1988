-- 01, "The record": the order and the equality of two records. Assumes nothing.
use Rattle.std.specs.Prelude.{ℕ, List, [], ◌∷◌, ◌++◌, Bool, true, false, cond, ◌&&◌, eqb, ltb}
use Rattle.record.specs.declared.ResTableConfig.{ResTableConfig}
use Rattle.record.specs.Table.{bit}
use Rattle.order.specs.declared.Ordering.{Ordering}

-- the order of two numbers
abbrev pub number_order : ℕ → ℕ → Ordering
number_order x y = cond (ltb x y) Ordering.Less (cond (ltb y x) Ordering.Greater Ordering.Equal)

-- the first order, and the second where the first is Equal
abbrev pub and_then : Ordering → Ordering → Ordering
and_then Ordering.Less o = Ordering.Less
and_then Ordering.Equal o = o
and_then Ordering.Greater o = Ordering.Greater

-- the order of two lists of numbers, number by number; a list that ends first is less
abbrev pub lex : List ℕ → List ℕ → Ordering
lex [] [] = Ordering.Equal
lex [] (y ∷ ys) = Ordering.Less
lex (x ∷ xs) [] = Ordering.Greater
lex (x ∷ xs) (y ∷ ys) = and_then (number_order x y) (lex xs ys)

-- whether two lists of numbers agree
abbrev pub agree : List ℕ → List ℕ → Bool
agree [] [] = true
agree [] (y ∷ ys) = false
agree (x ∷ xs) [] = false
agree (x ∷ xs) (y ∷ ys) = eqb x y && agree xs ys

-- the fields from locale_script on: arrays byte by byte, no before yes
abbrev pub later_key : ResTableConfig → List ℕ
later_key r =
    r.locale_script
    ++ (r.locale_variant ++ (r.screen_config_2 ∷ bit r.locale_script_was_computed ∷ (r.locale_numbering_system ++ r.end_padding)))

-- the fourteen fields after size, in table order: words as numbers
abbrev pub key : ResTableConfig → List ℕ
key r =
    r.imsi
    ∷ r.locale
    ∷ r.screen_type
    ∷ r.generic_purpose_field
    ∷ r.screen_size
    ∷ r.version
    ∷ r.screen_config
    ∷ r.screen_size_dp
    ∷ later_key r

-- the order of two records
unfoldable pub order_of : ResTableConfig → ResTableConfig → Ordering
order_of a b = lex (key a) (key b)

-- whether two records are equal: all fourteen fields agree
unfoldable pub equal_of : ResTableConfig → ResTableConfig → Bool
equal_of a b = agree (key a) (key b)

-- the number of an order
abbrev pub ordering_tells : Ordering → ℕ
ordering_tells Ordering.Less = 0
ordering_tells Ordering.Equal = 1
ordering_tells Ordering.Greater = 2
