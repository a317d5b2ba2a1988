-- When a chunk is refused with 9, and when with 10. Assumes nothing.
use Prim.Native.Nat.{ℕ, ◌<◌}
use mathlib.Core.Path.{◌≡◌, refl, sym}
use mathlib.Core.Bool.{Bool, true, false, ◌||◌, true≢false}
use mathlib.Core.List.{List, [], ◌∷◌}
use mathlib.Core.Logic.{◌⊎◌, inl, inr}
use lib.Dec.{T, ltb}
use lib.ListN.{length}
use borrow.Author.Tests.{ltb-true, ltb-false, lt-ltb, le-ltb, eqb-true, eqb-false, eq-eqb, ne_eqb, not-true, not-false}
use Rattle.answers.specs.declared.Refusal.{Refusal}
use Rattle.answers.proofs.Exactly.{absent, refusal_exactly}
use Rattle.reading.specs.Reading.{size_of}
use Rattle.reading.specs.Demand1.{fewer_than16, fewer_than_size}
use Rattle.reading.proofs.Cut.{by_lacking}
use Rattle.chunk.specs.Chunk.{type_of, header_size, chunk_size, record_part, chunk_take}
use Rattle.chunk.specs.Demand1.{fewer_than20, other_type, sizes_wrong, OtherTypeRefused, SizesRefused}
use Rattle.chunk.proofs.Exactly.{take_exactly}

-- one of three tests holds
one_of_three : (a b c : Bool) → (a || b || c) ≡ true → (a ≡ true) ⊎ (b ≡ true) ⊎ (c ≡ true)
one_of_three true b c e = inl refl
one_of_three false true c e = inr (inl refl)
one_of_three false false true e = inr (inr refl)
one_of_three false false false e = absurd (true≢false (sym e))

three_of_one : (a b c : Bool) → (a ≡ true) ⊎ (b ≡ true) ⊎ (c ≡ true) → (a || b || c) ≡ true
three_of_one true b c h = refl
three_of_one false true c h = refl
three_of_one false false true h = refl
three_of_one false false false (inl h) = h
three_of_one false false false (inr (inl h)) = h
three_of_one false false false (inr (inr h)) = h

module _ (s : List ℕ) where
  -- the record is refused with neither of the head's own numbers
  no_nine : T (absent Refusal.WrongType (sizes_wrong s ∷ fewer_than16 (record_part s) ∷ fewer_than_size (record_part s) ∷ []))
  no_nine =
      by_lacking (length (record_part s)) (size_of (record_part s))
      (λ why. T (absent Refusal.WrongType (sizes_wrong s ∷ fewer_than16 (record_part s) ∷ record { holds = ltb (length (record_part s)) (size_of (record_part s)); why = why } ∷ [])))
      (λ f h. tt) tt

  no_ten : T (absent Refusal.WrongSizes (fewer_than16 (record_part s) ∷ fewer_than_size (record_part s) ∷ []))
  no_ten =
      by_lacking (length (record_part s)) (size_of (record_part s))
      (λ why. T (absent Refusal.WrongSizes (fewer_than16 (record_part s) ∷ record { holds = ltb (length (record_part s)) (size_of (record_part s)); why = why } ∷ [])))
      (λ f h. tt) tt

  pub nine_exactly : OtherTypeRefused s
  nine_exactly =
      let e = refusal_exactly (other_type s) (sizes_wrong s ∷ fewer_than16 (record_part s) ∷ fewer_than_size (record_part s) ∷ []) no_nine
      (fewer_than20 s ∷ []) tt (chunk_take s) (take_exactly s) in (
        (λ q. let h = e.0 q in (ltb-false (length s) 20 h.0.0, eqb-false (type_of s) 0x0201 (not-true _ h.1))),
        (λ h. e.1 ((le-ltb (length s) 20 h.0, tt), rw (ne_eqb (type_of s) 0x0201 h.1))),
      )

  pub ten_exactly : SizesRefused s
  ten_exactly =
      let e = refusal_exactly (sizes_wrong s) (fewer_than16 (record_part s) ∷ fewer_than_size (record_part s) ∷ []) no_ten
      (fewer_than20 s ∷ other_type s ∷ []) tt (chunk_take s) (take_exactly s) in (
        (λ q.
            let h = e.0 q in
            (ltb-false (length s) 20 h.0.0, eqb-true (type_of s) 0x0201 (not-false _ h.0.1.0), less (one_of_three _ _ _ h.1))),
        (λ h. e.1 ((le-ltb (length s) 20 h.0, (rw (eq-eqb (type_of s) 0x0201 h.1), tt)), three_of_one _ _ _ (tests h.2))),
      ) where
        less : (ltb (header_size s) 20 ≡ true) ⊎ (ltb (chunk_size s) (header_size s) ≡ true) ⊎ (ltb (length s) (chunk_size s) ≡ true)
            → (header_size s < 20) ⊎ (chunk_size s < header_size s) ⊎ (length s < chunk_size s)
        less (inl h) = inl (ltb-true _ _ h)
        less (inr (inl h)) = inr (inl (ltb-true _ _ h))
        less (inr (inr h)) = inr (inr (ltb-true _ _ h))

        tests : (header_size s < 20) ⊎ (chunk_size s < header_size s) ⊎ (length s < chunk_size s)
            → (ltb (header_size s) 20 ≡ true) ⊎ (ltb (chunk_size s) (header_size s) ≡ true) ⊎ (ltb (length s) (chunk_size s) ≡ true)
        tests (inl h) = inl (lt-ltb _ _ h)
        tests (inr (inl h)) = inr (inl (lt-ltb _ _ h))
        tests (inr (inr h)) = inr (inr (lt-ltb _ _ h))
