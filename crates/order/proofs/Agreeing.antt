-- What the keys of two records say: size never counts, and one key means that all fourteen fields agree. Assumes nothing.
use Prim.Native.Nat.{ℕ}
use mathlib.Core.Path.{◌≡◌, refl, sym}
use mathlib.Core.Bool.{Bool, true, false}
use mathlib.Core.List.{List, [], ◌∷◌, ◌++◌}
use native.Mathlib.Omega.{arith}
use lib.ListN.{length}
use Rattle.laws.proofs.Tests.{clash}
use Rattle.record.specs.Table.{bit}
use Rattle.order.specs.Order.{key, order_of, equal_of}
use Rattle.record.specs.declared.ResTableConfig.{ResTableConfig}
use Rattle.record.specs.Blank.{with_size}
use Rattle.order.specs.Total.{SameLengths, Agreeing, EqualWhenAgreeing}
use Rattle.order.proofs.Total.{equal_keys, keys_equal}

-- size never counts in the order
pub size_order : (a b : ResTableConfig) (m n : ℕ) → order_of (with_size a m) (with_size b n) ≡ order_of a b
unfolding order_of
size_order a b m n = refl

-- nor in the equality
pub size_equal : (a b : ResTableConfig) (m n : ℕ) → equal_of (with_size a m) (with_size b n) ≡ equal_of a b
unfolding equal_of
size_equal a b m n = refl

parted : (u v s t : List ℕ) → length u ≡ length v → u ++ s ≡ v ++ t → (u ≡ v) × (s ≡ t)
parted [] [] s t h e = (refl, e)
parted [] (c ∷ v) s t h e = absurd (omega arith)
parted (b ∷ u) [] s t h e = absurd (omega arith)
parted (b ∷ u) (c ∷ v) s t h e =
    let g : length u ≡ length v = omega arith in
    let k : u ++ s ≡ v ++ t = cc in
    let m : b ≡ c = cc in
    let p = parted u v s t g k in
    let q : u ≡ v = p.0 in
    (cc, p.1)

bit_one : (b c : Bool) → bit b ≡ bit c → b ≡ c
bit_one true true e = refl
bit_one false false e = refl
bit_one true false e = clash (sym e)
bit_one false true e = clash e

tail_one : {x y : ℕ} {s t : List ℕ} → x ∷ s ≡ y ∷ t → (x ≡ y) × (s ≡ t)
tail_one e = (cc, cc)

-- one key, all fourteen fields
pub keys_agree : (a b : ResTableConfig) → SameLengths a b → key a ≡ key b → Agreeing a b
keys_agree a b l e =
    let k1 = tail_one e in
    let k2 = tail_one k1.1 in
    let k3 = tail_one k2.1 in
    let k4 = tail_one k3.1 in
    let k5 = tail_one k4.1 in
    let k6 = tail_one k5.1 in
    let k7 = tail_one k6.1 in
    let k8 = tail_one k7.1 in
    let k9 = parted a.locale_script b.locale_script _ _ l.scripts k8.1 in
    let k10 = parted a.locale_variant b.locale_variant _ _ l.variants k9.1 in
    let k11 = tail_one k10.1 in
    let k12 = tail_one k11.1 in
    let k13 = parted a.locale_numbering_system b.locale_numbering_system _ _ l.numberings k12.1 in
    record {
      imsi = k1.0;
      locale = k2.0;
      screen_type = k3.0;
      generic_purpose_field = k4.0;
      screen_size = k5.0;
      version = k6.0;
      screen_config = k7.0;
      screen_size_dp = k8.0;
      locale_script = k9.0;
      locale_variant = k10.0;
      screen_config_2 = k11.0;
      locale_script_was_computed = bit_one a.locale_script_was_computed b.locale_script_was_computed k12.0;
      locale_numbering_system = k13.0;
      end_padding = k13.1;
    }

-- and all fourteen fields, one key
pub agree_keys : (a b : ResTableConfig) → Agreeing a b → key a ≡ key b
agree_keys a b e = cc

-- Equal exactly when all fourteen fields agree
pub equal_exactly : (a b : ResTableConfig) → EqualWhenAgreeing a b
equal_exactly a b l = ((λ e. keys_agree a b l (equal_keys a b e)), (λ e. keys_equal a b (agree_keys a b e)))
