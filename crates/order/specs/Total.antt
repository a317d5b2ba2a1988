-- What it says that the order is total, transitive and antisymmetric up to Equal, and what Equal says. Assumes nothing.
use Rattle.std.specs.Prelude.{◌≡◌, true, ◌↔◌, length}
use Rattle.record.specs.declared.ResTableConfig.{ResTableConfig}
use Rattle.order.specs.declared.Ordering.{Ordering}
use Rattle.order.specs.Order.{order_of, equal_of}

-- the order read from the other side
abbrev pub flip : Ordering → Ordering
flip Ordering.Less = Ordering.Greater
flip Ordering.Equal = Ordering.Equal
flip Ordering.Greater = Ordering.Less

-- total: the second of two records stands to the first as the first to the second, read from the other side
abbrev pub Total : Type 0
Total = (a b : ResTableConfig) → order_of b a ≡ flip (order_of a b)

-- transitive: Less than what is Less is Less, and Equal records stand in the same way to any third
pub record Transitive : Type 0 where
  pub less : (a b c : ResTableConfig) → order_of a b ≡ Ordering.Less → order_of b c ≡ Ordering.Less → order_of a c ≡ Ordering.Less
  pub equal : (a b c : ResTableConfig) → order_of a b ≡ Ordering.Equal → order_of a c ≡ order_of b c

-- antisymmetric up to Equal: two records of which neither is Greater are Equal
abbrev pub Antisymmetric : Type 0
Antisymmetric = (a b : ResTableConfig) → (order_of a b ≡ Ordering.Greater → ⊥) → (order_of b a ≡ Ordering.Greater → ⊥) → order_of a b ≡ Ordering.Equal

-- the arrays of two records have one length each, as their types have it
pub record SameLengths (a b : ResTableConfig) : Type 0 where
  pub scripts : length a.locale_script ≡ length b.locale_script
  pub variants : length a.locale_variant ≡ length b.locale_variant
  pub numberings : length a.locale_numbering_system ≡ length b.locale_numbering_system

-- all fourteen fields agree
pub record Agreeing (a b : ResTableConfig) : Type 0 where
  pub imsi : a.imsi ≡ b.imsi
  pub locale : a.locale ≡ b.locale
  pub screen_type : a.screen_type ≡ b.screen_type
  pub generic_purpose_field : a.generic_purpose_field ≡ b.generic_purpose_field
  pub screen_size : a.screen_size ≡ b.screen_size
  pub version : a.version ≡ b.version
  pub screen_config : a.screen_config ≡ b.screen_config
  pub screen_size_dp : a.screen_size_dp ≡ b.screen_size_dp
  pub locale_script : a.locale_script ≡ b.locale_script
  pub locale_variant : a.locale_variant ≡ b.locale_variant
  pub screen_config_2 : a.screen_config_2 ≡ b.screen_config_2
  pub locale_script_was_computed : a.locale_script_was_computed ≡ b.locale_script_was_computed
  pub locale_numbering_system : a.locale_numbering_system ≡ b.locale_numbering_system
  pub end_padding : a.end_padding ≡ b.end_padding

-- the order is Equal exactly when all fourteen agree; of any two records, as their types give the arrays their lengths
abbrev pub EqualWhenAgreeing : ResTableConfig → ResTableConfig → Type 0
EqualWhenAgreeing a b = SameLengths a b → ((order_of a b ≡ Ordering.Equal) ↔ Agreeing a b)

-- equality says yes exactly when the order is Equal
abbrev pub EqualWhenYes : ResTableConfig → ResTableConfig → Type 0
EqualWhenYes a b = (equal_of a b ≡ true) ↔ (order_of a b ≡ Ordering.Equal)
