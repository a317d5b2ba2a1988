-- What it says that nothing of what a call tells is lost in an answer of the C face. Assumes nothing.
use Rattle.std.specs.Prelude.{◌<◌, ◌≡◌}
use Rattle.answers.specs.declared.Told.{Told}

-- a number below 13; an amount below 2^32, which is 0 where the number isn't; and what is carried is below 2^32, and 0 where the number is
pub record Small (t : Told) : Type 0 where
  pub number : t.number < 13
  pub amount : t.amount < 4294967296
  pub bare : (t.number ≡ 0 → ⊥) → t.amount ≡ 0
  pub carried : t.carried < 4294967296
  pub clear : t.number ≡ 0 → t.carried ≡ 0
