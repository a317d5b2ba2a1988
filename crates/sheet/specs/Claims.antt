-- 02, K6: what is claimed of the sheet's network code. Assumes nothing.
use Rattle.std.specs.Prelude.{ℕ, ◌/◌, ◌%◌, ◌^◌, ◌≡◌, ◌↔◌}
use Rattle.record.specs.declared.ResTableConfig.{ResTableConfig}
use Rattle.record.specs.Accessors.{mcc_mnc_of}
use Rattle.sheet.specs.declared.NetworkCode.{NetworkCode}
use Rattle.sheet.specs.Sheet.{sheet_of}

-- it is silent exactly when the stored number is 0
abbrev pub SilentExactly : Type 0
SilentExactly = (r : ResTableConfig) → ((sheet_of r).network_code ≡ NetworkCode.Silent) ↔ ((mcc_mnc_of r).mnc ≡ 0)

-- it is code 0 exactly when the stored number is 65535
abbrev pub ZeroExactly : Type 0
ZeroExactly = (r : ResTableConfig) → ((sheet_of r).network_code ≡ NetworkCode.Code 0) ↔ ((mcc_mnc_of r).mnc ≡ 65535)

-- it is any other code exactly when that is the stored number, and not 65535
abbrev pub NumberExactly : Type 0
NumberExactly =
    (r : ResTableConfig) (n : ℕ) → (n ≡ 0 → ⊥)
    → ((sheet_of r).network_code ≡ NetworkCode.Code n) ↔ (((mcc_mnc_of r).mnc ≡ n) × (n ≡ 65535 → ⊥))

-- its place, 1, isn't said exactly when it is silent: a zero that is stated is said
abbrev pub SilentUnsaid : Type 0
SilentUnsaid = (r : ResTableConfig) → ((sheet_of r).said / 2 ^ 1 % 2 ≡ 0) ↔ ((sheet_of r).network_code ≡ NetworkCode.Silent)
