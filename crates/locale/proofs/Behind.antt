-- A part of a locale behind its sign: put and counted where it is there. Assumes nothing.
use Prim.Native.Nat.{ℕ}
use mathlib.Core.Path.{◌≡◌, refl}
use mathlib.Core.Bool.{Bool, true, false}
use mathlib.Core.List.{List}
use Rattle.buffer.specs.Put.{Put}
use Rattle.buffer.proofs.Putting.{put_nil}
use Rattle.subtag.specs.declared.Copied.{Copied}
use Rattle.subtag.specs.Copies.{Copies}
use Rattle.subtag.specs.Replacements.{replacements}
use Rattle.subtag.proofs.Copying.{put_copy}
use Rattle.locale.specs.Locale.{behind}
use Rattle.locale.proofs.Counts.{part, part_is}

module _ (sign w s : List ℕ) {old : List ℕ} {at : ℕ} {there : Bool} where
  pub behind_there : {mid : List ℕ} {a : ℕ} {new : List ℕ} {r : Copied} → there ≡ true → Put old at sign mid a → Copies mid a w (replacements s) new r
      → Copies old at (behind there sign w) (part there s) new r
  behind_there e p q = rw (part_is there s, e) (put_copy p q)

  pub behind_none : there ≡ false → Copies old at (behind there sign w) (part there s) old (record { at = at; replacements = 0 })
  behind_none e = rw e (record { puts = put_nil; counts = refl })
