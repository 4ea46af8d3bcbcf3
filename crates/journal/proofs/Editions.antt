-- A number without an edition is none that a trim takes.
-- Rests on nothing.
use Rattle.std.proofs.Common.{arith, ◌≡◌, false, ℕ, zero, suc, None, lt-ltb}
use Rattle.std.proofs.lemmas.Option.{none-some}
use Rattle.chip.specs.declared.Edition.TheVariants.{Older, Newer}
use Rattle.chip.specs.State.{edition_numbered}
use Rattle.journal.specs.Trim as trim

pub no_edition : (n : ℕ) → None ≡ edition_numbered n → trim.edition_fits n ≡ false
no_edition zero none = absurd (none-some Older none)
no_edition (suc zero) none = absurd (none-some Newer none)
no_edition (suc (suc n)) none = rw (lt-ltb 1 (suc (suc n)) (omega arith))
