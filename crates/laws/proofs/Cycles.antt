-- The facts about cycles, of the chip of either edition: those of every device on the bus, applied to this one ("Events and numbers", "State").
-- Rests on the bus's Facts and Numbering, and chip's Outcome.
use Rattle.std.proofs.Common.{◌≡◌, ◌∙◌, refl, true, false, ℕ, get_or}
use Rattle.bus.specs.Kinds.{no_kind}
use Rattle.bus.specs.declared.Phase.{Phase}
use Rattle.bus.specs.Refusals.{row, rows, number_of}
use Rattle.bus.specs.Facts.{Facts}
use Rattle.bus.proofs.Facts as bus
use Rattle.bus.proofs.Numbering as numbering
use Rattle.chip.specs.declared.Edition.{Edition}
use Rattle.chip.specs.declared.Chip.{Chip}
use Rattle.chip.specs.Reads.{read_of}
use Rattle.chip.specs.Step.{limits, device, refused, step_of}
use Rattle.chip.proofs.Outcome.{step_refuses, step_number}

pub facts : (c : Chip) → Facts device (limits c.edition) c
facts c = bus.facts device (limits c.edition) c refl

-- In the step's own words: a refused event leaves the state as it was, and its byte is 00.
pub refusal_changes_nothing : (c : Chip) (k x d : ℕ) → ¬ ((step_of c k x d).number ≡ 0) → step_of c k x d ≡ refused c (number_of (limits c.edition) c.phase k x)
refusal_changes_nothing c k x d h = step_refuses c k x d (λ e. h (step_number c k x d ∙ e))

-- A read that is accepted answers what a read there would have answered before it.
pub read_answers_lem : (c : Chip) (x d : ℕ) → (step_of c 1 x d).number ≡ 0 → (step_of c 1 x d).byte ≡ read_of c x
unfolding step_of
read_answers_lem c x d = ((facts c).begins x d).read_answers

-- An event that any row speaks of is refused.
pub row_refuses : (ed : Edition) (ph : Phase) (k x j : ℕ) → (get_or (rows (limits ed) ph k x) j (row 0 false)).applies ≡ true → ¬ (number_of (limits ed) ph k x ≡ 0)
row_refuses ed = numbering.row_refuses (limits ed)

-- What is no kind is refused with 1, whatever its operands.
pub no_kind_refused : (c : Chip) (k x d : ℕ) → no_kind k ≡ true → step_of c k x d ≡ refused c 1
unfolding step_of
no_kind_refused c k x d none = numbering.no_kind_refused device c k x d none
