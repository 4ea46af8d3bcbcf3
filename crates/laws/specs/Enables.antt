-- Which events can move an enable ("Writes and bit set/reset").
use Rattle.std.specs.Prelude.{◌≡◌, Bool, ◌&&◌, ◌||◌, ℕ, eqb}
use Rattle.bus.specs.Kinds as kinds
use Rattle.bus.specs.declared.Phase.{Phase}
use Rattle.chip.specs.declared.Chip.{Chip}
use Rattle.chip.specs.Step.{step_of}
use Rattle.laws.specs.Seen.{commands}

-- An event of kind k can: it is a reset, or the end of a write to control, be it of a mode word or of bit set/reset.
abbrev pub moves_enables : Phase → ℕ → Bool
moves_enables ph k = eqb k kinds.reset || (eqb k kinds.end_cycle && commands ph)

-- An event leaves the enables.
abbrev pub EnablesStay : Chip → ℕ → ℕ → ℕ → Type 0
EnablesStay c k x d = (step_of c k x d).state.core.inte ≡ c.core.inte
