-- The facts about cycles, all together: what each device on the bus has by one law ("Events and numbers", "State").
use Rattle.std.specs.Prelude.{◌≡◌, List, ℕ}
use Rattle.bus.specs.Event.{Event}
use Rattle.bus.specs.declared.Phase.TheVariants.{Idle}
use Rattle.bus.specs.declared.Limits.{Limits}
use Rattle.bus.specs.Refusals.{number_of}
use Rattle.bus.specs.Device.{Device, step_in, run_in}
use Rattle.bus.specs.Numbered.{Numbered}
use Rattle.bus.specs.Cycles.{refused_in, AtPlace, Begins, Ends, InAnyPhase, Ignored, phase_over}
use Rattle.bus.specs.Begun.{Begun}

-- Of a state s of a device whose limits are l. The number of every event is the table's: that of the first row that applies. A refusal changes
-- nothing, and gives 00. Operands that a kind lacks are ignored. Beginnings, ends, resets and levels are accepted or refused by their places and by
-- whether a cycle runs. After any history the phase follows from the events alone, and a cycle that runs was begun by the last accepted
-- beginning; or it ran before the history, in which none began.
pub record Facts {S R : Type 0} (dev : Device S R) (l : Limits) (s : S) : Type 0 where
  pub by_table : (k x d : ℕ) → (step_in dev s k x d).number ≡ number_of l (dev.phase s) k x
  pub numbered : (k x : ℕ) → Numbered l (dev.phase s) k x
  pub refusal : (k x d : ℕ) → ¬ ((step_in dev s k x d).number ≡ 0) → step_in dev s k x d ≡ refused_in s (number_of l (dev.phase s) k x)
  pub ignored : (x d : ℕ) → Ignored dev s x d
  pub at_place : (x d : ℕ) → AtPlace dev l s x d
  pub begins : (x d : ℕ) → Begins dev s x d
  pub ends : (x d : ℕ) → Ends dev s x d
  pub in_any_phase : (x d : ℕ) → InAnyPhase dev l s x d
  pub phase_by_events : (es : List Event) → dev.phase (run_in dev s es) ≡ phase_over l (dev.phase s) es
  pub begun : (es : List Event) → ¬ (dev.phase (run_in dev s es) ≡ Idle) → Begun dev s es (dev.phase (run_in dev s es))
