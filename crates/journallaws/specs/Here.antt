-- What a history leads to, told by its events alone: what surrounds the channels, what is left in them, and whether an input lets levels
-- through. No chip is asked.
use Rattle.std.specs.Prelude.{◌≡◌, Bool, true, false, cond, List, [], ◌∷◌, ℕ, eqb}
use Rattle.bits.specs.Bit.{bit_of}
use Rattle.bus.specs.Event.{Event}
use Rattle.control.specs.declared.Group.{Group}
use Rattle.chip.specs.declared.channel.Side.{Side}
use Rattle.chip.specs.declared.channel.Side.TheVariants.{Input}
use Rattle.chip.specs.declared.channel.Fill.TheVariants.{Empty}
use Rattle.chip.specs.declared.Edition.{Edition}
use Rattle.chip.specs.declared.Levels.{Levels}
use Rattle.fates.specs.Kinds.{Kind, reset, cycle_ended, unknown, read_begun, write_begun, new_levels}
use Rattle.fates.specs.Surroundings.{Surroundings, at_power_up, surroundings_over}
use Rattle.fates.specs.Effects.{Effect, strobe_pin, strobes, effects}
use Rattle.fates.specs.Left.{Left, left, left_after}

-- What some effects leave in a channel.
abbrev pub left_by : Side → Left → List Effect → Left
left_by s h [] = h
left_by s h (d ∷ later) = left_by s (left_after s h d) later

-- The levels on port x.
abbrev pub levels_at : ℕ → Surroundings → ℕ
levels_at x a = cond (eqb x 0) a.levels_a (cond (eqb x 1) a.levels_b a.levels_c)

-- A cycle begins or ends.
abbrev pub of_a_cycle : Kind → Bool
of_a_cycle reset = false
of_a_cycle (read_begun x) = true
of_a_cycle cycle_ended = true
of_a_cycle (write_begun x d) = true
of_a_cycle (new_levels x d) = false
of_a_cycle unknown = false

-- After the events of a history, from a power-up of this edition under these levels:
module _ (ed : Edition) (v : Levels) (es : List Event) where
  -- what surrounds the channels,
  abbrev pub here : Surroundings
  here = surroundings_over (at_power_up ed v) es

  -- what is left in a channel,
  abbrev pub left_here : Group → Side → Left
  left_here g s = left_by s (left Empty 0) (effects g s (at_power_up ed v) es)

  -- and whether an input lets what comes onto its port's lines through to its latch: it is strobed, and its STB is low.
  abbrev pub Open : Group → Type 0
  Open g = (strobes here.word g Input ≡ true) × (bit_of here.levels_c (strobe_pin g Input) ≡ false)
