-- Which events are kept, told by the events alone ("Trimming the journal").
use Rattle.std.specs.Prelude.{◌≡◌, true, false, List, [], ◌∷◌, ◌++◌, ℕ, ◌<◌}
use Rattle.bus.specs.Event.{Event, event}
use Rattle.bus.specs.declared.Phase.TheVariants.{Idle}
use Rattle.control.specs.declared.Group.{Group}
use Rattle.chip.specs.declared.channel.Side.TheVariants.{Input}
use Rattle.chip.specs.declared.Edition.{Edition}
use Rattle.chip.specs.declared.Levels.{Levels}
use Rattle.chip.specs.State.{power_up_as}
use Rattle.fates.specs.Kinds.{kind_of, accepts}
use Rattle.fates.specs.Surroundings.{first_word}
use Rattle.fates.specs.Effects.{port_number}
use Rattle.fates.specs.Promise.{run}
use Rattle.journallaws.specs.Here.{levels_at, of_a_cycle, here, left_here, Open}

-- After the events es an event changes the chip, and is kept; or it does not, and is dropped.
abbrev pub IsKept : Edition → Levels → List Event → Event → Type 0
IsKept ed v es e = ¬ (run (power_up_as ed v) (es ++ e ∷ []) ≡ run (power_up_as ed v) es)

abbrev pub IsDropped : Edition → Levels → List Event → Event → Type 0
IsDropped ed v es e = run (power_up_as ed v) (es ++ e ∷ []) ≡ run (power_up_as ed v) es

-- Every event by itself. A refused one is dropped, and an accepted one that begins or ends a cycle is kept. Levels on a port are kept where they
-- are others than those there, and where an input lets them through to a latch that holds something else; where neither is so they are dropped.
-- A reset is kept while a cycle runs, and under another mode word than that of power-up, which a reset brings back; otherwise it is dropped,
-- since under that word nothing else can be set.
pub record ByEvents (ed : Edition) (v : Levels) (es : List Event) : Type 0 where
  pub refused : (e : Event) → accepts ed (here ed v es).phase (kind_of e) ≡ false → IsDropped ed v es e
  pub cycle : (e : Event) → accepts ed (here ed v es).phase (kind_of e) ≡ true → of_a_cycle (kind_of e) ≡ true → IsKept ed v es e
  pub other_levels : (x d : ℕ) → x < 3 → ¬ (levels_at x (here ed v es) ≡ d) → IsKept ed v es (event 5 x d)
  pub through_to_the_latch : (g : Group) (d : ℕ) → Open ed v es g → ¬ ((left_here ed v es g Input).latch ≡ d) → IsKept ed v es (event 5 (port_number g) d)
  pub same_levels : (x d : ℕ) → levels_at x (here ed v es) ≡ d
      → ((g : Group) → port_number g ≡ x → Open ed v es g → (left_here ed v es g Input).latch ≡ d) → IsDropped ed v es (event 5 x d)
  pub reset_in_a_cycle : ¬ ((here ed v es).phase ≡ Idle) → IsKept ed v es (event 0 0 0)
  pub reset_of_a_word : ¬ ((here ed v es).word ≡ first_word) → IsKept ed v es (event 0 0 0)
  pub reset_of_nothing : (here ed v es).phase ≡ Idle → (here ed v es).word ≡ first_word → IsDropped ed v es (event 0 0 0)
