-- The few shapes of which histories are made.
use Rattle.std.specs.Prelude.{List, [], ◌∷◌, ℕ}
use Rattle.bus.specs.Kinds as kinds
use Rattle.bus.specs.Event.{Event, event}

-- The end of a cycle, a whole write, outside levels, and the beginning of a read.
abbrev pub cycle_end : List Event
cycle_end = event kinds.end_cycle 0 0 ∷ []

abbrev pub write : ℕ → ℕ → List Event
write a d = event kinds.begin_write a d ∷ cycle_end

abbrev pub levels : ℕ → ℕ → List Event
levels p d = event kinds.outside_levels p d ∷ []

abbrev pub read_from : ℕ → List Event
read_from a = event kinds.begin_read a 0 ∷ []
