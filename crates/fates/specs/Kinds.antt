-- Events by name, and which of them are accepted ("Events and numbers"), in the history's own words: the step has its rule as a table
-- of refusals.
use Rattle.std.specs.Prelude.{Bool, true, false, not, ◌&&◌, List, [], ◌∷◌, ℕ, ltb, get_or}
use Rattle.bus.specs.Event.{Event}
use Rattle.bus.specs.declared.Phase.{Phase}
use Rattle.bus.specs.declared.Phase.TheVariants.{Idle, Reading, Writing}
use Rattle.chip.specs.declared.Edition.{Edition}
use Rattle.chip.specs.declared.Edition.TheVariants.{Older, Newer}

-- The five kinds, each with the operands that it has, and what is none of them.
pub data Kind : Type 0 where
  reset cycle_ended unknown : Kind
  read_begun : ℕ → Kind
  write_begun new_levels : ℕ → ℕ → Kind

-- What the numbers 00 to 05 name, in their order, with the operands x and d; 04 names no kind.
abbrev pub kinds : ℕ → ℕ → List Kind
kinds x d = reset ∷ read_begun x ∷ cycle_ended ∷ write_begun x d ∷ unknown ∷ new_levels x d ∷ []

-- An event by name.
abbrev pub kind_of : Event → Kind
kind_of e = get_or (kinds e.first e.second) e.kind unknown

-- Nothing runs on the bus.
abbrev pub free : Phase → Bool
free Idle = true
free (Reading p) = false
free (Writing a d) = false

-- Where a read can be had: at the three ports, and of the newer edition at control too ("The 82C55A").
abbrev pub readable_at : Edition → ℕ → Bool
readable_at Older x = ltb x 3
readable_at Newer x = ltb x 4

-- A reset is always accepted, and levels on any of the three ports. A cycle begins on a free bus, a read where one can be had and a write at one of
-- the three ports or at control; either ends by the one end, which is accepted whenever one runs.
abbrev pub accepts : Edition → Phase → Kind → Bool
accepts ed ph reset = true
accepts ed ph (read_begun x) = readable_at ed x && free ph
accepts ed ph cycle_ended = not (free ph)
accepts ed ph (write_begun x d) = ltb x 4 && free ph
accepts ed ph (new_levels x d) = ltb x 3
accepts ed ph unknown = false
