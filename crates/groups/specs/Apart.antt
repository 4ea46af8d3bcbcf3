-- What is promised of a group where the other is at work ("Two groups").
use Rattle.std.specs.Prelude.{◌≡◌, true, false, List, [], ◌∷◌, ◌++◌, ℕ, ◌/◌, ◌%◌, ◌<◌}
use Rattle.bits.specs.Bit.{bit_of}
use Rattle.bus.specs.Event.{Event, event}
use Rattle.bus.specs.Histories.{write, levels, read_from, cycle_end}
use Rattle.control.specs.declared.Group.{Group}
use Rattle.chip.specs.declared.channel.Side.{Side}
use Rattle.chip.specs.declared.Edition.{Edition}
use Rattle.chip.specs.declared.Chip.{Chip}
use Rattle.chip.specs.declared.Levels.{Levels}
use Rattle.fates.specs.Effects.{port_number}
use Rattle.fates.specs.Bytes.{bytes_of, values_and_fates}
use Rattle.fates.specs.Promise.{run, new_bytes, old_byte}
use Rattle.groups.specs.Belongings.{belongings_of}
use Rattle.groups.specs.Doings.{acts_on}

-- The events leave the group as it was.
abbrev pub Left : Group → Chip → List Event → Type 0
Left g c es = belongings_of g (run c es) ≡ belongings_of g c

-- What is done on the group h leaves the group g as it was: levels on the port of h; levels on port C that differ only at the pins on which h
-- acts; a read and a write of its port, each in its middle and at its end; bit set/reset of those pins, likewise. And so does a read of port C,
-- and one of control, which the older edition refuses.
pub record LeftAlone (g h : Group) (c : Chip) : Type 0 where
  pub port_levels : (d : ℕ) → Left g c (levels (port_number h) d)
  pub line_levels : (d : ℕ) → ((n : ℕ) → n < 8 → acts_on h n ≡ false → bit_of d n ≡ bit_of c.core.c.outside n) → Left g c (levels 2 d)
  pub reading : Left g c (read_from (port_number h))
  pub read : Left g c (read_from (port_number h) ++ cycle_end)
  pub writing : (d : ℕ) → Left g c (event 3 (port_number h) d ∷ [])
  pub written : (d : ℕ) → Left g c (write (port_number h) d)
  pub setting_bit : (d : ℕ) → bit_of d 7 ≡ false → acts_on h (d / 2 % 8) ≡ true → Left g c (event 3 3 d ∷ [])
  pub bit_set : (d : ℕ) → bit_of d 7 ≡ false → acts_on h (d / 2 % 8) ≡ true → Left g c (write 3 d)
  pub reading_lines : Left g c (read_from 2)
  pub lines_read : Left g c (read_from 2 ++ cycle_end)
  pub reading_control : Left g c (read_from 3)
  pub control_read : Left g c (read_from 3 ++ cycle_end)

-- Two histories from a chip are the same to a group: they leave the same of it, and its channels have the same bytes, the one that may wait at
-- the start among them, with the same values and the same fates.
pub record SameTo (g : Group) (c : Chip) (es es' : List Event) : Type 0 where
  pub belongings : belongings_of g (run c es) ≡ belongings_of g (run c es')
  pub bytes : (s : Side)
      → values_and_fates (old_byte g s c es ++ new_bytes g s c es) ≡ values_and_fates (old_byte g s c es' ++ new_bytes g s c es')

-- Two histories from a power-up of this edition, under these levels, bring a channel of the group the same bytes, with the same values and the
-- same fates. No byte waits at a power-up.
abbrev pub SameBytes : Group → Side → Edition → Levels → List Event → List Event → Type 0
SameBytes g s ed l es es' = values_and_fates (bytes_of g s ed l es) ≡ values_and_fates (bytes_of g s ed l es')
