-- The 8255A and the 82C55A as one device on the bus, and its step: the new state, the number and the byte ("Events and numbers", "State").
use Rattle.std.specs.Prelude.{refl, ℕ}
use Rattle.bus.specs.Event.{Event}
use Rattle.bus.specs.declared.Phase.{Phase}
use Rattle.bus.specs.declared.Phase.TheVariants.{Idle, Reading, Writing}
use Rattle.bus.specs.declared.Limits.{Limits}
use Rattle.bus.specs.Refusals.{limits_of}
use Rattle.bus.specs.Device.{Device, Given, gives, step_in}
use Rattle.chip.specs.declared.Core.{Core}
use Rattle.chip.specs.declared.Edition.{Edition}
use Rattle.chip.specs.declared.Edition.TheVariants.{Older, Newer}
use Rattle.chip.specs.declared.Chip.{Chip}
use Rattle.chip.specs.State.{power_up_word}
use Rattle.chip.specs.ModeWord.{after_mode_word}
use Rattle.chip.specs.Read.{after_read_begins, after_read_ends}
use Rattle.chip.specs.Write.{after_write_ends}
use Rattle.chip.specs.Levels.{after_levels}
use Rattle.chip.specs.Reads.{read_of}

-- How many addresses can be read, from 0 on: the three ports, and in the newer edition control too ("The 82C55A").
abbrev pub readable : Edition → ℕ
readable Older = 3
readable Newer = 4

-- Addresses 0 to 3 are A, B, C and control; ports 0 to 2 are A, B and C.
abbrev pub limits : Edition → Limits
limits ed = limits_of 4 (readable ed) 3

-- A chip is a phase of the bus, an edition and the core.
abbrev pub on_bus : Phase → Edition → Core → Chip
on_bus ph ed c = record { phase = ph; edition = ed; core = c }

-- All of it but the bus. No event changes the edition.
pub record Rest : Type 0 where
  pub edition : Edition
  pub core : Core

abbrev pub rest_of : Chip → Rest
rest_of c = record { edition = c.edition; core = c.core }

abbrev pub with_core : Rest → Core → Rest
with_core r c = record { edition = r.edition; core = c }

-- What the end of a cycle does to the core, in each phase: it ends a read, or a write, whose byte takes effect now. On an idle bus
-- there is nothing to end, and the event is refused.
abbrev pub after_end : Core → Phase → Core
after_end c Idle = c
after_end c (Reading p) = after_read_ends c p
after_end c (Writing a d) = after_write_ends c a d

-- The chip of either edition as a device. A reset sets the mode word of power-up.
abbrev pub device : Device Chip Rest
device = record {
  phase = λ c. c.phase;
  rest = rest_of;
  on = λ ph r. on_bus ph r.edition r.core;
  limits = λ r. limits r.edition;
  after_reset = λ r. with_core r (after_mode_word r.core power_up_word);
  after_begin = λ r x. with_core r (after_read_begins r.core x);
  after_end = λ r ph. with_core r (after_end r.core ph);
  after_levels = λ r x d. with_core r (after_levels r.core x d);
  answer = read_of;
  phase_on = λ ph r. refl;
  rest_on = λ ph r. refl;
  reset_limits = λ r. refl;
  begin_limits = λ r x. refl;
  end_limits = λ r ph. refl;
  levels_limits = λ r x d. refl;
}

-- One event, of kind k with operands x and d: the step of that device.
unfoldable pub step_of : Chip → ℕ → ℕ → ℕ → Given Chip
step_of c k x d = step_in device c k x d

-- What the step makes of an event.
abbrev pub stepped : Chip → Event → Given Chip
stepped c e = step_of c e.kind e.first e.second

-- A refusal gives its number, and the state back as it was.
abbrev pub refused : Chip → ℕ → Given Chip
refused c n = gives c n 0

-- An accepted event has the number 0.
abbrev pub accepted : Chip → ℕ → Given Chip
accepted c b = gives c 0 b
