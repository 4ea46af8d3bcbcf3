-- The 8355 as a device on the bus, and its step ("The 8355 ports", "Events and numbers").
use Rattle.std.specs.Prelude.{refl, ℕ}
use Rattle.bus.specs.Event.{Event}
use Rattle.bus.specs.declared.Phase.{Phase}
use Rattle.bus.specs.declared.Phase.TheVariants.{Idle, Reading, Writing}
use Rattle.bus.specs.declared.Limits.{Limits}
use Rattle.bus.specs.Refusals.{limits_of}
use Rattle.bus.specs.Device.{Device, Given, step_in}
use Rattle.i8355.specs.declared.Ports.{Ports}
use Rattle.i8355.specs.declared.Chip8355.{Chip8355}
use Rattle.i8355.specs.Registers.{after_reset, after_write_ends, after_levels}
use Rattle.i8355.specs.Views.{read_of}

-- Four registers can be written: the ports at 0 and 1, their directions at 2 and 3. The ports alone can be read, and have levels.
abbrev pub limits : Limits
limits = limits_of 4 2 2

-- The device is a phase of the bus and its ports.
abbrev pub on_bus : Phase → Ports → Chip8355
on_bus ph s = record { phase = ph; ports = s }

-- What the end of a cycle does to the ports, in each phase: a write takes effect, and a read has none.
abbrev pub after_end : Ports → Phase → Ports
after_end s Idle = s
after_end s (Reading x) = s
after_end s (Writing x d) = after_write_ends s x d

-- The 8355 as a device. A read that begins changes nothing.
abbrev pub device : Device Chip8355 Ports
device = record {
  phase = λ c. c.phase;
  rest = λ c. c.ports;
  on = on_bus;
  limits = λ s. limits;
  after_reset = after_reset;
  after_begin = λ s x. s;
  after_end = after_end;
  after_levels = after_levels;
  answer = read_of;
  phase_on = λ ph s. refl;
  rest_on = λ ph s. refl;
  reset_limits = λ s. refl;
  begin_limits = λ s x. refl;
  end_limits = λ s ph. refl;
  levels_limits = λ s x d. refl;
}

-- One event, of kind k with operands x and d: the step of that device.
unfoldable pub step_of : Chip8355 → ℕ → ℕ → ℕ → Given Chip8355
step_of c k x d = step_in device c k x d

-- What the step makes of an event.
abbrev pub stepped : Chip8355 → Event → Given Chip8355
stepped c e = step_of c e.kind e.first e.second
