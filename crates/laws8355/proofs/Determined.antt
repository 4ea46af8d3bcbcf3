-- The contract of each method of the 8355 as a device leaves no choice, nor does that of the 8355 that is there by default.
-- Rests on bits' Determined.
use Rattle.bits.proofs.Determined.{Determines, equation_determines, equations_determine}
use Rattle.i8355.specs.contracts as i8355_says
use Rattle.i8355.proofs as i8355

pub device_phase_determined : Determines i8355_says.device.Chip8355Device.phase.ended i8355.device.Chip8355Device.phase.Reads.Learnt
device_phase_determined c x y = equation_determines

pub device_limits_determined : Determines i8355_says.device.Chip8355Device.limits.ended i8355.device.Chip8355Device.limits.Reads.Learnt
device_limits_determined c x y = equation_determines

pub device_pins_determined : Determines i8355_says.device.Chip8355Device.pins.ended i8355.device.Chip8355Device.pins.Reads.Learnt
device_pins_determined c x y = equation_determines

pub device_accept_determined : Determines i8355_says.device.Chip8355Device.accept.ended i8355.device.Chip8355Device.accept.Reads.Learnt
device_accept_determined c x y p q = equations_determine (p.1, p.0) (q.1, q.0)

pub default_determined : Determines i8355_says.Chip8355Default.default.ended i8355.Chip8355Default.default.Reads.Learnt
default_determined c x y = equation_determines
