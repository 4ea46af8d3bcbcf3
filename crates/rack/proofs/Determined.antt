-- The contract of each public function of the rack leaves no choice, nor does that of each method by which it is a device. Those of the steps
-- say the number and the byte that an answer tells, and no two answers tell the same. Rests on bits' Determined.
use Rattle.std.proofs.Common.{◌≡◌, refl, cond, ℕ, eqb, Result, Ok, Err}
use Rattle.bits.proofs.Determined.{Determines, equation_determines, equations_determine}
use Rattle.bus.proofs.Determined as bus
use Rattle.bus.proofs.Determined.{answer_of, given_so}
use Rattle.bus.specs.Answers.{frame_number, number_told, byte_told}
use Rattle.bus.specs.declared.refusals.Refusal.TheVariants.{OutOfRange, NotReadable, CycleRuns, NoCycleRuns}
use Rattle.rack.specs.Answers.{refusal_number}
use Rattle.rack.specs.Bases.{no_card_number}
use Rattle.rack.specs.declared.refusals.RackRefusal.{RackRefusal}
use Rattle.rack.specs.declared.refusals.RackRefusal.TheVariants.{NoCard, Card}
use Rattle.bus.specs.declared.refusals.FrameRefusal.{FrameRefusal}
use Rattle.bus.specs.declared.refusals.FrameRefusal.TheVariants.{NoSuchKind, Event}
use Rattle.rack.specs.contracts as rack_says
use Rattle.rack.proofs as rack

-- The refusal that has a number.
abbrev pub refusal_of : ℕ → RackRefusal
refusal_of n = cond (eqb n no_card_number) NoCard (Card (bus.refusal_of n))

abbrev pub frame_of : ℕ → FrameRefusal RackRefusal
frame_of n = cond (eqb n 1) NoSuchKind (Event (refusal_of n))

told_so : (r : Result ℕ RackRefusal) → r ≡ answer_of refusal_of (number_told refusal_number r) (byte_told r)
told_so (Ok b) = refl
told_so (Err NoCard) = refl
told_so (Err (Card OutOfRange)) = refl
told_so (Err (Card NotReadable)) = refl
told_so (Err (Card CycleRuns)) = refl
told_so (Err (Card NoCycleRuns)) = refl

pub frame_told_so : (r : Result ℕ (FrameRefusal RackRefusal)) → r ≡ answer_of frame_of (number_told (frame_number refusal_number) r) (byte_told r)
frame_told_so (Ok b) = refl
frame_told_so (Err NoSuchKind) = refl
frame_told_so (Err (Event NoCard)) = refl
frame_told_so (Err (Event (Card OutOfRange))) = refl
frame_told_so (Err (Event (Card NotReadable))) = refl
frame_told_so (Err (Event (Card CycleRuns))) = refl
frame_told_so (Err (Event (Card NoCycleRuns))) = refl

pub new_determined : Determines rack_says.Rack.new.ended rack.Rack.new.Reads.Learnt
new_determined c x y = equation_determines

pub card_determined : Determines rack_says.Rack.card.ended rack.Rack.card.Reads.Learnt
card_determined c x y = equation_determines

pub pins_determined : Determines rack_says.Rack.pins.ended rack.Rack.pins.Reads.Learnt
pins_determined c x y = equation_determines

pub tally_determined : Determines rack_says.Rack.tally.ended rack.Rack.tally.Reads.Learnt
tally_determined c x y = equation_determines

pub explain_determined : Determines rack_says.Rack.explain.ended rack.Rack.explain.Reads.Learnt
explain_determined c x y = equation_determines

pub explain_numbered_determined : Determines rack_says.Rack.explain_numbered.ended rack.Rack.explain_numbered.Reads.Learnt
explain_numbered_determined c x y = equation_determines

pub numbered_determined : Determines rack_says.events.RackEvent.numbered.ended rack.events.RackEvent.numbered.Reads.Learnt
numbered_determined c x y = equation_determines

pub bad_rack_number_determined : Determines rack_says.refusals.BadRackNumbered.number.ended rack.refusals.BadRackNumbered.number.Reads.Learnt
bad_rack_number_determined c x y = equation_determines

pub refusal_number_determined : Determines rack_says.refusals.RackRefusalNumbered.number.ended rack.refusals.RackRefusalNumbered.number.Reads.Learnt
refusal_number_determined c x y = equation_determines

pub view_refusal_number_determined : Determines rack_says.refusals.ViewRefusalNumbered.number.ended rack.refusals.ViewRefusalNumbered.number.Reads.Learnt
view_refusal_number_determined c x y = equation_determines

pub step_determined : Determines rack_says.Rack.step.ended rack.Rack.step.Reads.Learnt
step_determined c x y p q =
    equations_determine (given_so refusal_number refusal_of told_so p) (given_so refusal_number refusal_of told_so q)

pub step_numbers_determined : Determines rack_says.Rack.step_numbers.ended rack.Rack.step_numbers.Reads.Learnt
step_numbers_determined c x y p q =
    equations_determine (given_so _ frame_of frame_told_so p) (given_so _ frame_of frame_told_so q)

pub device_phase_determined : Determines rack_says.device.RackDevice.phase.ended rack.device.RackDevice.phase.Reads.Learnt
device_phase_determined c x y = equation_determines

pub device_limits_determined : Determines rack_says.device.RackDevice.limits.ended rack.device.RackDevice.limits.Reads.Learnt
device_limits_determined c x y = equation_determines

pub answer_determined : Determines rack_says.Rack.answer.ended rack.Rack.answer.Reads.Learnt
answer_determined c x y = equation_determines

pub device_pins_determined : Determines rack_says.device.RackDevice.pins.ended rack.device.RackDevice.pins.Reads.Learnt
device_pins_determined c x y = equation_determines

pub device_accept_determined : Determines rack_says.device.RackDevice.accept.ended rack.device.RackDevice.accept.Reads.Learnt
device_accept_determined c x y p q = equations_determine (p.1, p.0) (q.1, q.0)

pub default_determined : Determines rack_says.RackDefault.default.ended rack.RackDefault.default.Reads.Learnt
default_determined c x y = equation_determines

pub refusal_from_determined : Determines rack_says.refusals.RackRefusalFromRefusal.from.ended rack.refusals.RackRefusalFromRefusal.from.Reads.Learnt
refusal_from_determined c x y = equation_determines
