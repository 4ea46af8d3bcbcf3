-- The contracts of the public functions of bits and chip, and of the methods by which a chip is a device and holds itself, leave no choice: two
-- outcomes that one allows of a call are equal. The contract of `accept` leaves none if the chip is held whole before, since who holds it whole
-- then is one, and if a cycle can be held at the address.
-- Rests on bits' Determined.
use Rattle.std.proofs.Common.{refl}
use Rattle.bits.proofs.Determined.{Determines, DeterminesWhere, equation_determines, equations_determine}
use Rattle.bits.specs.contracts as bits_says
use Rattle.bits.proofs as bits
use Rattle.chip.specs.Held.{CanBegin}
use Rattle.chip.proofs.Held.{one_after, holds_any}
use Rattle.chip.specs.contracts as chip_says
use Rattle.chip.proofs as chip

pub bit_determined : Determines bits_says.bit.ended bits.bit.Reads.Learnt
bit_determined c x y = equation_determines

pub with_bit_determined : Determines bits_says.with_bit.ended bits.with_bit.Reads.Learnt
with_bit_determined c x y = equation_determines

pub byte_determined : Determines bits_says.byte.ended bits.byte.Reads.Learnt
byte_determined c x y = equation_determines

pub blend_determined : Determines bits_says.blend.ended bits.blend.Reads.Learnt
blend_determined c x y = equation_determines

pub choose_determined : Determines bits_says.choose.ended bits.choose.Reads.Learnt
choose_determined c x y = equation_determines

pub flag_determined : Determines chip_says.channel.Fill.flag.ended chip.channel.Fill.flag.Reads.Learnt
flag_determined c x y = equation_determines

pub offer_determined : Determines chip_says.channel.Channel.offer.ended chip.channel.Channel.offer.Reads.Learnt
offer_determined c x y p q = equations_determine (refl, p) (refl, q)

pub hand_over_determined : Determines chip_says.channel.Channel.hand_over.ended chip.channel.Channel.hand_over.Reads.Learnt
hand_over_determined c x y p q = equations_determine (refl, p) (refl, q)

pub end_read_determined : Determines chip_says.channel.Channel.end_read.ended chip.channel.Channel.end_read.Reads.Learnt
end_read_determined c x y p q = equations_determine (refl, p) (refl, q)

pub clear_determined : Determines chip_says.channel.Channel.clear.ended chip.channel.Channel.clear.Reads.Learnt
clear_determined c x y p q = equations_determine (refl, p) (refl, q)

pub force_determined : Determines chip_says.channel.Channel.force.ended chip.channel.Channel.force.Reads.Learnt
force_determined c x y p q = equations_determine (refl, p) (refl, q)

pub line_pin_determined : Determines chip_says.handshakes.line_pin.ended chip.handshakes.line_pin.Reads.Learnt
line_pin_determined c x y = equation_determines

pub running_determined : Determines chip_says.handshakes.running.ended chip.handshakes.running.Reads.Learnt
running_determined c x y = equation_determines

pub enables_determined : Determines chip_says.Enables.enables.ended chip.Enables.enables.Reads.Learnt
enables_determined c x y = equation_determines

pub strobes_determined : Determines chip_says.handshakes.strobes.ended chip.handshakes.strobes.Reads.Learnt
strobes_determined c x y = equation_determines

pub edition_numbered_determined : Determines chip_says.Edition.numbered.ended chip.Edition.numbered.Reads.Learnt
edition_numbered_determined c x y = equation_determines

pub power_up_determined : Determines chip_says.Chip.new.ended chip.Chip.new.Reads.Learnt
power_up_determined c x y = equation_determines

pub tally_determined : Determines chip_says.Chip.tally.ended chip.Chip.tally.Reads.Learnt
tally_determined c x y = equation_determines

pub channel_determined : Determines chip_says.Core.channel.ended chip.Core.channel.Reads.Learnt
channel_determined c x y = equation_determines

pub explain_determined : Determines chip_says.Chip.explain.ended chip.Chip.explain.Reads.Learnt
explain_determined c x y = equation_determines

pub explain_numbered_determined : Determines chip_says.Chip.explain_numbered.ended chip.Chip.explain_numbered.Reads.Learnt
explain_numbered_determined c x y = equation_determines

pub halves_determined : Determines chip_says.reasons.Explained.halves.ended chip.reasons.Explained.halves.Reads.Learnt
halves_determined c x y = equation_determines

pub read_determined
    : (Home : _) (lHome : _) (H : _) (lH : _) (G : _) (t : _)
    → Determines (chip_says.pins.read.ended Home H G t) (chip.pins.read.Reads.Learnt Home H lHome lH G t)
read_determined Home lHome H lH G t c x y = equation_determines

pub pins_determined
    : (Home : _) (lHome : _) (H : _) (lH : _) (G : _) (t : _)
    → Determines (chip_says.pins.pins.ended Home H G t) (chip.pins.pins.Reads.Learnt Home H lHome lH G t)
pins_determined Home lHome H lH G t c x y = equation_determines

pub status_determined
    : (Home : _) (lHome : _) (H : _) (lH : _) (G : _) (t : _)
    → Determines (chip_says.status.status.ended Home H G t) (chip.status.status.Reads.Learnt Home H lHome lH G t)
status_determined Home lHome H lH G t c x y = equation_determines

pub holder_explain_determined
    : (Home : _) (lHome : _) (H : _) (lH : _) (G : _) (t : _)
    → Determines (chip_says.reasons.explain.ended Home H G t) (chip.reasons.explain.Reads.Learnt Home H lHome lH G t)
holder_explain_determined Home lHome H lH G t c x y = equation_determines

pub accept_determined
    : (Home : _) (lHome : _) (H : _) (lH : _) (G : _) (t : _)
    → DeterminesWhere (chip_says.accept.accept.ended Home H G t) (chip.accept.accept.Reads.Learnt Home H lHome lH G t) (λ c. G.way.Whole c.1.0.now × CanBegin G.way c.1.1.0)
accept_determined Home lHome H lH G t c here x y p q = equations_determine (p.0, one_after here.0 (p.1 here.1) (q.1 here.1)) (q.0, refl)

pub limits_determined : Determines chip_says.Edition.limits.ended chip.Edition.limits.Reads.Learnt
limits_determined c x y = equation_determines

pub power_up_default_determined : Determines chip_says.ChipDefault.default.ended chip.ChipDefault.default.Reads.Learnt
power_up_default_determined c x y = equation_determines

pub device_phase_determined : Determines chip_says.device.ChipDevice.phase.ended chip.device.ChipDevice.phase.Reads.Learnt
device_phase_determined c x y = equation_determines

pub device_limits_determined : Determines chip_says.device.ChipDevice.limits.ended chip.device.ChipDevice.limits.Reads.Learnt
device_limits_determined c x y = equation_determines

pub device_pins_determined : Determines chip_says.device.ChipDevice.pins.ended chip.device.ChipDevice.pins.Reads.Learnt
device_pins_determined c x y = equation_determines

pub device_accept_determined : Determines chip_says.device.ChipDevice.accept.ended chip.device.ChipDevice.accept.Reads.Learnt
device_accept_determined c x y p q = equations_determine (p.1, p.0) (q.1, q.0)

pub answer_determined : Determines chip_says.Chip.answer.ended chip.Chip.answer.Reads.Learnt
answer_determined c x y = equation_determines

pub chip_phase_determined : Determines chip_says.holder.ChipHolder.phase.ended chip.holder.ChipHolder.phase.Reads.Learnt
chip_phase_determined c x y = equation_determines

pub chip_runs_determined : Determines chip_says.holder.ChipHolder.runs.ended chip.holder.ChipHolder.runs.Reads.Learnt
chip_runs_determined c x y = equation_determines

pub chip_edition_determined : Determines chip_says.holder.ChipHolder.edition.ended chip.holder.ChipHolder.edition.Reads.Learnt
chip_edition_determined c x y = equation_determines

pub chip_word_determined : Determines chip_says.holder.ChipHolder.word.ended chip.holder.ChipHolder.word.Reads.Learnt
chip_word_determined c x y = equation_determines

pub chip_channel_determined : Determines chip_says.holder.ChipHolder.channel.ended chip.holder.ChipHolder.channel.Reads.Learnt
chip_channel_determined c x y = equation_determines

pub chip_outside_determined : Determines chip_says.holder.ChipHolder.outside.ended chip.holder.ChipHolder.outside.Reads.Learnt
chip_outside_determined c x y = equation_determines

pub chip_latch_c_determined : Determines chip_says.holder.ChipHolder.latch_c.ended chip.holder.ChipHolder.latch_c.Reads.Learnt
chip_latch_c_determined c x y = equation_determines

pub chip_outside_c_determined : Determines chip_says.holder.ChipHolder.outside_c.ended chip.holder.ChipHolder.outside_c.Reads.Learnt
chip_outside_c_determined c x y = equation_determines

pub chip_enables_determined : Determines chip_says.holder.ChipHolder.enables.ended chip.holder.ChipHolder.enables.Reads.Learnt
chip_enables_determined c x y = equation_determines

pub chip_put_phase_determined : Determines chip_says.holder.ChipHolder.put_phase.ended chip.holder.ChipHolder.put_phase.Reads.Learnt
chip_put_phase_determined c x y p q = equations_determine (refl, (p (holds_any c.1.1.0)).held) (refl, (q (holds_any c.1.1.0)).held)

pub chip_put_word_determined : Determines chip_says.holder.ChipHolder.put_word.ended chip.holder.ChipHolder.put_word.Reads.Learnt
chip_put_word_determined c x y p q = equations_determine (refl, p.held) (refl, q.held)

pub chip_put_channel_determined : Determines chip_says.holder.ChipHolder.put_channel.ended chip.holder.ChipHolder.put_channel.Reads.Learnt
chip_put_channel_determined c x y p q = equations_determine (refl, p.held) (refl, q.held)

pub chip_put_latch_determined : Determines chip_says.holder.ChipHolder.put_latch.ended chip.holder.ChipHolder.put_latch.Reads.Learnt
chip_put_latch_determined c x y p q = equations_determine (refl, p.held) (refl, q.held)

pub chip_put_outside_determined : Determines chip_says.holder.ChipHolder.put_outside.ended chip.holder.ChipHolder.put_outside.Reads.Learnt
chip_put_outside_determined c x y p q = equations_determine (refl, p.held) (refl, q.held)

pub chip_put_latch_c_determined : Determines chip_says.holder.ChipHolder.put_latch_c.ended chip.holder.ChipHolder.put_latch_c.Reads.Learnt
chip_put_latch_c_determined c x y p q = equations_determine (refl, p.held) (refl, q.held)

pub chip_put_outside_c_determined : Determines chip_says.holder.ChipHolder.put_outside_c.ended chip.holder.ChipHolder.put_outside_c.Reads.Learnt
chip_put_outside_c_determined c x y p q = equations_determine (refl, p.held) (refl, q.held)

pub chip_put_enables_determined : Determines chip_says.holder.ChipHolder.put_enables.ended chip.holder.ChipHolder.put_enables.Reads.Learnt
chip_put_enables_determined c x y p q = equations_determine (refl, p.held) (refl, q.held)
