-- INTR as the sheet gives it, in every state: the equation under its figure of mode 2, and each half alone in mode 1 ("Handshake").
-- Rests on ChannelPins, Interrupts, control's ModeTwo and Strobed, and chip's ByReason.
use Rattle.std.proofs.Common.{◌≡◌, ◌∙◌, refl, ap, sym, true, false, not, ◌||◌, ℕ}
use mathlib.Core.Bool.{or-false}
use borrow.Author.Tests.{not-true}
use Rattle.control.specs.declared.Group.{Group}
use Rattle.control.specs.declared.Group.TheVariants.{A}
use Rattle.control.specs.Mode.{mode_of, input_of}
use Rattle.control.proofs.ModeTwo.{mode_2_both_ways}
use Rattle.control.proofs.Strobed.{mode_1_takes, mode_1_gives}
use Rattle.chip.specs.declared.channel.Side.{Side}
use Rattle.chip.specs.declared.channel.Side.TheVariants.{Input, Output}
use Rattle.chip.specs.declared.Chip.{Chip}
use Rattle.chip.specs.Handshakes.{strobed, running}
use Rattle.chip.specs.Status.{request_of, intr_of}
use Rattle.chip.proofs.ByReason.{quiet}
use Rattle.laws.specs.Seen.{pin, intr_pin}
use Rattle.laws.specs.Halves.{half, other, IntrInMode1, IntrInMode2}
use Rattle.laws.proofs.ChannelPins.{intr_pin_lem}
use Rattle.laws.proofs.Interrupts.{half_is, cycle_drops_half}

-- Mode 2: the pin is either half.
intr_in_mode_2 : (c : Chip) → mode_of c.core.word A ≡ 2 → pin c 3 ≡ (half c A Input || half c A Output)
unfolding intr_of
intr_in_mode_2 c two =
    let both = mode_2_both_ways c.core.word A two in
    intr_pin_lem c A Input both.taking
    ∙ rw (half_is c A Input both.taking, half_is c A Output both.giving)

-- Mode 1: only one side is strobed, and the pin is its half.
one_side : (w : ℕ) (g : Group) (s : Side) → mode_of w g ≡ 1 → strobed w g s ≡ true → strobed w g (other s) ≡ false
one_side w g Input one on = mode_1_gives w g one ∙ ap not (sym (mode_1_takes w g one) ∙ on)
one_side w g Output one on = mode_1_takes w g one ∙ not-true (input_of w g) (sym (mode_1_gives w g one) ∙ on)

either_half : (c : Chip) (g : Group) (s : Side) → request_of c g (other s) ≡ false → intr_of c g ≡ request_of c g s
unfolding intr_of
either_half c g Input none = rw (none) (or-false (request_of c g Input))
either_half c g Output none = rw (none)

intr_in_mode_1 : (c : Chip) (g : Group) (s : Side) → mode_of c.core.word g ≡ 1
    → strobed c.core.word g s ≡ true → pin c (intr_pin g) ≡ half c g s
intr_in_mode_1 c g s one on =
    intr_pin_lem c g s on ∙ either_half c g s (quiet c g (other s) (one_side c.core.word g s one on)) ∙ half_is c g s on

-- So INTR is low in mode 1 while the own cycle runs, and in mode 2 it is the other half.
intr_low_in_own_cycle : (c : Chip) (g : Group) (s : Side) → mode_of c.core.word g ≡ 1
    → strobed c.core.word g s ≡ true → running c.phase g s ≡ true → pin c (intr_pin g) ≡ false
intr_low_in_own_cycle c g s one on r =
    intr_pin_lem c g s on ∙ either_half c g s (quiet c g (other s) (one_side c.core.word g s one on)) ∙ cycle_drops_half c g s r

both_sides : (w : ℕ) (s : Side) → mode_of w A ≡ 2 → strobed w A s ≡ true
both_sides w Input two = (mode_2_both_ways w A two).taking
both_sides w Output two = (mode_2_both_ways w A two).giving

other_other : (s : Side) → other (other s) ≡ s
other_other Input = refl
other_other Output = refl

intr_in_own_cycle_of_mode_2 : (c : Chip) (s : Side) → mode_of c.core.word A ≡ 2
    → running c.phase A s ≡ true → pin c 3 ≡ half c A (other s)
intr_in_own_cycle_of_mode_2 c s two r =
    let on = both_sides c.core.word (other s) two in
    intr_pin_lem c A (other s) on ∙ either_half c A (other s) (rw (other_other s) (cycle_drops_half c A s r)) ∙ half_is c A (other s) on

pub in_mode_1 : (c : Chip) (g : Group) (s : Side) → mode_of c.core.word g ≡ 1 → strobed c.core.word g s ≡ true → IntrInMode1 c g s
in_mode_1 c g s one on = record { shown = intr_in_mode_1 c g s one on; own_cycle = intr_low_in_own_cycle c g s one on }

pub in_mode_2 : (c : Chip) → mode_of c.core.word A ≡ 2 → IntrInMode2 c
in_mode_2 c two = record { shown = intr_in_mode_2 c two; own_cycle = λ s. intr_in_own_cycle_of_mode_2 c s two }
