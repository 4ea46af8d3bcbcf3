-- Two of the errors seen in other models, each forbidden in every state: a port C write that changes upper free bits in mode 1, and a read of
-- another port that drops INTR.
-- Rests on ChannelPins, PortC, Halves, and chip's Ends.
use Rattle.std.proofs.Common.{◌≡◌, ◌∙◌, refl, sym, ap₂, Bool, true, false, not, ◌||◌, ℕ, ◌<◌, ◌≤◌, ltb, le-ltb}
use mathlib.Core.Bool.{and-false}
use Rattle.bits.specs.Bit.{bit_of}
use Rattle.bus.specs.declared.Phase.TheVariants.{Idle, Writing}
use Rattle.control.specs.declared.Group.{Group}
use Rattle.control.specs.declared.Group.TheVariants.{A, B}
use Rattle.control.specs.Role.{Role, input, output, INTR, IBF, OBF, STB, ACK, role_of}
use Rattle.chip.specs.declared.channel.Side.{Side}
use Rattle.chip.specs.declared.channel.Side.TheVariants.{Input, Output}
use Rattle.chip.specs.declared.Core.{Core}
use Rattle.chip.specs.declared.Chip.{Chip}
use Rattle.chip.specs.State.{with_latch}
use Rattle.chip.specs.Handshakes.{group_at, own_address}
use Rattle.chip.specs.Status.{flag_at, request_of, intr_of}
use Rattle.chip.specs.Write.{latch_written, after_write_ends}
use Rattle.chip.specs.Pins.{level_as}
use Rattle.chip.specs.Step.{on_bus, step_of}
use Rattle.chip.proofs.Ends.{write_ends}
use Rattle.laws.specs.Seen.{pin}
use Rattle.laws.specs.PlainBits.{handshake, free_output}
use Rattle.laws.specs.OtherModels.{UpperStays}
use Rattle.laws.proofs.ChannelPins.{pin_by_role}
use Rattle.laws.proofs.PortC.{bits_written}
use Rattle.laws.proofs.Halves.{read_leaves}

-- A port C write beside a handshake of group A leaves bits 7 to 4 of the latch.
upper_stays : (w x d n : ℕ) → handshake w A ≡ true → 4 ≤ n → n < 8 → bit_of (latch_written w x d) n ≡ bit_of x n
upper_stays w x d n beside above below =
    let none : (ltb n 4 || not (handshake w A)) ≡ false = rw (le-ltb _ _ above, beside) in
    bits_written w x d n below ∙ rw (none, and-false (free_output w n))

write_leaves_upper : (c : Chip) (b x d n : ℕ) → c.phase ≡ Writing 2 b → handshake c.core.word A ≡ true → 4 ≤ n → n < 8
    → bit_of (step_of c 2 x d).state.core.c.latch n ≡ bit_of c.core.c.latch n
unfolding after_write_ends
write_leaves_upper c b x d n phase beside above below =
    rw (write_ends c 2 b x d phase) (upper_stays c.core.word c.core.c.latch b n beside above below)

-- So do the pins that show them.
flag_same : (c : Core) (x : ℕ) (g : Group) (s : Side) → flag_at (with_latch c x) g s ≡ flag_at c g s
flag_same c x A s = refl
flag_same c x B s = refl

intr_same : (c : Chip) (b x : ℕ) (g : Group) → c.phase ≡ Writing 2 b → intr_of (on_bus Idle c.edition (with_latch c.core x)) g ≡ intr_of c g
unfolding intr_of request_of
intr_same c b x A phase = rw (phase)
intr_same c b x B phase = rw (phase)

level_same : (c : Chip) (b x n : ℕ) (r : Role) → c.phase ≡ Writing 2 b → bit_of x n ≡ bit_of c.core.c.latch n
    → level_as (on_bus Idle c.edition (with_latch c.core x)) n r ≡ level_as c n r
level_same c b x n input phase same = refl
level_same c b x n output phase same = same
level_same c b x n INTR phase same = intr_same c b x (group_at n) phase
level_same c b x n IBF phase same = flag_same c.core x (group_at n) Input
level_same c b x n OBF phase same = flag_same c.core x (group_at n) Output
level_same c b x n STB phase same = refl
level_same c b x n ACK phase same = refl

write_leaves_upper_pins : (c : Chip) (b x d n : ℕ) → c.phase ≡ Writing 2 b → handshake c.core.word A ≡ true → 4 ≤ n → n < 8
    → pin (step_of c 2 x d).state n ≡ pin c n
unfolding after_write_ends
write_leaves_upper_pins c b x d n phase beside above below =
    let latch = latch_written c.core.word c.core.c.latch b in
    rw (write_ends c 2 b x d phase)
    (pin_by_role (on_bus Idle c.edition (with_latch c.core latch)) n below
    ∙ level_same c b latch n (role_of c.core.word n) phase (upper_stays c.core.word c.core.c.latch b n beside above below)
    ∙ sym (pin_by_role c n below))

-- The end of a write to port C leaves both.
pub upper_left : (c : Chip) (b x d : ℕ) → c.phase ≡ Writing 2 b → handshake c.core.word A ≡ true → UpperStays c (step_of c 2 x d).state
upper_left c b x d phase beside = record {
  bits = λ n. write_leaves_upper c b x d n phase beside;
  pins = λ n. write_leaves_upper_pins c b x d n phase beside;
}

-- The beginning of a read of another port leaves a group's INTR: of reads, only the own port's drops it.
pub read_elsewhere_keeps_intr : (c : Chip) (g : Group) (x d : ℕ) → own_address x g ≡ false → intr_of (step_of c 1 x d).state g ≡ intr_of c g
unfolding intr_of
read_elsewhere_keeps_intr c g x d other = ap₂ (λ (i o : Bool). i || o) (read_leaves c g Input x d other) (read_leaves c g Output x d refl)
