-- What the pins show and what a read of port C tells, by conditions, enables and plain bits: flags, INTR and free pins ("Port C roles", "Reads and
-- pins").
-- Rests on PlainBits, ChannelPins and Interrupts, and on chip's ByReason.
use Rattle.std.proofs.Common.{◌≡◌, ◌↔◌, ◌∙◌, refl, ap, ap₂, sym, Bool, true, false, cond, not, ◌&&◌, ◌||◌, ℕ, ◌<◌, lit<}
use Rattle.bits.proofs.Logic.{contrary}
use Rattle.control.specs.declared.Group.{Group}
use Rattle.control.specs.declared.Group.TheVariants.{A, B}
use Rattle.control.specs.Role.{Role, input, output, role_of}
use Rattle.control.specs.Pins.{handshake_role}
use Rattle.bits.specs.Bit.{bit_of}
use Rattle.chip.specs.declared.channel.Side.{Side}
use Rattle.chip.specs.declared.channel.Side.TheVariants.{Input, Output}
use Rattle.chip.specs.declared.channel.Fill.{Fill}
use Rattle.chip.specs.declared.channel.Fill.TheVariants.{Empty, Waiting, Fetching}
use Rattle.chip.specs.Channel.{flag_of}
use Rattle.chip.specs.declared.Chip.{Chip}
use Rattle.chip.specs.State.{channel_of}
use Rattle.chip.specs.Handshakes.{strobed, flag_pin}
use Rattle.chip.proofs.Flags.{flag_role}
use Rattle.chip.specs.Status.{request_of, intr_of}
use Rattle.chip.proofs.ByReason.{quiet}
use Rattle.chip.specs.Reads.{read_as}
use Rattle.chip.specs.Pins.{is_driven, level_as}
use Rattle.laws.specs.Seen.{pin, told, intr_pin}
use Rattle.laws.specs.PlainBits.{used, into_c, free_input, free_output, handshake_on}
use Rattle.laws.specs.Halves.{half}
use Rattle.laws.specs.ChannelPins.{FlagShown, either_half, PinsShown, FreePin}
use Rattle.laws.proofs.PlainBits.{strobed_by_bits, role_by_bits}
use Rattle.laws.proofs.ChannelPins.{flag_role_lem, intr_role, pin_by_role, told_by_role, flag_pin_lem, line_pin_lem, intr_pin_lem, told_enable}
use Rattle.laws.proofs.Interrupts.{half_is}

-- A flag that is up or down, by the condition.
ibf_is : (p : Bool) (f : Fill) → p ≡ flag_of Input f → (p ≡ true) ↔ (¬ (f ≡ Empty))
unfolding flag_of
ibf_is p Empty is = (λ up. absurd (contrary p is up), λ full. absurd (full refl))
ibf_is p Waiting is = (λ up e. cc, λ full. is)
ibf_is p Fetching is = (λ up e. cc, λ full. is)

obf_is : (p : Bool) (f : Fill) → p ≡ flag_of Output f → (p ≡ false) ↔ (f ≡ Waiting)
unfolding flag_of
obf_is p Empty is = (λ down. absurd (contrary p down is), λ e. cc)
obf_is p Waiting is = (λ down. refl, λ e. is)
obf_is p Fetching is = (λ down. absurd (contrary p down is), λ e. cc)

-- The role of a free pin.
free_input_role : (w n : ℕ) → n < 8 → free_input w n ≡ true → role_of w n ≡ input
free_input_role w n below free = role_by_bits w n below ∙ go (used w n) (into_c w n) free
  where
    go : (in_use inward : Bool) → (not in_use && inward) ≡ true → cond in_use (handshake_role (bit_of w 1) n) (cond (not in_use && inward) input output) ≡ input
    go true inward free = absurd (contrary false refl free)
    go false true free = refl
    go false false free = absurd (contrary false refl free)

free_output_role : (w n : ℕ) → n < 8 → free_output w n ≡ true → role_of w n ≡ output
free_output_role w n below free = role_by_bits w n below ∙ go (used w n) (into_c w n) free
  where
    go : (in_use inward : Bool) → (not in_use && not inward) ≡ true
        → cond in_use (handshake_role (bit_of w 1) n) (cond (not in_use && inward) input output) ≡ output
    go true inward free = absurd (contrary false refl free)
    go false true free = absurd (contrary false refl free)
    go false false free = refl

module _ (c : Chip) where
  -- What is driven is told as it is shown.
  told_as_shown : (n : ℕ) (r : Role) → n < 8 → role_of c.core.word n ≡ r → is_driven r ≡ true → told c n ≡ pin c n
  told_as_shown n r below role drives = told_by_role c n below ∙ sym (pin_by_role c n below ∙ rw (ap is_driven role ∙ drives))

  flag_told : (g : Group) (s : Side) → strobed c.core.word g s ≡ true → told c (flag_pin g s) ≡ pin c (flag_pin g s)
  flag_told g s on = told_as_shown (flag_pin g s) (flag_role s) (below g s) (flag_role_lem c.core.word g s on) (drives s)
    where
      below : (g : Group) (s : Side) → flag_pin g s < 8
      below A Input = lit< tt
      below A Output = lit< tt
      below B s = lit< tt

      drives : (s : Side) → is_driven (flag_role s) ≡ true
      drives Input = refl
      drives Output = refl

  intr_told : (g : Group) (s : Side) → strobed c.core.word g s ≡ true → told c (intr_pin g) ≡ pin c (intr_pin g)
  intr_told A s on = told_as_shown 3 _ (lit< tt) (intr_role c.core.word A s on) refl
  intr_told B s on = told_as_shown 0 _ (lit< tt) (intr_role c.core.word B s on) refl

  flag_shown : (g : Group) (s : Side) → strobed c.core.word g s ≡ true → FlagShown c g s
  flag_shown g Input on = ibf_is (pin c (flag_pin g Input)) (channel_of c.core g Input).fill (flag_pin_lem c g Input on)
  flag_shown g Output on = obf_is (pin c (flag_pin g Output)) (channel_of c.core g Output).fill (flag_pin_lem c g Output on)

  -- A half that has no handshake is none, and asks for nothing.
  asks_by_half : (g : Group) (s : Side) → request_of c g s ≡ (handshake_on c.core.word g s && half c g s)
  asks_by_half g s = go (strobed c.core.word g s) refl
    where
      go : (on : Bool) → strobed c.core.word g s ≡ on → request_of c g s ≡ (handshake_on c.core.word g s && half c g s)
      go true on = half_is c g s on ∙ rw (sym (strobed_by_bits c.core.word g s) ∙ on)
      go false off = quiet c g s off ∙ rw (sym (strobed_by_bits c.core.word g s) ∙ off)

  intr_shown : (g : Group) (s : Side) → strobed c.core.word g s ≡ true → pin c (intr_pin g) ≡ either_half c g
  unfolding intr_of
  intr_shown g s on = intr_pin_lem c g s on ∙ ap₂ (λ (i o : Bool). i || o) (asks_by_half g Input) (asks_by_half g Output)

  pub pins_shown : (g : Group) (s : Side) → strobed c.core.word g s ≡ true → PinsShown c g s
  pins_shown g s on = record {
    flag = flag_shown g s on;
    flag_told = flag_told g s on;
    line = line_pin_lem c g s on;
    enable = told_enable c g s on;
    interrupt = intr_shown g s on;
    interrupt_told = intr_told g s on;
  }

  pub free_pin : (n : ℕ) → n < 8 → FreePin c n
  free_pin n below = record {
    input_shows = λ free. pin_by_role c n below ∙ ap (level_as c n) (free_input_role c.core.word n below free);
    input_tells = λ free. told_by_role c n below ∙ ap (read_as c n) (free_input_role c.core.word n below free);
    output_shows = λ free. pin_by_role c n below ∙ ap (level_as c n) (free_output_role c.core.word n below free);
    output_tells = λ free. told_by_role c n below ∙ ap (read_as c n) (free_output_role c.core.word n below free);
  }
