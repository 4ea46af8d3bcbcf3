-- What the pins of a strobed channel show: its flag, its line, its group's INTR ("Port C roles", "Reads and pins").
-- Rests on bits' Logic, Tested and BitLaws, control's RoleWords and PinByMasks, and chip's StrobedWords, OneChannel and Flags.
use Rattle.std.proofs.Common.{◌≡◌, ◌∙◌, refl, ap, sym, subst, Bool, true, not, ◌||◌, ℕ, ◌%◌, ◌<◌, arith, T, eqb, eqb→eq, lit<, eqb-true, eq-eqb}
use mathlib.Core.Bool.{or-true}
use Rattle.bits.specs.Bit.{bit_of}
use Rattle.bits.proofs.Logic.{both}
use Rattle.bits.proofs.Tested.{all, each, bits}
use Rattle.bits.proofs.BitLaws.{bit_of_assembled}
use Rattle.control.specs.declared.Group.{Group}
use Rattle.control.specs.declared.Group.TheVariants.{A, B}
use Rattle.control.specs.Mode.{mode_of, input_of, upper_input, lower_input, strobed_input, strobed_output}
use Rattle.control.specs.Role.{Role, INTR, STB, ACK, number, uses_of, free_role, role_of}
use Rattle.control.proofs.RoleWords.{role_as_byte}
use Rattle.control.proofs.PinByMasks.{number_one}
use Rattle.chip.specs.declared.channel.Side.{Side}
use Rattle.chip.specs.declared.channel.Side.TheVariants.{Input, Output}
use Rattle.chip.specs.declared.Chip.{Chip}
use Rattle.chip.specs.Handshakes.{strobed, line_pin, flag_pin, group_at, enable_of}
use Rattle.chip.proofs.StrobedWords.{strobed_as_byte}
use Rattle.chip.proofs.OneChannel.{same_group}
use Rattle.chip.proofs.Flags.{flag_role, flag_by_role}
use Rattle.chip.specs.Status.{flag_at, intr_of}
use Rattle.chip.specs.Reads.{read_as, read_lines, read_of}
use Rattle.chip.specs.Pins.{level_as, pins_of_lines, pins_of}
use Rattle.laws.specs.Seen.{pin, told, intr_pin}

-- A role that a pin has under every mode word that strobes a channel, found by trying every byte.
role_where : (g : Group) (s : Side) (n : ℕ) (r : Role) → T (all 256 (λ w. not (strobed w g s) || eqb (number (role_of w n)) (number r)))
    → (w : ℕ) → strobed w g s ≡ true → role_of w n ≡ r
role_where g s n r t w on =
    let b = w % 256 in
    sym (role_as_byte w n)
    ∙ number_one (role_of b n) r
    (eqb→eq (number (role_of b n)) (number r)
    (subst (λ (on : Bool). T (not on || eqb (number (role_of b n)) (number r))) (strobed_as_byte w g s ∙ on)
    (each 256 (λ w. not (strobed w g s) || eqb (number (role_of w n)) (number r)) t b (omega arith))))

abbrev line_role : Side → Role
line_role Input = STB
line_role Output = ACK

pub line_role_lem : (w : ℕ) (g : Group) (s : Side) → strobed w g s ≡ true → role_of w (line_pin g s) ≡ line_role s
unfolding role_of uses_of free_role strobed_input strobed_output mode_of input_of upper_input lower_input bit_of
line_role_lem w A Input = role_where A Input 4 STB tt w
line_role_lem w A Output = role_where A Output 6 ACK tt w
line_role_lem w B Input = role_where B Input 2 STB tt w
line_role_lem w B Output = role_where B Output 2 ACK tt w

pub flag_role_lem : (w : ℕ) (g : Group) (s : Side) → strobed w g s ≡ true → role_of w (flag_pin g s) ≡ flag_role s
flag_role_lem w g s on =
    let n = flag_pin g s in
    number_one (role_of w n) (flag_role s)
    (eqb-true _ _ (both _ (same_group (group_at n) g) (flag_by_role w n (below g s) g s ∙ rw (on, eq-eqb n n refl))).0)
  where
    below : (g : Group) (s : Side) → flag_pin g s < 8
    below A Input = lit< tt
    below A Output = lit< tt
    below B s = lit< tt

-- A group has a pin for INTR exactly where a side of it is strobed.
pub intr_where : (w : ℕ) (g : Group) → eqb (number (role_of w (intr_pin g))) (number INTR) ≡ (strobed w g Input || strobed w g Output)
unfolding role_of uses_of free_role strobed_input strobed_output mode_of input_of upper_input lower_input bit_of
intr_where w g = rw (← role_as_byte w (intr_pin g), ← strobed_as_byte w g Input, ← strobed_as_byte w g Output) (of_byte_lem g (w % 256) (omega arith))
  where
    of_byte_lem : (g : Group) (w : ℕ) → w < 256
        → eqb (number (role_of w (intr_pin g))) (number INTR) ≡ (strobed w g Input || strobed w g Output)
    of_byte_lem A = bits 256 (λ w. eqb (number (role_of w 3)) (number INTR)) (λ w. strobed w A Input || strobed w A Output) tt
    of_byte_lem B = bits 256 (λ w. eqb (number (role_of w 0)) (number INTR)) (λ w. strobed w B Input || strobed w B Output) tt

pub intr_role : (w : ℕ) (g : Group) (s : Side) → strobed w g s ≡ true → role_of w (intr_pin g) ≡ INTR
intr_role w g s on = number_one (role_of w (intr_pin g)) INTR (eqb-true _ _ (intr_where w g ∙ either s on))
  where
    either : (s : Side) → strobed w g s ≡ true → (strobed w g Input || strobed w g Output) ≡ true
    either Input on = rw (on)
    either Output on = rw (on) (or-true (strobed w g Input))

-- Any pin of port C shows, and any bit of its read tells, what its role says.
pub pin_by_role : (c : Chip) (n : ℕ) → n < 8 → pin c n ≡ level_as c n (role_of c.core.word n)
unfolding pins_of pins_of_lines
pin_by_role c = bit_of_assembled (λ n. level_as c n (role_of c.core.word n))

pub told_by_role : (c : Chip) (n : ℕ) → n < 8 → told c n ≡ read_as c n (role_of c.core.word n)
unfolding read_of read_lines
told_by_role c = bit_of_assembled (λ n. read_as c n (role_of c.core.word n))

module _ (c : Chip) where
  pub flag_pin_lem : (g : Group) (s : Side) → strobed c.core.word g s ≡ true → pin c (flag_pin g s) ≡ flag_at c.core g s
  flag_pin_lem A Input on = pin_by_role c 5 (lit< tt) ∙ ap (level_as c 5) (flag_role_lem c.core.word A Input on)
  flag_pin_lem A Output on = pin_by_role c 7 (lit< tt) ∙ ap (level_as c 7) (flag_role_lem c.core.word A Output on)
  flag_pin_lem B Input on = pin_by_role c 1 (lit< tt) ∙ ap (level_as c 1) (flag_role_lem c.core.word B Input on)
  flag_pin_lem B Output on = pin_by_role c 1 (lit< tt) ∙ ap (level_as c 1) (flag_role_lem c.core.word B Output on)

  pub line_pin_lem : (g : Group) (s : Side) → strobed c.core.word g s ≡ true
      → pin c (line_pin g s) ≡ bit_of c.core.c.outside (line_pin g s)
  line_pin_lem A Input on = pin_by_role c 4 (lit< tt) ∙ ap (level_as c 4) (line_role_lem c.core.word A Input on)
  line_pin_lem A Output on = pin_by_role c 6 (lit< tt) ∙ ap (level_as c 6) (line_role_lem c.core.word A Output on)
  line_pin_lem B Input on = pin_by_role c 2 (lit< tt) ∙ ap (level_as c 2) (line_role_lem c.core.word B Input on)
  line_pin_lem B Output on = pin_by_role c 2 (lit< tt) ∙ ap (level_as c 2) (line_role_lem c.core.word B Output on)

  pub intr_pin_lem : (g : Group) (s : Side) → strobed c.core.word g s ≡ true → pin c (intr_pin g) ≡ intr_of c g
  intr_pin_lem A s on = pin_by_role c 3 (lit< tt) ∙ ap (level_as c 3) (intr_role c.core.word A s on)
  intr_pin_lem B s on = pin_by_role c 0 (lit< tt) ∙ ap (level_as c 0) (intr_role c.core.word B s on)

  pub told_enable : (g : Group) (s : Side) → strobed c.core.word g s ≡ true → told c (line_pin g s) ≡ enable_of c.core.inte g s
  told_enable A Input on = told_by_role c 4 (lit< tt) ∙ ap (read_as c 4) (line_role_lem c.core.word A Input on)
  told_enable A Output on = told_by_role c 6 (lit< tt) ∙ ap (read_as c 6) (line_role_lem c.core.word A Output on)
  told_enable B Input on = told_by_role c 2 (lit< tt) ∙ ap (read_as c 2) (line_role_lem c.core.word B Input on)
  told_enable B Output on = told_by_role c 2 (lit< tt) ∙ ap (read_as c 2) (line_role_lem c.core.word B Output on)
