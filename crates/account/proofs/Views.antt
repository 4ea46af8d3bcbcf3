-- What is seen of a chip is what an account that agrees with it shows.
-- Rests on Agrees, Here, Interrupts, Words, Columns and Signals, and on bits' Sum.
use Rattle.std.proofs.Common.{◌≡◌, ◌∙◌, refl, ap, ap₂, sym, Bool, true, false, cond, not, ℕ, zero, suc, ◌<◌, arith, eqb, lit<, ne_eqb}
use Rattle.bits.specs.Bit.{bit_of, with_bit}
use Rattle.bits.specs.Sum.{byte_by}
use Rattle.bits.proofs.Sum.{byte_same}
use Rattle.control.specs.declared.Group.{Group}
use Rattle.control.specs.declared.Group.TheVariants.{A, B}
use Rattle.control.specs.Role.{role_of}
use Rattle.control.specs.Role
use Rattle.chip.specs.declared.channel.Side.{Side}
use Rattle.chip.specs.declared.channel.Side.TheVariants.{Input, Output}
use Rattle.chip.specs.Channel.{flag_of}
use Rattle.chip.specs.declared.Chip.{Chip}
use Rattle.chip.specs.State.{port_of}
use Rattle.chip.specs.Handshakes.{group_at, enable_of}
use Rattle.chip.specs.Reads.{read_port, read_as, read_lines, read_control, read_of}
use Rattle.chip.specs.Pins.{drives_port, pins_of_port, is_driven, level_as, pins_of_lines, pins_of}
use Rattle.fates.specs.Effects.{strobe_pin}
use Rattle.account.specs.Summary.{Column, plain_in, plain_out, strobed_in, strobed_out, both_ways, column_of, takes, keeps, Signal, io, INTR, IBF, OBF, STB, ACK, signal_at, is_in, driven}
use Rattle.account.specs.Account.{Account}
use Rattle.account.specs.Views.{port_read, drives, driving, port_levels, told_of, told, pin_driven, pin_level, levels_shown, mask_shown, port_answer, read_answer}
use Rattle.account.specs.Promise.{bit_here}
use Rattle.account.proofs.Words.{with_bit_7_bits}
use Rattle.account.proofs.Columns.{takes_same, keeps_same, is_two, two_same, column_b}
use Rattle.account.proofs.Signals.{role_by, role_same, by_signal}
use Rattle.account.proofs.Agrees.{Agrees}
use Rattle.account.proofs.Here.{column_here, signal_here, in_here, lines_here, levels_here}
use Rattle.account.proofs.Interrupts.{intr_same}

-- Above 2 there is no port, and above 3 no address.
no_port_lem : (p k : ℕ) → k < 3 → eqb (suc (suc (suc p))) k ≡ false
no_port_lem p k h = ne_eqb (suc (suc (suc p))) k (λ e. omega (arith, e, h))

no_address_lem : (p : ℕ) → eqb (suc (suc (suc (suc p)))) 3 ≡ false
no_address_lem p = ne_eqb (suc (suc (suc (suc p)))) 3 (λ e. omega (arith, e))

group_at_lem : (g : Group) (s : Side) → group_at (strobe_pin g s) ≡ g
group_at_lem A Input = refl
group_at_lem A Output = refl
group_at_lem B Input = refl
group_at_lem B Output = refl

module _ (c : Chip) (a : Account) (k : Agrees c a) where
  abbrev w : ℕ
  w = c.core.word

  -- Ports A and B, column by column.
  read_same : (g : Group) → read_port w g (port_of c.core g) ≡ port_answer a g
  unfolding read_port
  read_same g = rw (column_here c a k g, ← takes_same w g, ← keeps_same w g) (go (column_of w g))
    where
      go : (col : Column)
          → cond (takes col) (port_of c.core g).input.latch (cond (keeps col) (port_of c.core g).output.latch (port_of c.core g).outside) ≡ port_read a g col
      go plain_in = sym (levels_here c a k g)
      go plain_out = sym (k.output g)
      go strobed_in = sym (k.input g)
      go strobed_out = sym (k.output g)
      go both_ways = sym (k.input g)

  drives_same : (g : Group) → drives_port c.core g ≡ driving a g
  unfolding drives_port
  drives_same A = rw (column_here c a k A, ← two_same w A, ← keeps_same w A) (go (column_of w A))
    where
      go : (col : Column) → cond (is_two col) (not (bit_of c.core.c.outside 6)) (keeps col) ≡ drives a.surroundings A col
      go plain_in = refl
      go plain_out = refl
      go strobed_in = refl
      go strobed_out = refl
      go both_ways = ap not (sym (lines_here c a k 6))
  drives_same B = rw (column_here c a k B, ← keeps_same w B) (go (bit_of w 2) (bit_of w 1))
    where
      go : (one taking : Bool) → keeps (column_b one taking) ≡ drives a.surroundings B (column_b one taking)
      go true true = refl
      go true false = refl
      go false true = refl
      go false false = refl

  levels_same : (g : Group) → (pins_of_port (port_of c.core g) (drives_port c.core g)).levels ≡ port_levels a g
  unfolding pins_of_port
  levels_same g = rw (drives_same g, k.output g, levels_here c a k g)

  mask_same : (g : Group) → (pins_of_port (port_of c.core g) (drives_port c.core g)).driven ≡ cond (driving a g) 0xff 0
  unfolding pins_of_port
  mask_same g = rw (drives_same g)

  -- Port C, pin by pin.
  abbrev Told : ℕ → Signal → Type 0
  Told n r = signal_at w n ≡ r → read_as c n (role_by r (is_in w n)) ≡ told_of a n r

  told_free : (n : ℕ) → n < 8 → Told n io
  told_free n hn free = rw (in_here c a k n, lines_here c a k n, k.bit n hn ∙ ap (bit_here c.core n) free) (go (is_in w n))
    where
      go : (inward : Bool) → read_as c n (cond inward Role.input Role.output) ≡ cond inward (bit_of c.core.c.outside n) (bit_of c.core.c.latch n)
      go true = refl
      go false = refl

  told_line : (n : ℕ) → n < 8 → (g : Group) (s : Side) → n ≡ strobe_pin g s → (r : Signal) → signal_at w n ≡ r → bit_here c.core n r ≡ enable_of c.core.inte g s
      → enable_of c.core.inte (group_at n) s ≡ a.bit n
  told_line n hn g s at r e held = rw (at, group_at_lem g s) (sym (rw (← at) (k.bit n hn ∙ ap (bit_here c.core n) e ∙ held)))

  told_same : (n : ℕ) → n < 8 → read_as c n (role_of w n) ≡ told a n
  unfolding flag_of
  told_same n hn =
      ap (read_as c n) (role_same w n hn)
      ∙ by_signal (Told n) n (record {
        free = told_free n hn;
        interrupt = λ e. intr_same c a k (group_at n);
        full = λ e. sym (k.ibf (group_at n));
        vacant = λ e. sym (k.obf (group_at n));
        strobe = λ g at e. told_line n hn g Input at (STB g) e refl;
        acknowledge = λ g at e. told_line n hn g Output at (ACK g) e refl;
      })
      w hn refl
      ∙ sym (ap (told_of a n) (signal_here c a k n))

  driven_same : (n : ℕ) → n < 8 → is_driven (role_of w n) ≡ pin_driven a n
  driven_same n hn =
      ap is_driven (role_same w n hn) ∙ go (signal_at w n) (is_in w n)
      ∙ sym (ap₂ driven (signal_here c a k n) (in_here c a k n))
    where
      go : (r : Signal) (inward : Bool) → is_driven (role_by r inward) ≡ driven r inward
      go io true = refl
      go io false = refl
      go (INTR g) inward = refl
      go (IBF g) inward = refl
      go (OBF g) inward = refl
      go (STB g) inward = refl
      go (ACK g) inward = refl

  level_same : (n : ℕ) → n < 8 → level_as c n (role_of w n) ≡ pin_level a n
  level_same n hn = cc (driven_same n hn, told_same n hn, lines_here c a k n)

  -- Each port, and what is none.
  pub levels_shown_lem : (p : ℕ) → (pins_of c p).levels ≡ levels_shown a p
  unfolding pins_of pins_of_lines
  levels_shown_lem zero = levels_same A
  levels_shown_lem (suc zero) = levels_same B
  levels_shown_lem (suc (suc zero)) = byte_same (λ n. level_as c n (role_of w n)) (pin_level a) level_same
  levels_shown_lem (suc (suc (suc p))) = rw (no_port_lem p 0 (lit< tt), no_port_lem p 1 (lit< tt), no_port_lem p 2 (lit< tt))

  pub mask_shown_lem : (p : ℕ) → (pins_of c p).driven ≡ mask_shown a p
  unfolding pins_of pins_of_lines
  mask_shown_lem zero = mask_same A
  mask_shown_lem (suc zero) = mask_same B
  mask_shown_lem (suc (suc zero)) = byte_same (λ n. is_driven (role_of w n)) (pin_driven a) driven_same
  mask_shown_lem (suc (suc (suc p))) = rw (no_port_lem p 0 (lit< tt), no_port_lem p 1 (lit< tt), no_port_lem p 2 (lit< tt))

  -- Control, bit by bit.
  control_same : read_control w ≡ byte_by (bit_of a.surroundings.word)
  unfolding read_control with_bit
  control_same =
      byte_same (λ n. cond (eqb n 7) true (bit_of w n)) (bit_of a.surroundings.word)
      (λ n hn. rw k.surroundings (with_bit_7_bits w n hn))

  pub read_answered : (p : ℕ) → read_of c p ≡ read_answer a p
  unfolding read_of read_lines
  read_answered zero = read_same A
  read_answered (suc zero) = read_same B
  read_answered (suc (suc zero)) = byte_same (λ n. read_as c n (role_of w n)) (told a) told_same
  read_answered (suc (suc (suc zero))) = control_same
  read_answered (suc (suc (suc (suc p)))) =
      rw (no_port_lem (suc p) 0 (lit< tt), no_port_lem (suc p) 1 (lit< tt), no_port_lem (suc p) 2 (lit< tt), no_address_lem p)
