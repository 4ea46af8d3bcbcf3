-- Bit set/reset changes one bit of port C's latch, or one enable, or forces one flag, or does nothing, by plain bits of the mode word
-- ("Writes and bit set/reset", "Forcing the flags").
-- Rests on PlainBits, bits' BitLaws, and chip's SettingsAfter and Ends.
use Rattle.std.proofs.Common.{◌≡◌, ◌∙◌, refl, ap, subst, Bool, true, false, cond, not, ◌&&◌, ◌||◌, ℕ, ◌/◌, ◌%◌, ◌<◌, arith, T, eqb}
use Rattle.bits.specs.Bit.{bit_of}
use Rattle.bits.proofs.BitLaws.{bit_of_with}
use Rattle.bus.specs.declared.Phase.TheVariants.{Writing}
use Rattle.control.specs.declared.Group.{Group}
use Rattle.control.specs.declared.Group.TheVariants.{A, B}
use Rattle.control.specs.Role.{input, output}
use Rattle.control.specs.Pins.{handshake_role}
use Rattle.chip.specs.declared.channel.Side.{Side}
use Rattle.chip.specs.declared.channel.Side.TheVariants.{Input, Output}
use Rattle.chip.specs.Moves.{after_force}
use Rattle.chip.specs.declared.Enables.{Enables}
use Rattle.chip.specs.declared.Core.{Core}
use Rattle.chip.specs.declared.Chip.{Chip}
use Rattle.chip.specs.State.{channel_of}
use Rattle.chip.specs.Handshakes.{line_pin, flag_pin, enable_of}
use Rattle.chip.specs.ControlWord.{set_as, pin_set}
use Rattle.chip.proofs.SettingsAfter.{pin_put, bit_word_lem}
use Rattle.chip.specs.Write.{after_write_ends}
use Rattle.chip.specs.Step.{step_of}
use Rattle.chip.proofs.Ends.{write_ends}
use Rattle.laws.specs.PlainBits.{used, into_c, free_output, is_line_pin, is_flag_pin}
use Rattle.laws.specs.OnePin.{OnePin, PinPut}
use Rattle.laws.proofs.PlainBits.{by_pin, strobed_by_bits, role_by_bits}

-- The enables after a pin that a handshake uses is put: those of the channels of which it is the line.
abbrev put : Enables → ℕ → Bool → Enables
put e n v = record { input = cond (eqb n 4) v e.input; output = cond (eqb n 6) v e.output; b = cond (eqb n 2) v e.b }

put_enable : (e : Enables) (n : ℕ) (v : Bool) (g : Group) (s : Side) → enable_of (put e n v) g s ≡ cond (eqb n (line_pin g s)) v (enable_of e g s)
put_enable e n v A Input = refl
put_enable e n v A Output = refl
put_enable e n v B s = refl

-- What is put besides the channels: a bit of the latch, an enable, or nothing at all.
record Put (c : Core) (n : ℕ) (v free in_use : Bool) (after : Core) : Type 0 where
  bits : (k : ℕ) → k < 8 → bit_of after.c.latch k ≡ cond (free && eqb k n) v (bit_of c.c.latch k)
  enables : (g : Group) (s : Side) → enable_of after.inte g s ≡ cond (in_use && eqb n (line_pin g s)) v (enable_of c.inte g s)
  nothing : (free || (in_use && (is_line_pin n || is_flag_pin n))) ≡ false → after ≡ c

module _ (c : Core) (v : Bool) where
  -- A pin that a handshake uses, by its number.
  abbrev InHandshake : Bool → ℕ → Type 0
  InHandshake taking n = Put c n v false true (set_as c n v (handshake_role taking n))

  of_line : (taking : Bool) (n : ℕ) → (set_as c n v (handshake_role taking n)).c ≡ c.c → (set_as c n v (handshake_role taking n)).inte ≡ put c.inte n v
      → ((is_line_pin n || is_flag_pin n) ≡ false → set_as c n v (handshake_role taking n) ≡ c) → InHandshake taking n
  of_line taking n lines enables none = record {
    bits = λ k hk. ap (λ l. bit_of l.latch k) lines;
    enables = λ g s. ap (λ e. enable_of e g s) enables ∙ put_enable c.inte n v g s;
    nothing = none;
  }

  -- Pins 0 and 3, INTR, have nothing to put.
  in_handshake : (taking : Bool) (n : ℕ) → n < 8 → InHandshake taking n
  in_handshake true =
      by_pin (InHandshake true) (of_line true 0 refl refl (λ none. refl)) (of_line true 1 refl refl (λ none. absurd (subst T none tt)))
      (of_line true 2 refl refl (λ none. absurd (subst T none tt))) (of_line true 3 refl refl (λ none. refl))
      (of_line true 4 refl refl (λ none. absurd (subst T none tt))) (of_line true 5 refl refl (λ none. absurd (subst T none tt)))
      (of_line true 6 refl refl (λ none. absurd (subst T none tt))) (of_line true 7 refl refl (λ none. absurd (subst T none tt)))
  in_handshake false =
      by_pin (InHandshake false) (of_line false 0 refl refl (λ none. refl)) (of_line false 1 refl refl (λ none. absurd (subst T none tt)))
      (of_line false 2 refl refl (λ none. absurd (subst T none tt))) (of_line false 3 refl refl (λ none. refl))
      (of_line false 4 refl refl (λ none. absurd (subst T none tt))) (of_line false 5 refl refl (λ none. absurd (subst T none tt)))
      (of_line false 6 refl refl (λ none. absurd (subst T none tt))) (of_line false 7 refl refl (λ none. absurd (subst T none tt)))

  module _ (n : ℕ) (hn : n < 8) where
    set : (in_use taking inward : Bool)
        → Put c n v (not in_use && not inward) in_use (set_as c n v (cond in_use (handshake_role taking n) (cond (not in_use && inward) input output)))
    set true taking inward = in_handshake taking n hn
    set false taking true = record { bits = λ k hk. refl; enables = λ g s. refl; nothing = λ none. refl }
    set false taking false = record { bits = bit_of_with c.c.latch n v; enables = λ g s. refl; nothing = λ none. absurd (subst T none tt) }

    put_so : Put c n v (free_output c.word n) (used c.word n) (pin_set c n v)
    unfolding pin_set
    put_so = rw (role_by_bits c.word n hn) (set (used c.word n) (bit_of c.word 1) (into_c c.word n))

    one_pin : OnePin c n v (free_output c.word n) (used c.word n) (pin_set c n v)
    one_pin =
        let k = pin_put c n v hn in
        record {
          word = k.surroundings.word;
          levels = k.surroundings.ports;
          lines_levels = k.surroundings.lines;
          bits = put_so.bits;
          enables = put_so.enables;
          channels = λ g s. k.channel g s
              ∙ ap (λ (on : Bool). cond (on && eqb n (flag_pin g s)) (after_force s v (channel_of c g s)) (channel_of c g s)) (strobed_by_bits c.word g s);
          nothing = put_so.nothing;
        }

set_word : (c : Core) (d : ℕ) → bit_of d 7 ≡ false → after_write_ends c 3 d ≡ pin_set c (d / 2 % 8) (bit_of d 0)
unfolding after_write_ends
set_word c d clear = bit_word_lem c d clear

-- The end of a write of a control word with bit 7 clear.
pub bit_set_changes_one : (c : Chip) (b x d : ℕ) → c.phase ≡ Writing 3 b → bit_of b 7 ≡ false
    → PinPut c.core b (step_of c 2 x d).state.core
bit_set_changes_one c b x d phase clear =
    rw (write_ends c 3 b x d phase, set_word c.core b clear) (one_pin c.core (bit_of b 0) (b / 2 % 8) (omega arith))
