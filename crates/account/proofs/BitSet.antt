-- What bit set/reset does to port C's latch and to the enables, by what the pin is.
-- Rests on Signals, and on bits' BitLaws and chip's OneChannel.
use Rattle.std.proofs.Common.{◌≡◌, ◌∙◌, refl, ap, sym, Bool, true, false, cond, ◌&&◌, ℕ, ◌<◌, eqb, eqb-true}
use mathlib.Core.Bool.{and-false, and-true}
use Rattle.bits.specs.Bit.{bit_of, with_bit}
use Rattle.bits.proofs.BitLaws.{bit_of_with}
use Rattle.control.specs.declared.Group.{Group}
use Rattle.control.specs.declared.Group.TheVariants.{A, B}
use Rattle.control.specs.Role.{Role}
use Rattle.control.specs.Pins.{is_output}
use Rattle.chip.specs.declared.channel.Side.{Side}
use Rattle.chip.specs.declared.channel.Side.TheVariants.{Input, Output}
use Rattle.chip.specs.Moves.{after_force}
use Rattle.chip.specs.declared.Enables.{Enables}
use Rattle.chip.specs.declared.Core.{Core}
use Rattle.chip.specs.Handshakes.{group_at, enable_of}
use Rattle.chip.proofs.OneChannel.{channel_lines, channel_enables}
use Rattle.chip.specs.ControlWord.{enabled, flag_put, set_as}
use Rattle.fates.specs.Effects.{strobe_pin}
use Rattle.account.specs.Summary.{Signal, io, INTR, IBF, OBF, STB, ACK, signal_at, is_in, free_out}
use Rattle.account.proofs.Signals.{role_by, by_signal}

-- What a role lets bit set/reset do to the latch.
pub set_latch : (c : Core) (n : ℕ) (v : Bool) (s : Signal) (inward : Bool)
    → (set_as c n v (role_by s inward)).c.latch ≡ cond (free_out s inward) (with_bit c.c.latch n v) c.c.latch
set_latch c n v io true = refl
set_latch c n v io false = refl
set_latch c n v (INTR g) inward = refl
set_latch c n v (IBF g) inward = ap (λ l. l.latch) (channel_lines c (λ s. after_force s v) (group_at n) Input)
set_latch c n v (OBF g) inward = ap (λ l. l.latch) (channel_lines c (λ s. after_force s v) (group_at n) Output)
set_latch c n v (STB g) inward = refl
set_latch c n v (ACK g) inward = refl

-- The bit at pin m after bit set/reset of pin n.
pub put_bit : (l n m : ℕ) (v out : Bool) → m < 8 → bit_of (cond out (with_bit l n v) l) m ≡ cond (eqb m n && out) v (bit_of l m)
put_bit l n m v true hm = bit_of_with l n v m hm ∙ rw (and-true (eqb m n))
put_bit l n m v false hm = rw (and-false (eqb m n))

-- A test of one number beside a test that it is another.
pub moved : (f : ℕ → Bool) (m n : ℕ) → (eqb m n && f n) ≡ (eqb m n && f m)
moved f m n = go (eqb m n) refl
  where
    go : (b : Bool) → eqb m n ≡ b → (b && f n) ≡ (b && f m)
    go true e = rw (eqb-true m n e)
    go false e = refl

-- A write to port C finds the free outputs by their role.
pub out_same : (s : Signal) (inward : Bool) → is_output (role_by s inward) ≡ free_out s inward
out_same io true = refl
out_same io false = refl
out_same (INTR g) inward = refl
out_same (IBF g) inward = refl
out_same (OBF g) inward = refl
out_same (STB g) inward = refl
out_same (ACK g) inward = refl

-- A pin that is STB or ACK.
abbrev pub is_line : Signal → Bool
is_line io = false
is_line (INTR g) = false
is_line (IBF g) = false
is_line (OBF g) = false
is_line (STB g) = true
is_line (ACK g) = true

-- The enable put at one channel's line is that of each channel with this line.
put_one : (e : Enables) (v : Bool) (h : Group) (t : Side) (g : Group) (s : Side)
    → enable_of (enabled e (group_at (strobe_pin h t)) t v) g s ≡ cond (eqb (strobe_pin g s) (strobe_pin h t) && true) v (enable_of e g s)
put_one e v A Input A Input = refl
put_one e v A Input A Output = refl
put_one e v A Input B Input = refl
put_one e v A Input B Output = refl
put_one e v A Output A Input = refl
put_one e v A Output A Output = refl
put_one e v A Output B Input = refl
put_one e v A Output B Output = refl
put_one e v B Input A Input = refl
put_one e v B Input A Output = refl
put_one e v B Input B Input = refl
put_one e v B Input B Output = refl
put_one e v B Output A Input = refl
put_one e v B Output A Output = refl
put_one e v B Output B Input = refl
put_one e v B Output B Output = refl

-- What it lets bit set/reset do to the enables.
module _ (c : Core) (n : ℕ) (hn : n < 8) (v : Bool) (w : ℕ) (g : Group) (s : Side) where
  abbrev Put : Signal → Type 0
  Put r = enable_of (set_as c n v (role_by r (is_in w n))).inte g s ≡ cond (eqb (strobe_pin g s) n && is_line r) v (enable_of c.inte g s)

  none_put : cond (eqb (strobe_pin g s) n && false) v (enable_of c.inte g s) ≡ enable_of c.inte g s
  none_put = rw (and-false (eqb (strobe_pin g s) n))

  pub set_enable : Put (signal_at w n)
  set_enable =
      by_signal Put n (record {
        free = free (is_in w n);
        interrupt = sym none_put;
        full = forced Input;
        vacant = forced Output;
        strobe = λ h at. rw (at) (put_one c.inte v h Input g s);
        acknowledge = λ h at. rw (at) (put_one c.inte v h Output g s);
      })
      w hn
    where
      forced : (t : Side) → enable_of (flag_put c (group_at n) t v).inte g s ≡ cond (eqb (strobe_pin g s) n && false) v (enable_of c.inte g s)
      forced t = ap (λ e. enable_of e g s) (channel_enables c (λ s. after_force s v) (group_at n) t) ∙ sym none_put

      free : (inward : Bool) → enable_of (set_as c n v (cond inward Role.input Role.output)).inte g s ≡ cond (eqb (strobe_pin g s) n && false) v (enable_of c.inte g s)
      free true = sym none_put
      free false = sym none_put
