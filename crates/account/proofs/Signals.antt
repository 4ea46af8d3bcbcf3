-- The summary's signals are the chip's roles, and each stands at its own pins.
-- Rests on Words, Columns, bits' Tested, and control's PinByMasks and RoleWords.
use Rattle.std.proofs.Common.{◌≡◌, ◌∙◌, refl, sym, subst, Bool, true, false, cond, ℕ, ◌%◌, ◌<◌, arith, T, eqb, eqb→eq}
use Rattle.bits.specs.Bit.{bit_of}
use Rattle.bits.proofs.Tested.{all, each, numbers_of_two}
use Rattle.control.specs.declared.Group.{Group}
use Rattle.control.specs.declared.Group.TheVariants.{A, B}
use Rattle.control.specs.Mode.{mode_of, input_of, upper_input, lower_input}
use Rattle.control.specs.Role.{Role, number, role_of, uses_of, free_role}
use Rattle.control.proofs.PinByMasks.{number_one}
use Rattle.control.proofs.RoleWords.{role_as_byte}
use Rattle.chip.specs.declared.channel.Side.TheVariants.{Input, Output}
use Rattle.chip.specs.Handshakes.{group_at}
use Rattle.fates.specs.Effects.{strobe_pin}
use Rattle.account.specs.Summary.{Column, plain_in, plain_out, strobed_in, strobed_out, both_ways, column_of, takes, gives, Signal, io, INTR, IBF, OBF, STB, ACK, row, signal_at, is_in}
use Rattle.account.proofs.Words.{signal_alike, in_alike, byte_alike}
use Rattle.account.proofs.Columns.{column_b}

-- The role of a pin that is `s`, and free as an input or not.
abbrev pub role_by : Signal → Bool → Role
role_by io inward = cond inward Role.input Role.output
role_by (INTR g) inward = Role.INTR
role_by (IBF g) inward = Role.IBF
role_by (OBF g) inward = Role.OBF
role_by (STB g) inward = Role.STB
role_by (ACK g) inward = Role.ACK

of_byte_lem : (w n : ℕ) → w < 256 → n < 8 → role_of w n ≡ role_by (signal_at w n) (is_in w n)
unfolding role_of uses_of free_role mode_of input_of upper_input lower_input bit_of
of_byte_lem w n hw hn =
    number_one (role_of w n) (role_by (signal_at w n) (is_in w n))
    (numbers_of_two 256 8 (λ w n. number (role_of w n)) (λ w n. number (role_by (signal_at w n) (is_in w n))) tt w n hw hn)

pub role_same : (w n : ℕ) → n < 8 → role_of w n ≡ role_by (signal_at w n) (is_in w n)
role_same w n hn =
    sym (role_as_byte w n) ∙ of_byte_lem (w % 256) n (omega arith) hn
    ∙ rw (signal_alike (w % 256) w (byte_alike w) n, in_alike (w % 256) w (byte_alike w) n)

-- A signal stands at pins of its own group, and a line at its own pin.
abbrev own : Group → Group → Bool
own A A = true
own A B = false
own B A = false
own B B = true

abbrev stands : ℕ → Signal → Bool
stands n io = true
stands n (INTR g) = own g (group_at n)
stands n (IBF g) = own g (group_at n)
stands n (OBF g) = own g (group_at n)
stands n (STB g) = eqb n (strobe_pin g Input)
stands n (ACK g) = eqb n (strobe_pin g Output)

-- What is shown of each signal that pin n can be: it is free, or an INTR, an IBF or an OBF of the pin's group, or the line of a channel.
pub record OfEachSignal (P : Signal → Type 0) (n : ℕ) : Type 0 where
  pub free : P io
  pub interrupt : P (INTR (group_at n))
  pub full : P (IBF (group_at n))
  pub vacant : P (OBF (group_at n))
  pub strobe : (g : Group) → n ≡ strobe_pin g Input → P (STB g)
  pub acknowledge : (g : Group) → n ≡ strobe_pin g Output → P (ACK g)

module _ (P : Signal → Type 0) (n : ℕ) (shown : OfEachSignal P n) where
  own_is : (g h : Group) → T (own g h) → h ≡ g
  own_is A A t = refl
  own_is A B t = absurd t
  own_is B A t = absurd t
  own_is B B t = refl

  by_stand : (s : Signal) → T (stands n s) → P s
  by_stand io t = shown.free
  by_stand (INTR g) t = subst (λ (h : Group). P (INTR h)) (own_is g (group_at n) t) shown.interrupt
  by_stand (IBF g) t = subst (λ (h : Group). P (IBF h)) (own_is g (group_at n) t) shown.full
  by_stand (OBF g) t = subst (λ (h : Group). P (OBF h)) (own_is g (group_at n) t) shown.vacant
  by_stand (STB g) t = shown.strobe g (eqb→eq n (strobe_pin g Input) t)
  by_stand (ACK g) t = shown.acknowledge g (eqb→eq n (strobe_pin g Output) t)

  pub by_signal : (w : ℕ) → n < 8 → P (signal_at w n)
  unfolding bit_of
  by_signal w hn =
      by_stand (signal_at w n)
      (subst (λ (s : Signal). T (stands n s)) (signal_alike (w % 256) w (byte_alike w) n)
      (each 8 (λ n. stands n (signal_at (w % 256) n)) (each 256 (λ w. all 8 (λ n. stands n (signal_at w n))) tt (w % 256) (omega arith)) n hn))

-- The pin of a strobed channel's line is that line.
pub strobe_stands : (w : ℕ) (g : Group) → takes (column_of w g) ≡ true → signal_at w (strobe_pin g Input) ≡ STB g
strobe_stands w A = go (column_of w A)
  where
    go : (k : Column) → takes k ≡ true → row io io (STB A) io (STB A) k ≡ STB A
    go plain_in on = cc
    go plain_out on = cc
    go strobed_in on = refl
    go strobed_out on = cc
    go both_ways on = refl
strobe_stands w B = go (bit_of w 2) (bit_of w 1)
  where
    go : (one taking : Bool) → takes (column_b one taking) ≡ true → row io io (STB B) (ACK B) io (column_b one taking) ≡ STB B
    go true true on = refl
    go true false on = cc
    go false true on = cc
    go false false on = cc

pub acknowledge_stands : (w : ℕ) (g : Group) → gives (column_of w g) ≡ true → signal_at w (strobe_pin g Output) ≡ ACK g
acknowledge_stands w A = go (column_of w A)
  where
    go : (k : Column) → gives k ≡ true → row io io io (ACK A) (ACK A) k ≡ ACK A
    go plain_in on = cc
    go plain_out on = cc
    go strobed_in on = cc
    go strobed_out on = refl
    go both_ways on = refl
acknowledge_stands w B = go (bit_of w 2) (bit_of w 1)
  where
    go : (one taking : Bool) → gives (column_b one taking) ≡ true → row io io (STB B) (ACK B) io (column_b one taking) ≡ ACK B
    go true true on = cc
    go true false on = refl
    go false true on = cc
    go false false on = cc
