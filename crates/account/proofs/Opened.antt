-- The account that is opened at power-up agrees with the chip that is powered up.
-- Rests on Moves, Waves and Agrees, and on bits' Tested.
use Rattle.std.proofs.Common.{◌≡◌, refl, sym, true, false}
use mathlib.Core.Bool.{and-false}
use Rattle.bits.specs.Bit.{bit_of}
use Rattle.bits.proofs.Tested.{bits}
use Rattle.control.specs.declared.Group.{Group}
use Rattle.control.specs.declared.Group.TheVariants.{A, B}
use Rattle.chip.specs.declared.channel.Side.{Side}
use Rattle.chip.specs.declared.channel.Side.TheVariants.{Input, Output}
use Rattle.chip.specs.declared.Edition.{Edition}
use Rattle.chip.specs.declared.Levels.{Levels}
use Rattle.chip.specs.State.{power_up_as, channel_of}
use Rattle.fates.specs.Surroundings.{at_power_up}
use Rattle.account.specs.Summary.{signal_at}
use Rattle.account.specs.Account.{strobed, opened}
use Rattle.account.specs.Promise.{bit_here}
use Rattle.account.proofs.Moves.{full, vacant, given}
use Rattle.account.proofs.Waves.{Even}
use Rattle.account.proofs.Agrees.{Agrees}

pub agrees_opened : (ed : Edition) (l : Levels) → Agrees (power_up_as ed l) (opened ed l)
unfolding bit_of
agrees_opened ed l = record {
  surroundings = refl;
  bit = bits 8 (λ n. false) (λ n. bit_here (power_up_as ed l).core n (signal_at 0x9b n)) tt;
  output = zeros Output;
  input = zeros Input;
  ibf = empty;
  obf = room;
  given = none;
  even = low;
}
  where
    zeros : (s : Side) (g : Group) → 0 ≡ (channel_of (power_up_as ed l).core g s).latch
    zeros Input A = refl
    zeros Input B = refl
    zeros Output A = refl
    zeros Output B = refl

    empty : (g : Group) → false ≡ full (channel_of (power_up_as ed l).core g Input)
    empty A = refl
    empty B = refl

    room : (g : Group) → true ≡ vacant (channel_of (power_up_as ed l).core g Output)
    room A = refl
    room B = refl

    none : (g : Group) → false ≡ given (channel_of (power_up_as ed l).core g Input)
    none A = refl
    none B = refl

    low : Even (opened ed l)
    low g Input = sym (and-false (strobed (at_power_up ed l) g Input))
    low g Output = sym (and-false (strobed (at_power_up ed l) g Output))
