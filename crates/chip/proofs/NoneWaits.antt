-- Where no byte waits none is handed over, and the core stays as it is.
-- Rests on nothing.
use Rattle.std.proofs.Common.{◌≡◌, refl, false}
use Rattle.control.specs.declared.Group.{Group}
use Rattle.control.specs.declared.Group.TheVariants.{A, B}
use Rattle.chip.specs.declared.channel.Side.{Side}
use Rattle.chip.specs.declared.channel.Side.TheVariants.{Input, Output}
use Rattle.chip.specs.declared.channel.Fill.{Fill}
use Rattle.chip.specs.Channel.{is_waiting}
use Rattle.chip.specs.Moves.{after_hand_over}
use Rattle.chip.specs.declared.Core.{Core}
use Rattle.chip.specs.State.{channel_of, with_channel}

put_back : (c : Core) (g : Group) (s : Side) → c ≡ with_channel c g s (channel_of c g s)
put_back c A Input = refl
put_back c A Output = refl
put_back c B Input = refl
put_back c B Output = refl

pub none_handed_over : (c : Core) (g : Group) (s : Side) (left : Fill) → is_waiting (channel_of c g s).fill ≡ false
    → c ≡ with_channel c g s (after_hand_over (channel_of c g s) left)
unfolding after_hand_over
none_handed_over c g s left none = rw (none) (put_back c g s)
