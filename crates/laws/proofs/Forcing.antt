-- The flag of a channel that is forced ("Writes and bit set/reset", "Forcing the flags").
-- Rests on chip's ConditionsLeft.
use Rattle.std.proofs.Common.{◌≡◌, refl, Bool, true, false}
use Rattle.chip.specs.declared.channel.Side.{Side}
use Rattle.chip.specs.declared.channel.Side.TheVariants.{Input, Output}
use Rattle.chip.specs.declared.channel.Fill.{Fill}
use Rattle.chip.specs.declared.channel.Fill.TheVariants.{Empty, Waiting, Fetching}
use Rattle.chip.specs.Channel.{flag_of}
use Rattle.chip.proofs.ConditionsLeft.{forced_to}
use Rattle.laws.specs.Forcing.{forced_level}

-- The flag of a channel that was forced, by the condition that it had.
pub forced_flag : (s : Side) (v : Bool) (f : Fill) → flag_of s (forced_to s v f) ≡ forced_level s v f
unfolding flag_of
forced_flag Input true Empty = refl
forced_flag Input true Waiting = refl
forced_flag Input true Fetching = refl
forced_flag Input false Empty = refl
forced_flag Input false Waiting = refl
forced_flag Input false Fetching = refl
forced_flag Output true Empty = refl
forced_flag Output true Waiting = refl
forced_flag Output true Fetching = refl
forced_flag Output false Empty = refl
forced_flag Output false Waiting = refl
forced_flag Output false Fetching = refl
