-- The numbers by which the calls know channels are those of the header's list.
-- Rests on nothing.
use Rattle.std.proofs.Common.{◌≡◌, refl, List, [], ℕ, zero, suc, ◌≤◌, arith, get_or}
use Rattle.control.specs.declared.Group.{Group}
use Rattle.chip.specs.declared.channel.Side.{Side}
use Rattle.calls.specs.Calls.{last_channel, group_numbered, side_numbered}
use Rattle.restored.specs.Header.{by_channel}

pub channel_numbered : (f : Group → Side → List ℕ) (k : ℕ) → k ≤ last_channel → get_or (by_channel f) k [] ≡ f (group_numbered k) (side_numbered k)
channel_numbered f zero few = refl
channel_numbered f (suc zero) few = refl
channel_numbered f (suc (suc zero)) few = refl
channel_numbered f (suc (suc (suc zero))) few = refl
channel_numbered f (suc (suc (suc (suc k)))) few = absurd (omega (arith, few))
