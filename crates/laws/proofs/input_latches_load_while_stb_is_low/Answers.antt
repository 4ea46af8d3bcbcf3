-- What loads an input latch.
-- Rests on InputLatch.
use Rattle.std.proofs.Common.{◌≡◌, true, ℕ}
use Rattle.control.specs.declared.Group.{Group}
use Rattle.chip.specs.declared.channel.Side.TheVariants.{Input}
use Rattle.chip.specs.declared.Chip.{Chip}
use Rattle.chip.specs.Handshakes.{strobed, own_address}
use Rattle.laws.specs.Loads.{LatchLoads}
use Rattle.laws.proofs.InputLatch.{low_follows, fall_loads, latch_stays}
use Rattle.laws.proofs.input_latches_load_while_stb_is_low.Goals as goal

loads : (c : Chip) (g : Group) (x : ℕ) → strobed c.core.word g Input ≡ true → own_address x g ≡ true → LatchLoads c g x
loads c g x on own = record { follows = λ d low. low_follows c g x d on low own; falls = λ d high low. fall_loads c g x d on high low own }

pub returns : goal.returns
returns c = record { loads = loads; stays = latch_stays }
