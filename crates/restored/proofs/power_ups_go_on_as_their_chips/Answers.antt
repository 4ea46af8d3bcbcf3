-- What a host holds after a power-up and any events.
-- Rests on Holds.
use Rattle.std.proofs.Common.{refl}
use Rattle.chip.specs.State.{power_up_as}
use Rattle.calls.specs.Calls.{power_up_as_answer, power_up_as_image}
use Rattle.restored.specs.Host.{power_up_in}
use Rattle.restored.proofs.Holds.{holds_new, holds_run}
use Rattle.restored.proofs.power_ups_go_on_as_their_chips.Goals as goal

pub returns : goal.returns
unfolding power_up_as_answer power_up_as_image
returns c = record {
  image = λ l ed v es long.
      let at_end = holds_run (power_up_in l ed v) (power_up_as ed v) es (holds_new l ed v long) in
      record { image = at_end.image; state = at_end.state };
  by_default = λ l a b c. record { levels_answer = refl; levels_image = refl; plain_image = refl };
}
