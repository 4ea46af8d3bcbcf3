-- Ports A and B where they go one way.
-- Rests on OneWay.
use Rattle.std.proofs.Common.{◌≡◌, true, ℕ}
use Rattle.bus.specs.declared.Phase.TheVariants.{Writing}
use Rattle.control.specs.declared.Group.{Group}
use Rattle.chip.specs.declared.Chip.{Chip}
use Rattle.chip.specs.Handshakes.{own_address}
use Rattle.chip.specs.Step.{step_of}
use Rattle.laws.specs.Ports.{PortWritten}
use Rattle.laws.proofs.OneWay.{output_drives, input_undriven, write_to_input, write_to_output, output_shows, output_held, input_follows}
use Rattle.laws.proofs.ports_go_one_way_in_modes_0_and_1.Goals as goal

written : (c : Chip) (g : Group) (a b x d : ℕ) → c.phase ≡ Writing a b → own_address a g ≡ true → PortWritten c g a b (step_of c 2 x d).state
written c g a b x d phase own = record {
  to_input = write_to_input c g a b x d phase own;
  to_output = write_to_output c g a b x d phase own;
  shown = output_shows c g a b x d phase own;
}

pub returns : goal.returns
returns c = record { outputs = output_drives; inputs = input_undriven; written = written; held = output_held; follows = input_follows }
