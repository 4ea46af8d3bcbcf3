-- `check::masks` meets its contract: the table has the rule's row at each place, by a test at every word.
-- Rests on bits' Tested.
use Rattle.std.proofs.Common.{arith, ◌/◌, bit_and, slice_index_or, flat_map}
use Rattle.bits.specs.Bit.{bit_of}
use Rattle.bits.proofs.Tested.{numbers}
use Rattle.control.specs.Mode.{mode_of, input_of, strobed_input, strobed_output}
use Rattle.image.specs.Masks.{masks_of}
use Rattle.image.specs.declared.check.TheConstants.{MASKS}
use Rattle.image.proofs.check.masks.Goals as goal

pub returns : goal.returns
unfolding bit_of mode_of input_of strobed_input strobed_output
returns c = rw (c.as_flattened.ensures.value) (numbers 256 (λ w. slice_index_or (flat_map (λ row. row) MASKS) (bit_and (w / 2) 63) 0) masks_of tt c.args.word (omega arith))
