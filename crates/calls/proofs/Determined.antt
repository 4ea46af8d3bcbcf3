-- The contract of each public function leaves no choice: of the answer, and of every byte of a slice that is written.
-- Rests on bits' Determined.
use Rattle.std.proofs.Common.{ap}
use Rattle.bits.proofs.Determined.{Determines, equation_determines, equations_determine}
use Rattle.calls.specs.contracts as calls_says
use Rattle.calls.proofs as calls

pub towanchor_power_up_determined : Determines calls_says.towanchor_power_up.ended calls.towanchor_power_up.Reads.Learnt
towanchor_power_up_determined c x y = equations_determine

pub towanchor_power_up_with_levels_determined
    : Determines calls_says.towanchor_power_up_with_levels.ended calls.towanchor_power_up_with_levels.Reads.Learnt
towanchor_power_up_with_levels_determined c x y = equations_determine

pub towanchor_power_up_as_determined : Determines calls_says.towanchor_power_up_as.ended calls.towanchor_power_up_as.Reads.Learnt
towanchor_power_up_as_determined c x y = equations_determine

-- Before the image stands the older one, which is not written.
pub towanchor_convert_determined : Determines calls_says.towanchor_convert.ended calls.towanchor_convert.Reads.Learnt
towanchor_convert_determined c x y p q = ap (λ z. (z.0, (tt, z.1))) (equations_determine p q)

pub towanchor_step_determined : Determines calls_says.towanchor_step.ended calls.towanchor_step.Reads.Learnt
towanchor_step_determined c x y = equations_determine

pub towanchor_pins_determined : Determines calls_says.towanchor_pins.ended calls.towanchor_pins.Reads.Learnt
towanchor_pins_determined c x y = equation_determines

pub towanchor_tally_determined : Determines calls_says.towanchor_tally.ended calls.towanchor_tally.Reads.Learnt
towanchor_tally_determined c x y = equation_determines

pub towanchor_explain_determined : Determines calls_says.towanchor_explain.ended calls.towanchor_explain.Reads.Learnt
towanchor_explain_determined c x y = equation_determines

pub refusal_number_determined : Determines calls_says.refusals.CallRefusalNumbered.number.ended calls.refusals.CallRefusalNumbered.number.Reads.Learnt
refusal_number_determined c x y = equation_determines
