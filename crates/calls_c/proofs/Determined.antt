-- The contract of each function for C leaves no choice. Rests on bits' Determined.
use Rattle.std.proofs.Common.{ap}
use Rattle.bits.proofs.Determined.{Determines, equation_determines, equations_determine}
use Rattle.calls_c.specs.contracts as calls_c_says
use Rattle.calls_c.proofs as calls_c

pub towanchor_power_up_determined : Determines calls_c_says.towanchor_power_up.ended calls_c.towanchor_power_up.Reads.Learnt
towanchor_power_up_determined c x y = equations_determine

pub towanchor_power_up_with_levels_determined : Determines calls_c_says.towanchor_power_up_with_levels.ended calls_c.towanchor_power_up_with_levels.Reads.Learnt
towanchor_power_up_with_levels_determined c x y = equations_determine

pub towanchor_power_up_as_determined : Determines calls_c_says.towanchor_power_up_as.ended calls_c.towanchor_power_up_as.Reads.Learnt
towanchor_power_up_as_determined c x y = equations_determine

pub towanchor_convert_determined : Determines calls_c_says.towanchor_convert.ended calls_c.towanchor_convert.Reads.Learnt
towanchor_convert_determined c x y p q = ap (λ z. (z.0, (tt, z.1))) (equations_determine p q)

pub towanchor_step_determined : Determines calls_c_says.towanchor_step.ended calls_c.towanchor_step.Reads.Learnt
towanchor_step_determined c x y = equations_determine

pub towanchor_pins_determined : Determines calls_c_says.towanchor_pins.ended calls_c.towanchor_pins.Reads.Learnt
towanchor_pins_determined c x y = equation_determines

pub towanchor_tally_determined : Determines calls_c_says.towanchor_tally.ended calls_c.towanchor_tally.Reads.Learnt
towanchor_tally_determined c x y = equation_determines

pub towanchor_explain_determined : Determines calls_c_says.towanchor_explain.ended calls_c.towanchor_explain.Reads.Learnt
towanchor_explain_determined c x y = equation_determines
