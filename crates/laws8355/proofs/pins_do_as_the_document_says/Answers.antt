-- What is so of every pin in every state.
-- Rests on EveryState.
use Rattle.laws8355.proofs.EveryState.{in_every_state}
use Rattle.laws8355.proofs.pins_do_as_the_document_says.Goals as goal

pub returns : goal.returns
returns c chip p n there small = in_every_state p n there small chip
