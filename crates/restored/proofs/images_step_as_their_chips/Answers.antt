-- The step of an image is the step of the chip that it tells.
-- Rests on calls' HostStep.
use Rattle.calls.proofs.HostStep.{host_step, host_answer}
use Rattle.restored.proofs.images_step_as_their_chips.Goals as goal

pub returns : goal.returns
returns c = record { image = λ l k x d. host_step l k x d; answer = λ l k x d. host_answer l k x d }
