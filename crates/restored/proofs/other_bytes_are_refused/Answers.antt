-- Bytes that are no image are refused, and others are not.
-- Rests on Refusals.
use Rattle.restored.proofs.Refusals.{refused_bytes, other_length, older_image, accepted_bytes}
use Rattle.restored.proofs.other_bytes_are_refused.Goals as goal

pub returns : goal.returns
returns c = record { refused = refused_bytes; other_length = other_length; older = older_image; accepted = accepted_bytes }
