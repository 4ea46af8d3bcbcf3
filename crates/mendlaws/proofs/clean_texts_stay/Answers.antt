-- A text of which no line is malformed stays as it is.
-- Rests on Stays.
use Rattle.mendlaws.proofs.Stays.{stays}
use Rattle.mendlaws.proofs.clean_texts_stay.Goals as goal

pub returns : goal.returns
returns c text clean report es k = stays text clean report k.says_events k.short k.clean_room k.report_room
