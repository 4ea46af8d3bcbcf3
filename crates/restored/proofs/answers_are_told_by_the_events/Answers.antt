-- What the calls answer is told by the events, and so is the discipline.
-- Rests on Answers and SameDiscipline.
use Rattle.restored.proofs.Answers.{host_kept, image_kept}
use Rattle.restored.proofs.SameDiscipline.{same_discipline}
use Rattle.restored.proofs.answers_are_told_by_the_events.Goals as goal

pub returns : goal.returns
returns c = record {
  from_power_up = λ l ed v es long. host_kept l ed v es long;
  from_image = λ l es bytes good. image_kept l bytes good es;
  discipline = λ g a l c es h. (λ kept. rw (← same_discipline g a l c es h) kept, λ kept. rw (same_discipline g a l c es h) kept);
}
