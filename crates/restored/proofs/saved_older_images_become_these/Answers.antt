-- The five saved images become those beside them.
-- Rests on SavedOlder.
use Rattle.restored.proofs.SavedOlder.{all_become}
use Rattle.restored.proofs.saved_older_images_become_these.Goals as goal

pub returns : goal.returns
returns c = all_become
