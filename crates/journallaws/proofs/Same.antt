-- The test of two states answers exactly whether they are equal; and two chips with images are equal where their images are.
-- Rests on image's ComesBack and journal's Exact.
use Rattle.std.proofs.Common.{◌≡◌, ◌∙◌, ap, sym, true}
use Rattle.chip.specs.declared.Chip.{Chip}
use Rattle.image.specs.Layout.{image_of}
use Rattle.image.specs.Loaded.{state_of}
use Rattle.image.specs.Good.{has_image}
use Rattle.image.proofs.ComesBack.{comes_back}
use Rattle.journal.proofs.Exact.{only_then_lem, then}
use Rattle.journallaws.specs.Keeps.{Exactly}

pub exactly : (c d : Chip) → Exactly c d
exactly c d = record { only_then = only_then_lem c d; then = then c d }

-- Equal images tell equal chips.
pub one_chip : (c d : Chip) → has_image c ≡ true → has_image d ≡ true → image_of c ≡ image_of d → c ≡ d
one_chip c d has has' same = sym (comes_back c has) ∙ ap state_of same ∙ comes_back d has'
