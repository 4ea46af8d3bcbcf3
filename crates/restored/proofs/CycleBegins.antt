-- The cycle that an image holds is one that its chip begins.
-- Rests on Conditions, on the bus's Facts and on image's OneImage.
use Rattle.std.proofs.Common.{◌≡◌, ◌∙◌, refl, ap, sym, true, List, ℕ, ◌<◌, arith, ltb-true}
use Rattle.bus.specs.declared.Phase.{Phase}
use Rattle.bus.specs.declared.Phase.TheVariants.{Reading, Writing}
use Rattle.bus.specs.Facts.{Facts}
use Rattle.bus.proofs.Facts as bus
use Rattle.chip.specs.declared.Edition.{Edition}
use Rattle.chip.specs.declared.Edition.TheVariants.{Older, Newer}
use Rattle.chip.specs.declared.Chip.{Chip}
use Rattle.chip.specs.Step.{readable, limits, device, step_of}
use Rattle.image.specs.Loaded.{state_of}
use Rattle.image.specs.Good.{can_be_read, names_its_place, is_image, Bytes}
use Rattle.image.proofs.OneImage.{tells_such}
use Rattle.restored.specs.Host.{dropped, CycleBegins}
use Rattle.restored.proofs.Conditions.{apart}

-- What an image takes for readable in an edition is below its count of such addresses, and so an address.
can_be_read_lem : (ed : Edition) (x : ℕ) → can_be_read ed x ≡ true → (x < 4) × (x < readable ed)
can_be_read_lem Older x can = let below = ltb-true x 3 can in (omega (arith, below), below)
can_be_read_lem Newer x can = let below = ltb-true x 4 can in (below, below)

idle_facts : (c : Chip) → Facts device (limits c.edition) (dropped c)
idle_facts c = bus.facts device (limits c.edition) (dropped c) refl

pub cycle_begins : (l : List ℕ) → Bytes l → is_image l ≡ true → CycleBegins l
unfolding step_of
cycle_begins l bytes good = record {
  read = λ x phase.
      let can = can_be_read_lem (state_of l).edition x (named (Reading x) phase) in
      ((idle_facts (state_of l)).at_place x 0).read_begins can.0 can.1 refl;
  write = λ x d phase. ((idle_facts (state_of l)).at_place x d).write_begins (ltb-true x 4 (named (Writing x d) phase)) refl;
}
  where
    named : (ph : Phase) → (state_of l).phase ≡ ph → names_its_place (state_of l).edition ph ≡ true
    named ph phase = ap (names_its_place (state_of l).edition) (sym phase) ∙ (apart (state_of l) (tells_such l bytes good)).place
