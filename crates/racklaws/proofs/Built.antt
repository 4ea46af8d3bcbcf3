-- For which places there is a card after any history; and a rack that was built: its bases, and its cards at power-up.
-- Rests on Followed and Projected.
use Rattle.std.proofs.Common.{◌≡◌, refl, ap, ◌∙◌, List, ℕ, ◌<◌, ◌≤◌, ◌-◌, arith, length, replicate, length-append, take_all, ltb}
use lib.ListN.{length-replicate, get_or-replicate}
use lib.Seq.{take-append_seam}
use Rattle.bus.specs.declared.Phase.TheVariants.{Idle}
use Rattle.chip.specs.declared.Core.{Core}
use Rattle.chip.specs.State.{power_up}
use Rattle.chip.specs.Step.{on_bus}
use Rattle.rack.specs.declared.Rack.{Rack}
use Rattle.rack.specs.Bases.{most_cards}
use Rattle.rack.specs.State.{no_core, chip_at, rack_of, card_edition}
use Rattle.rack.specs.Targets.{is_place}
use Rattle.racklaws.specs.Whom.{RackEvent}
use Rattle.racklaws.specs.Promise.{rack_run, bases_of, Whole}
use Rattle.racklaws.proofs.Followed.{placed}
use Rattle.racklaws.proofs.Projected.{whole_over, bases_over}

-- Of any rack: a history leaves the places that have a card, those of the bases.
pub places_over : (r : Rack) → Whole r → (es : List RackEvent) (i : ℕ) → is_place (rack_run r es).count i ≡ ltb i (length (bases_of r))
places_over r whole es i =
    placed (rack_run r es).count (rack_run r es).bases (whole_over r whole es).bases i ∙ ap (λ (l : List ℕ). ltb i (length l)) (bases_over r whole es)

-- A rack that was built has eight places, the bases that it was built with, and in each place a chip at power-up.
module _ (bs : List ℕ) (few : length bs ≤ most_cards) where
  pub built_whole : Whole (rack_of bs)
  unfolding rack_of
  built_whole = record {
    cores = refl;
    bases = omega (arith, length-append bs (replicate (most_cards - length bs) 0), length-replicate {A = ℕ} (most_cards - length bs) 0, few);
  }

  pub built_bases : bases_of (rack_of bs) ≡ bs
  unfolding rack_of
  built_bases = rw (take-append_seam bs (replicate (most_cards - length bs) 0)) (take_all most_cards bs few)

  pub built_chip : (i : ℕ) → i < most_cards → chip_at (rack_of bs) i ≡ power_up
  unfolding rack_of chip_at
  built_chip i h = ap (λ (c : Core). on_bus Idle card_edition c) (get_or-replicate most_cards i power_up.core no_core h)

  -- After any history there is a card at each place for which there is a base, and at no other.
  module _ (es : List RackEvent) where
    abbrev after : Rack
    after = rack_run (rack_of bs) es

    pub placed_after : (i : ℕ) → is_place after.count i ≡ ltb i (length bs)
    placed_after i =
        placed after.count after.bases (whole_over (rack_of bs) built_whole es).bases i
        ∙ ap (λ (l : List ℕ). ltb i (length l)) (bases_over (rack_of bs) built_whole es ∙ built_bases)
