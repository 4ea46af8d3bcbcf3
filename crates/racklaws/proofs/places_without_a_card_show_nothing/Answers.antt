-- Where there is no card, every view is refused with 10.
-- Rests on Built.
use Rattle.std.proofs.Common.{◌≡◌, ◌∙◌, false, ℕ, le-ltb, length}
use Rattle.rack.specs.declared.Rack.{Rack}
use Rattle.rack.specs.Targets.{is_place}
use Rattle.rack.specs.Views.{card_of, card_pins, card_tally, card_explained, card_explained_numbered}
use Rattle.racklaws.specs.Promise.{NoneThere}
use Rattle.racklaws.proofs.Built.{places_over, placed_after}
use Rattle.racklaws.proofs.places_without_a_card_show_nothing.Goals as goal

none_there : (r : Rack) (i : ℕ) → is_place r.count i ≡ false → NoneThere r i
unfolding card_of card_pins card_tally card_explained card_explained_numbered
none_there r i none = record {
  card = rw none;
  pins = λ p. rw none;
  tally = λ g s. rw none;
  explains = λ g. rw none;
  explains_numbered = λ n. rw none;
}

pub returns : goal.returns
returns c = record {
  built = λ bs few es i h. none_there _ i (placed_after bs few es i ∙ le-ltb i (length bs) h);
  any = λ r whole es i h. none_there _ i (places_over r whole es i ∙ le-ltb i _ h);
}
