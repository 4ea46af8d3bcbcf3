-- What an answer line shows of a card is what the card's own pins show.
use Rattle.std.proofs.Common.{◌≡◌, refl, ℕ, true}
use Rattle.chip.specs.Pins.{pins_of}
use Rattle.rack.specs.declared.Rack.{Rack}
use Rattle.rack.specs.State.{chip_at}
use Rattle.rack.specs.Targets.{is_place}
use Rattle.rack.specs.Views.{card_pins}
use Rattle.script.specs.RackAnswers.{answering}

-- Of each card that is there, and of each port.
pub shows_cards : (r : Rack) (i p : ℕ) → is_place r.count i ≡ true → answering.levels r i p ≡ (pins_of (chip_at r i) p).levels
unfolding card_pins
shows_cards r i p there = rw there refl
