-- What a card shows, counts and explains, by its place, or why there is nothing of it ("A rack of cards").
use Rattle.std.specs.Prelude.{cond, ℕ, Result, Ok, Err, ok_or}
use Rattle.bus.specs.declared.Pins.{Pins}
use Rattle.control.specs.declared.Group.{Group}
use Rattle.chip.specs.declared.channel.Side.{Side}
use Rattle.chip.specs.declared.channel.Tally.{Tally}
use Rattle.chip.specs.declared.Chip.{Chip}
use Rattle.chip.specs.declared.reasons.Explained.{Explained}
use Rattle.chip.specs.State.{tally_of}
use Rattle.chip.specs.Pins.{pins_of}
use Rattle.chip.specs.Reasons.{explained_in, explained_of}
use Rattle.rack.specs.declared.Rack.{Rack}
use Rattle.rack.specs.declared.refusals.ViewRefusal.{ViewRefusal}
use Rattle.rack.specs.declared.refusals.ViewRefusal.TheVariants.{NoCard, NoSuchGroup}
use Rattle.rack.specs.State.{place_of, register_of, chip_at}
use Rattle.rack.specs.Targets.{is_place}

-- The card at a place, as a chip, if there is one. If there is none this is refused, and so is all that follows.
unfoldable pub card_of : Rack → ℕ → Result Chip ViewRefusal
card_of r i = cond (is_place r.count i) (Ok (chip_at r i)) (Err NoCard)

-- The card's own pin view, tallies and explanation, as a chip alone has them: of a port above C no levels.
unfoldable pub card_pins : Rack → ℕ → ℕ → Result Pins ViewRefusal
card_pins r i p = cond (is_place r.count i) (Ok (pins_of (chip_at r i) p)) (Err NoCard)

unfoldable pub card_tally : Rack → ℕ → Group → Side → Result Tally ViewRefusal
card_tally r i g s = cond (is_place r.count i) (Ok (tally_of (chip_at r i) g s)) (Err NoCard)

unfoldable pub card_explained : Rack → ℕ → Group → Result Explained ViewRefusal
card_explained r i g = cond (is_place r.count i) (Ok (explained_in (chip_at r i) g)) (Err NoCard)

-- What is said of the INTR of the group of that number, of the card at a place. That there is no card comes first, and then that no group has the
-- number.
unfoldable pub card_explained_numbered : Rack → ℕ → ℕ → Result Explained ViewRefusal
card_explained_numbered r i n = cond (is_place r.count i) (ok_or (explained_of (chip_at r i) n) NoSuchGroup) (Err NoCard)

-- The pin view of each place, whether there is a card or not, at the ports' numbers on the rack's bus.
abbrev pub pins_at : Rack → ℕ → Pins
pins_at r x = pins_of (chip_at r (place_of x)) (register_of x)
