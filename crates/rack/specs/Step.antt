-- The rack as a device on the bus, and its step ("A rack of cards", "Events and numbers").
use Rattle.std.specs.Prelude.{refl, cond, map, ℕ, ◌*◌, eqb, Option, Some, None}
use Rattle.bus.specs.Kinds as kinds
use Rattle.bus.specs.declared.Phase.{Phase}
use Rattle.bus.specs.declared.Phase.TheVariants.{Idle, Reading, Writing}
use Rattle.bus.specs.declared.Limits.{Limits}
use Rattle.bus.specs.Refusals.{limits_of}
use Rattle.bus.specs.Device.{Device, Given, step_in}
use Rattle.bus.specs.Cycles.{refused_in}
use Rattle.chip.specs.declared.Core.{Core}
use Rattle.chip.specs.Step as card
use Rattle.rack.specs.declared.Rack.{Rack}
use Rattle.rack.specs.Bases.{no_card_number, most_cards}
use Rattle.rack.specs.State.{number_at, place_of, register_of, seen_at, Cards, cards_of, rack_on, core_in, card_edition, chip_at, with_core}
use Rattle.rack.specs.Targets.{Target, target_of}

-- Each register of a card is there at eight places: the first three can be read, and have levels.
abbrev pub limits : Limits
limits = limits_of (most_cards * 4) (most_cards * 3) (most_cards * 3)

-- The place on which a cycle runs; on an idle bus none does, and 0 stands for it.
abbrev pub runs_at : Phase → ℕ
runs_at Idle = 0
runs_at (Reading x) = place_of x
runs_at (Writing x d) = place_of x

-- What is in a place, as the rest of a card; and what a reset makes of it.
abbrev pub card_rest : Core → card.Rest
card_rest c = record { edition = card_edition; core = c }

abbrev pub core_reset : Core → Core
core_reset c = ((card.device).after_reset (card_rest c)).core

-- The rack as a device. A reset reaches every card; any other event does to one card what it does to a chip alone: a beginning and levels
-- to that whose register they name, an end to that on which the cycle runs.
abbrev pub device : Device Rack Cards
device = record {
  phase = λ r. r.phase;
  rest = cards_of;
  on = rack_on;
  limits = λ s. limits;
  after_reset = λ s. record { count = s.count; bases = s.bases; cores = map core_reset s.cores };
  after_begin = λ s x. with_core s (place_of x) ((card.device).after_begin (card_rest (core_in s.cores (place_of x))) (register_of x)).core;
  after_end = λ s ph. with_core s (runs_at ph) ((card.device).after_end (card_rest (core_in s.cores (runs_at ph))) (seen_at (runs_at ph) ph)).core;
  after_levels = λ s x d. with_core s (place_of x) ((card.device).after_levels (card_rest (core_in s.cores (place_of x))) (register_of x) d).core;
  answer = λ r x. (card.device).answer (chip_at r (place_of x)) (register_of x);
  phase_on = λ ph s. refl;
  rest_on = λ ph s. refl;
  reset_limits = λ s. refl;
  begin_limits = λ s x. refl;
  end_limits = λ s ph. refl;
  levels_limits = λ s x d. refl;
}

-- The byte of an event: a write's, or the levels, which stand behind a place and a port.
abbrev pub byte_of : ℕ → ℕ → ℕ → ℕ
byte_of k y z = cond (eqb k kinds.outside_levels) z y

-- An event that is for no card is refused with 10; any other is one of the device, at the number of its card and register.
abbrev pub step_at : Rack → Option Target → ℕ → ℕ → Given Rack
step_at r None k d = refused_in r no_card_number
step_at r (Some t) k d = step_in device r k (number_at t.0 t.1) d

-- One event of the rack, of kind k with operands x, y and z: an address and a byte, or a place, a port and levels. An event of no kind
-- names no card, so that it is 1 before anything else.
unfoldable pub step_of : Rack → ℕ → ℕ → ℕ → ℕ → Given Rack
step_of r k x y z = step_at r (target_of r.count r.bases k x y) k (byte_of k y z)
