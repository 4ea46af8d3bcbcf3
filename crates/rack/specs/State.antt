-- A rack: the registers of its cards, what it is when it is built, and each card as a chip ("A rack of cards").
use Rattle.std.specs.Prelude.{cond, List, ◌++◌, ℕ, ◌+◌, ◌-◌, ◌*◌, ◌/◌, ◌%◌, eqb, length, get_or, set, replicate, Result, Ok, Err}
use Rattle.bus.specs.declared.Phase.{Phase}
use Rattle.bus.specs.declared.Phase.TheVariants.{Idle, Reading, Writing}
use Rattle.chip.specs.declared.Core.{Core}
use Rattle.chip.specs.declared.Edition.{Edition}
use Rattle.chip.specs.declared.Edition.TheVariants.{Older}
use Rattle.chip.specs.declared.Chip.{Chip}
use Rattle.chip.specs.State.{no_enables, fresh_port, power_up}
use Rattle.chip.specs.Step.{on_bus}
use Rattle.rack.specs.declared.Rack.{Rack}
use Rattle.rack.specs.declared.refusals.BadRack.{BadRack}
use Rattle.rack.specs.Bases.{most_cards, makes_rack}

-- One bus runs through the rack, and its registers are numbered through: first register 0 of the eight places in turn, then register 1, 2
-- and 3. So those that can be read come before those that cannot.
abbrev pub number_at : ℕ → ℕ → ℕ
number_at place register = most_cards * register + place

-- The place of a number, and its register there.
abbrev pub place_of : ℕ → ℕ
place_of x = x % most_cards

abbrev pub register_of : ℕ → ℕ
register_of x = x / most_cards

-- What the card at a place sees of the bus: a cycle at one of its own registers; where the cycle is another's, an idle bus.
abbrev pub seen_at : ℕ → Phase → Phase
seen_at i Idle = Idle
seen_at i (Reading x) = cond (eqb (place_of x) i) (Reading (register_of x)) Idle
seen_at i (Writing x d) = cond (eqb (place_of x) i) (Writing (register_of x) d) Idle

-- All of a rack but the bus: how many cards there are, their bases, and what is in the eight places.
pub record Cards : Type 0 where
  pub count : ℕ
  pub bases : List ℕ
  pub cores : List Core

abbrev pub cards_of : Rack → Cards
cards_of r = record { count = r.count; bases = r.bases; cores = r.cores }

-- A rack is a phase of the bus and the cards.
abbrev pub rack_on : Phase → Cards → Rack
rack_on ph s = record { phase = ph; count = s.count; bases = s.bases; cores = s.cores }

-- What is at a place. There are eight places, and what stands for any other, all zeros, is not asked.
abbrev pub no_core : Core
no_core = record { word = 0; a = fresh_port 0; b = fresh_port 0; c = record { latch = 0; outside = 0 }; inte = no_enables }

abbrev pub core_in : List Core → ℕ → Core
core_in cs i = get_or cs i no_core

-- The edition of every card. One is chosen at power-up, and where none is named it is the older; the building of a rack names none. So what is in
-- a place need not keep it.
abbrev pub card_edition : Edition
card_edition = Older

-- The card at a place, as a chip alone would be.
unfoldable pub chip_at : Rack → ℕ → Chip
chip_at r i = on_bus (seen_at i r.phase) card_edition (core_in r.cores i)

-- The cards with that at a place made anew.
abbrev pub with_core : Cards → ℕ → Core → Cards
with_core s i c = record { count = s.count; bases = s.bases; cores = set s.cores i c }

-- The rack in which what is at a place becomes what a rule makes of it as a chip alone.
abbrev pub on_card : Rack → ℕ → (Chip → Chip) → Rack
on_card r i rule = rack_on r.phase (with_core (cards_of r) i (rule (chip_at r i)).core)

-- A rack of cards with these bases, in their order, each at its power-up. The places behind the last hold the same, and have no card.
unfoldable pub rack_of : List ℕ → Rack
rack_of bs = record {
  phase = Idle;
  count = length bs;
  bases = bs ++ replicate (most_cards - length bs) 0;
  cores = replicate most_cards power_up.core;
}

-- What the building of a rack gives: the rack, where the bases make one.
unfoldable pub built_of : List ℕ → Result Rack BadRack
built_of bs = cond (makes_rack bs) (Ok (rack_of bs)) (Err (record {}))
