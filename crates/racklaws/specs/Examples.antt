-- Racks, addresses and a history in numbers ("A rack of cards").
use Rattle.std.specs.Prelude.{List, [], ◌∷◌, ℕ}
use Rattle.bus.specs.Event.{Event, event}
use Rattle.racklaws.specs.Whom.{RackEvent, rack_event, Access, reset, cycle_ended, unknown, read_at, write_at, levels_on, Found, no_card, found}

-- A store with two cards: the scale's at 778, the printer's at 300.
abbrev pub store : List ℕ
store = 0x778 ∷ 0x300 ∷ []

-- Addresses before the scale's card, on it, and behind it; on the printer's; and where there is none.
abbrev pub addresses : List ℕ
addresses =
    0x777 ∷ 0x778 ∷ 0x779 ∷ 0x77a ∷ 0x77b ∷ 0x77c ∷ 0x77d ∷ 0x77e ∷ 0x77f ∷ 0x780
    ∷ 0x2ff ∷ 0x300 ∷ 0x303 ∷ 0x304 ∷ 0x307 ∷ 0x308 ∷ 0x000 ∷ 0xf78 ∷ 0xffff ∷ []

-- The registers that they are.
abbrev pub registers : List Found
registers =
    no_card ∷ found 0 0 ∷ found 0 1 ∷ found 0 2 ∷ found 0 3 ∷ found 0 0 ∷ found 0 1 ∷ found 0 2 ∷ found 0 3 ∷ no_card
    ∷ no_card ∷ found 1 0 ∷ found 1 3 ∷ found 1 0 ∷ found 1 3 ∷ no_card ∷ no_card ∷ no_card ∷ no_card ∷ []

-- Accesses while a read of the scale's card runs: refused ones in the order of 1, 10, 2, 3, 4, and three that are accepted. And accesses
-- on a free bus, refused and accepted.
abbrev pub while_it_runs : List Access
while_it_runs =
    unknown ∷ read_at 0x308 ∷ write_at 0x780 0 ∷ levels_on 2 3 0 ∷ levels_on 1 3 0 ∷ read_at 0x303 ∷ read_at 0x300 ∷ write_at 0x303 0x80 ∷ read_at 0x778
    ∷ levels_on 1 0 0x41 ∷ cycle_ended ∷ reset ∷ []

abbrev pub their_numbers : List ℕ
their_numbers = 1 ∷ 10 ∷ 10 ∷ 10 ∷ 2 ∷ 3 ∷ 4 ∷ 4 ∷ 4 ∷ 0 ∷ 0 ∷ 0 ∷ []

abbrev pub on_a_free_bus : List Access
on_a_free_bus = cycle_ended ∷ read_at 0x77b ∷ read_at 0x77f ∷ write_at 0x77f 0x80 ∷ read_at 0x306 ∷ levels_on 0 2 0 ∷ levels_on 0 3 0 ∷ levels_on 2 0 0 ∷ []

abbrev pub its_numbers : List ℕ
its_numbers = 5 ∷ 3 ∷ 3 ∷ 0 ∷ 0 ∷ 0 ∷ 2 ∷ 10 ∷ []

-- A history: the printer's card is set up by the second copy of its registers; while a read of the scale's card runs, a write to the
-- printer's is refused, and levels reach it; the end goes to the scale's card, a second end nowhere; then a write to the printer's card,
-- and a reset in its middle.
abbrev pub history : List RackEvent
history =
    rack_event 3 0x307 0x84 0 ∷ rack_event 2 0 0 0 ∷ rack_event 1 0x77c 0x99 0 ∷ rack_event 3 0x300 0x55 0 ∷ rack_event 5 1 2 0xfb ∷ rack_event 5 2 0 0x11
    ∷ rack_event 2 7 7 7 ∷ rack_event 2 0 0 0 ∷ rack_event 3 0x301 0x54 0 ∷ rack_event 0 1 2 3 ∷ rack_event 2 0 0 0 ∷ []

abbrev pub for_the_scale : List Event
for_the_scale = event 1 0 0 ∷ event 2 0 0 ∷ event 0 0 0 ∷ []

abbrev pub for_the_printer : List Event
for_the_printer = event 3 3 0x84 ∷ event 2 0 0 ∷ event 5 2 0xfb ∷ event 3 1 0x54 ∷ event 0 0 0 ∷ []
