-- A scale on port A and a printer on port B, side by side: the history of each alone, and what happens where one is in the other's way
-- ("Two groups").
use Rattle.std.specs.Prelude.{◌≡◌, true, false, List, [], ◌∷◌, ◌++◌, ℕ}
use Rattle.bus.specs.Event.{Event, event}
use Rattle.bus.specs.Histories.{write, levels, read_from, cycle_end}
use Rattle.control.specs.declared.Group.{Group}
use Rattle.control.specs.declared.Group.TheVariants.{A, B}
use Rattle.chip.specs.declared.channel.Side.{Side}
use Rattle.chip.specs.declared.channel.Side.TheVariants.{Input, Output}
use Rattle.chip.specs.declared.Edition.TheVariants.{Older}
use Rattle.chip.specs.State.{all_high}
use Rattle.laws.specs.Marked.{strobe}
use Rattle.fates.specs.Surroundings.{Surroundings, at_power_up}
use Rattle.fates.specs.Bytes.{Fate, handed_over, waiting, bytes_of, ValueAndFate, values_and_fates}
use Rattle.groups.specs.Doings.{only_of}
use Rattle.groups.specs.Alone.{without, out_of_the_way}

-- Both ports have a handshake: A takes, and B gives.
abbrev pub set_up : List Event
set_up = write 3 0xb4

-- The digit 41 comes onto port A, 33 is written to port B, STB falls, ACK falls and rises, STB rises. Then 34 is written to port B, and while
-- that cycle runs 42 comes onto port A. At last port A is read.
abbrev pub both_at_work : List Event
both_at_work =
    set_up ++ levels 0 0x41 ++ write 1 0x33 ++ levels 2 0xef ++ levels 2 0xeb ++ levels 2 0xef ++ levels 2 0xff
    ++ (event 3 1 0x34 ∷ []) ++ levels 0 0x42 ++ cycle_end ++ read_from 0 ++ cycle_end

-- What is left without group B's events, and without group A's.
abbrev pub scale_alone : List Event
scale_alone = set_up ++ levels 0 0x41 ++ levels 2 0xef ++ levels 2 0xff ++ levels 0 0x42 ++ read_from 0 ++ cycle_end

abbrev pub printer_alone : List Event
printer_alone = set_up ++ write 1 0x33 ++ levels 2 0xeb ++ levels 2 0xef ++ write 1 0x34

-- A digit waits. The read of port A begins while a write to port B runs, and is refused; the end that follows is that of the write.
abbrev pub read_refused : List Event
read_refused = set_up ++ strobe 0x41 ++ (event 3 1 0x33 ∷ []) ++ read_from 0 ++ cycle_end

-- Other refusals: while 34 is written to port B, of an unknown kind and of a read of that port; while port A is read, of a read of port C.
abbrev pub other_refusals : List Event
other_refusals = set_up ++ (event 3 1 0x34 ∷ event 4 0 0 ∷ []) ++ read_from 1 ++ cycle_end ++ read_from 0 ++ read_from 2 ++ cycle_end

-- A digit waits. Port C is read for the status, and the read of port A that begins before that has ended is refused.
abbrev pub status_read : List Event
status_read = set_up ++ strobe 0x41 ++ read_from 2 ++ read_from 0 ++ cycle_end

-- The printer at work. Some events are refused: an unknown kind, a read of port A while 34 is written, and an end on an idle bus.
abbrev pub printer_at_work : List Event
printer_at_work =
    write 1 0x33 ++ (event 4 0 0 ∷ []) ++ levels 2 0xfb ++ levels 2 0xff ++ (event 3 1 0x34 ∷ []) ++ read_from 0 ++ cycle_end
    ++ write 3 0x05 ++ read_from 2 ++ cycle_end ++ cycle_end

-- A byte's value and fate.
infixl 70 ◌is◌
abbrev pub ◌is◌ : ℕ → Fate → ValueAndFate
v is f = record { planted = false; value = v; fate = f }

-- From a power-up with every line high: what surrounds the first event, the bytes of a channel, and the history without a group's events.
abbrev pub start : Surroundings
start = at_power_up Older all_high

abbrev pub bytes_in : Group → Side → List Event → List ValueAndFate
bytes_in g s es = values_and_fates (bytes_of g s Older all_high es)

abbrev pub leaving_out : Group → List Event → List Event
leaving_out g es = without g start es

-- The digit that was read, and the two bytes for the printer, of which it has taken one.
abbrev pub digit : List ValueAndFate
digit = (0x41 is handed_over) ∷ []

abbrev pub printed : List ValueAndFate
printed = (0x33 is handed_over) ∷ (0x34 is waiting) ∷ []

-- The printer's events are harmless to group A, and not all of them to group B. At work together, neither group is in the other's way, and
-- each has the bytes that it has alone.
pub record SideBySide : Type 0 where
  pub printers_own : only_of B start printer_at_work ≡ true
  pub not_the_scales : only_of A start printer_at_work ≡ false
  pub scale : leaving_out B both_at_work ≡ scale_alone
  pub printer : leaving_out A both_at_work ≡ printer_alone
  pub both_out_of_the_way : (g : Group) → out_of_the_way g start both_at_work ≡ true
  pub digits : bytes_in A Input both_at_work ≡ digit
  pub digits_alone : bytes_in A Input scale_alone ≡ digit
  pub prints : bytes_in B Output both_at_work ≡ printed
  pub prints_alone : bytes_in B Output printer_alone ≡ printed

-- A write to port B that is in the way of a read of port A makes a difference: without it the read has the digit. Other refusals do not
-- count: those that an idle bus gives too, those of group B's own events, and those while no cycle of group B runs.
pub record ReadInTheWay : Type 0 where
  pub with_it : bytes_in A Input read_refused ≡ (0x41 is waiting) ∷ []
  pub without_it : bytes_in A Input (leaving_out B read_refused) ≡ digit
  pub not_out_of_the_way : out_of_the_way B start read_refused ≡ false
  pub others_out_of_the_way : out_of_the_way B start other_refusals ≡ true

-- A read of port C is no group's: it stays in the history, where it refuses what it refused.
pub record StatusRead : Type 0 where
  pub stays : leaving_out B status_read ≡ status_read
  pub waits : bytes_in A Input status_read ≡ (0x41 is waiting) ∷ []
