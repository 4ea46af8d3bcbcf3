-- The marked cases P1 to P13, as one table: a history from a power-up with every line high, what is asked after it, and the
-- results ("Marked cases").
use Rattle.std.specs.Prelude.{List, [], ◌∷◌, ◌++◌, ℕ, ◌+◌, length}
use Rattle.bus.specs.Event.{Event, event}
use Rattle.bus.specs.Histories.{write, levels, read_from, cycle_end}
use Rattle.control.specs.declared.Group.TheVariants.{A}
use Rattle.bus.specs.Device.{Given}
use Rattle.chip.specs.declared.Chip.{Chip}
use Rattle.chip.specs.declared.channel.Side.TheVariants.{Input}
use Rattle.chip.specs.declared.Edition.{Edition}
use Rattle.chip.specs.State.{all_high, power_up_as, tally_of}
use Rattle.chip.specs.Reads.{read_of}
use Rattle.chip.specs.Pins.{pins_of}
use Rattle.chip.specs.Step.{accepted, stepped}

-- A byte put on port A, and its STB lowered and raised; port C is otherwise high.
abbrev pub strobe : ℕ → List Event
strobe d = levels 0 d ++ levels 2 0xef ++ levels 2 0xff

-- The last event's outcome, after a history.
abbrev pub after : Given Chip → List Event → Given Chip
after s [] = s
after s (e ∷ es) = after (stepped s.state e) es

-- What may be asked: the levels and the driven mask of a port, a read of port C, the byte of the last event, two tallies of A in.
pub data Asked : Type 0 where
  pins driven : ℕ → Asked
  read_c byte offered overwritten : Asked

-- What is answered.
abbrev pub answer : Given Chip → Asked → ℕ
answer s (pins p) = (pins_of s.state p).levels
answer s (driven p) = (pins_of s.state p).driven
answer s read_c = read_of s.state 2
answer s byte = s.byte
answer s offered = (tally_of s.state A Input).offered
answer s overwritten = (tally_of s.state A Input).overwritten

-- A case: a history, what is asked after it, and what the rules say that the results are.
pub record Case : Type 0 where
  pub history : List Event
  pub asked : List Asked
  pub results : List ℕ

-- The answers to several questions, in their order.
abbrev pub answers : Given Chip → List Asked → List ℕ
answers s [] = []
answers s (q ∷ later) = answer s q ∷ answers s later

-- What the model gives, of either edition: each case begins at a power-up with every line high.
abbrev pub given : Edition → Case → List ℕ
given ed c = answers (after (accepted (power_up_as ed all_high) 0) c.history) c.asked

-- A case, written in one line.
infixl 60 ◌asks◌gives◌
abbrev pub ◌asks◌gives◌ : List Event → List Asked → List ℕ → Case
h asks q gives r = record { history = h; asked = q; results = r }

-- The histories on which others build, by their numbers in the rules.
abbrev pub P2 : List Event
P2 = write 3 0xb0

abbrev pub P3 : List Event
P3 = P2 ++ write 3 0x09 ++ levels 0 0x41 ++ levels 2 0xef

abbrev pub P4 : List Event
P4 = P3 ++ levels 2 0xff

abbrev pub P5 : List Event
P5 = P4 ++ read_from 0

abbrev pub P7 : List Event
P7 = write 3 0xc0

abbrev pub P8 : List Event
P8 = P7 ++ write 3 0x0d

abbrev pub P9 : List Event
P9 = P8 ++ write 0 0x55

abbrev pub P13 : List Event
P13 = write 3 0xb0 ++ strobe 0x41 ++ strobe 0x42

-- All of them, in the order of the rules.
abbrev pub cases : List Case
cases =
    ([] asks (pins 0 ∷ pins 1 ∷ pins 2 ∷ driven 0 ∷ driven 1 ∷ driven 2 ∷ []) gives (0xff ∷ 0xff ∷ 0xff ∷ 0 ∷ 0 ∷ 0 ∷ []))
    ∷ (P2 asks (pins 2 ∷ []) gives (0x10 ∷ []))
    ∷ (P3 asks (pins 2 ∷ read_c ∷ []) gives (0x20 ∷ 0x30 ∷ []))
    ∷ (P4 asks (pins 2 ∷ read_c ∷ []) gives (0x38 ∷ 0x38 ∷ []))
    ∷ (P5 asks (byte ∷ pins 2 ∷ []) gives (0x41 ∷ 0x30 ∷ []))
    ∷ ((P5 ++ cycle_end) asks (pins 2 ∷ []) gives (0x10 ∷ []))
    ∷ (P7 asks (pins 2 ∷ read_c ∷ []) gives (0xd0 ∷ 0x80 ∷ []))
    ∷ (P8 asks (pins 2 ∷ read_c ∷ []) gives (0xd8 ∷ 0xc8 ∷ []))
    ∷ ((P8 ++ (event 3 0 0x55 ∷ [])) asks (pins 2 ∷ []) gives (0xd0 ∷ []))
    ∷ (P9 asks (pins 2 ∷ []) gives (0x50 ∷ []))
    ∷ ((P9 ++ levels 2 0xbf) asks (pins 0 ∷ driven 0 ∷ pins 2 ∷ []) gives (0x55 ∷ 0xff ∷ 0x90 ∷ []))
    ∷ (write 3 0x9c asks (pins 2 ∷ read_c ∷ []) gives (0xf6 ∷ 0xf2 ∷ []))
    ∷ ((write 3 0xb0 ++ write 2 0xff) asks (pins 2 ∷ []) gives (0x17 ∷ []))
    ∷ (P13 asks (offered ∷ overwritten ∷ []) gives (2 ∷ 1 ∷ []))
    ∷ ((P13 ++ read_from 0) asks (byte ∷ []) gives (0x42 ∷ []))
    ∷ []

-- Each case of a list, by what the model gives and by what the table says.
abbrev pub modelled : Edition → List Case → List (List ℕ)
modelled ed [] = []
modelled ed (c ∷ cs) = given ed c ∷ modelled ed cs

abbrev pub stated : List Case → List (List ℕ)
stated [] = []
stated (c ∷ cs) = c.results ∷ stated cs

-- How many results the table says of some cases.
abbrev pub results_of : List Case → ℕ
results_of [] = 0
results_of (c ∷ cs) = length c.results + results_of cs
