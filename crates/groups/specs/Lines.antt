-- Levels on port C that differ at the pins of one group alone, computed: all that is seen of one chip before and after ("Two groups").
use Rattle.std.specs.Prelude.{◌≡◌, List, [], ◌∷◌, ◌++◌, ℕ}
use Rattle.bus.specs.Event.{Event}
use Rattle.bus.specs.Histories.{write, levels}
use Rattle.chip.specs.declared.Chip.{Chip}
use Rattle.chip.specs.State.{all_high, power_up_with}
use Rattle.chip.specs.Reads.{read_of}
use Rattle.chip.specs.Pins.{pins_of}
use Rattle.laws.specs.Marked.{strobe}
use Rattle.fates.specs.Promise.{run}

-- What is seen of port A, of port B and of port C: of each the levels, the mask of the pins that the chip drives, and what a read answers.
pub record Sight : Type 0 where
  pub port_a : List ℕ
  pub port_b : List ℕ
  pub port_c : List ℕ

abbrev pub port_seen : Chip → ℕ → List ℕ
port_seen c p = (pins_of c p).levels ∷ (pins_of c p).driven ∷ read_of c p ∷ []

abbrev pub sight_after : List Event → Sight
sight_after es =
    let c = run (power_up_with all_high) es in
    record { port_a = port_seen c 0; port_b = port_seen c 1; port_c = port_seen c 2 }

-- Port A takes and port B gives, each with a handshake. Pin 7 of port C is a free output that is set, and pin 6 one that is not. INTE of A's input is
-- set, and INTE B. The digit 41 is strobed in and waits, and 42 stands on port A's lines since; 33 is written to port B and waits. Outside all of
-- port C is high.
abbrev pub at_work : List Event
at_work = write 3 0xb4 ++ write 3 0x0f ++ write 3 0x09 ++ write 3 0x05 ++ strobe 0x41 ++ levels 0 0x42 ++ write 1 0x33

abbrev pub before : Sight
before = record {
  port_a = 0x42 ∷ 0x00 ∷ 0x41 ∷ [];
  port_b = 0x33 ∷ 0xff ∷ 0x33 ∷ [];
  port_c = 0xbc ∷ 0xeb ∷ 0xbc ∷ [];
}

-- Pins 2 to 0 go low, and with them ACK: 33 is taken, and OBF goes high. Port A and pins 7 to 3 are as before.
abbrev pub pins_2_to_0_low : Sight
pins_2_to_0_low = record {
  port_a = 0x42 ∷ 0x00 ∷ 0x41 ∷ [];
  port_b = 0x33 ∷ 0xff ∷ 0x33 ∷ [];
  port_c = 0xba ∷ 0xeb ∷ 0xbe ∷ [];
}

-- Pins 7 to 4 go low, and with them STB: 42 is latched over 41, and INTR of A goes low. Port B and pins 2 to 0 are as before.
abbrev pub pins_7_to_4_low : Sight
pins_7_to_4_low = record {
  port_a = 0x42 ∷ 0x00 ∷ 0x42 ∷ [];
  port_b = 0x33 ∷ 0xff ∷ 0x33 ∷ [];
  port_c = 0xa4 ∷ 0xeb ∷ 0xb4 ∷ [];
}

-- The chip shows all of this.
pub record LinesInNumbers : Type 0 where
  pub first : sight_after at_work ≡ before
  pub taken : sight_after (at_work ++ levels 2 0xf8) ≡ pins_2_to_0_low
  pub strobed : sight_after (at_work ++ levels 2 0x0f) ≡ pins_7_to_4_low
