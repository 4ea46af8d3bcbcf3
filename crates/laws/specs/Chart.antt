-- What the mode 0 chart says of a chip, by what is seen of it ("Mode words").
use Rattle.std.specs.Prelude.{◌≡◌, cond, not, ℕ, ◌<◌, ltb}
use Rattle.control.specs.declared.Directions.{Directions}
use Rattle.chip.specs.declared.Chip.{Chip}
use Rattle.chip.specs.Pins.{pins_of}
use Rattle.laws.specs.Seen.{driven}

-- A pin of port C is driven where its half is an output, and not where it is an input.
abbrev pub LinesCharted : Chip → Directions → Type 0
LinesCharted c d = (n : ℕ) → n < 8 → driven c n ≡ not (cond (ltb n 4) d.lower d.upper)

-- A row of directions: so it is with both halves of port C, and with all lines of ports A and B.
pub record AsCharted (c : Chip) (d : Directions) : Type 0 where
  pub port_a : (pins_of c 0).driven ≡ cond d.a 0 0xff
  pub port_b : (pins_of c 1).driven ≡ cond d.b 0 0xff
  pub lines : LinesCharted c d
