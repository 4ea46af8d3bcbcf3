-- The older image of a chip: the bytes in which earlier versions saved it, part by part in the order of OlderPlaces. The tallies of bytes
-- that were planted and struck are in none of them, and neither is the edition.
use Rattle.std.specs.Prelude.{List, ◌∷◌, ◌++◌, ℕ, ◌-◌, replicate}
use Rattle.bus.specs.declared.Phase.{Phase}
use Rattle.bus.specs.declared.Phase.TheVariants.{Idle, Reading, Writing}
use Rattle.chip.specs.declared.Chip.{Chip}
use Rattle.image.specs.Layout.{five_tallies, of_channels, enables_byte, written_byte, port_bytes}
use Rattle.image.specs.OlderPlaces as places

-- Whether a read or a write runs.
abbrev pub bus_byte : Phase → ℕ
bus_byte Idle = 0
bus_byte (Reading p) = 1
bus_byte (Writing a d) = 2

-- The port or the address that it names.
abbrev pub address_byte : Phase → ℕ
address_byte Idle = 0
address_byte (Reading p) = p
address_byte (Writing a d) = a

-- From the mode word on: the enables and the cycle that runs, three bytes; what is not used, which is 0.
abbrev pub control_bytes : Chip → List ℕ
control_bytes c =
    c.core.word ∷ enables_byte c.core.inte ∷ bus_byte c.phase ∷ address_byte c.phase ∷ written_byte c.phase
    ∷ replicate (places.length - places.unused) 0

-- All of it.
unfoldable pub older_of : Chip → List ℕ
older_of c = of_channels five_tallies c.core ++ port_bytes c.core ++ control_bytes c
