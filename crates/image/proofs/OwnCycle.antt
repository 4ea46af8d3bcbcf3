-- Whether a channel's own cycle runs, by the byte of the bus.
-- Rests on nothing.
use Rattle.std.proofs.Common.{◌≡◌, List, ℕ, arith, eqb}
use Rattle.std.proofs.lemmas.Bool.Decides.{nat_tests}
use Rattle.control.specs.declared.Group.{Group}
use Rattle.control.specs.declared.Group.TheVariants.{A, B}
use Rattle.chip.specs.declared.channel.Side.{Side}
use Rattle.chip.specs.declared.channel.Side.TheVariants.{Input, Output}
use Rattle.chip.specs.Handshakes.{running}
use Rattle.image.specs.Places as places
use Rattle.image.specs.Loaded.{byte_at, state_of}

-- The byte of the bus while a channel's own cycle runs.
abbrev pub own_byte : Group → Side → ℕ
own_byte A Input = 0
own_byte A Output = 4
own_byte B Input = 1
own_byte B Output = 5

pub runs_there : (l : List ℕ) (g : Group) (s : Side) → running (state_of l).phase g s ≡ eqb (byte_at l places.bus) (own_byte g s)
unfolding state_of
runs_there l A Input = grind (arith, nat_tests)
runs_there l A Output = grind (arith, nat_tests)
runs_there l B Input = grind (arith, nat_tests)
runs_there l B Output = grind (arith, nat_tests)
