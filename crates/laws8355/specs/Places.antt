-- The places of the 8355 on the bus, and a cycle at a place that there is not ("The 8355 ports", "Events and numbers").
use Rattle.bus.specs.Device.{Given}
use Rattle.i8355.specs.declared.Chip8355.{Chip8355}
use Rattle.bus.specs.declared.Phase.TheVariants.{Idle}
use Rattle.bus.specs.declared.Limits.{Limits}
use Rattle.i8355.specs.declared.Ports.{Ports}
use Rattle.i8355.specs.Step.{on_bus}

-- There are four addresses, of which the first two can be read, and two ports that have levels.
abbrev pub places : Limits
places = record { addresses = 4; readable = 2; ports = 2 }

-- The end of a cycle that leaves the ports as these: it is accepted, and the bus is idle.
abbrev pub ends_with : Ports → Given Chip8355
ends_with s = record { state = on_bus Idle s; number = 0; byte = 0 }
