-- An image of which the bus is saved: it is the image of the state with this on its bus, and of the same edition.
-- Rests on nothing.
use Rattle.std.proofs.Common.{◌≡◌, refl}
use Rattle.bus.specs.declared.Phase.{Phase}
use Rattle.chip.specs.declared.Chip.{Chip}
use Rattle.image.specs.Layout.{image_of}
use Rattle.image.specs.Slices.{bus_saved_in}

pub over_bus : (c : Chip) (ph : Phase) → bus_saved_in (image_of c) ph ≡ image_of (record { phase = ph; edition = c.edition; core = c.core })
unfolding bus_saved_in image_of
over_bus c ph = refl
