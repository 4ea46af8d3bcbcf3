-- What of the history reaches each card, computed.
-- Rests on nothing.
use Rattle.std.proofs.Common.{◌≡◌, refl}
use Rattle.racklaws.specs.Whom.{free, events_for}
use Rattle.racklaws.specs.Examples.{store, history, for_the_scale, for_the_printer}

pub scale_reached : events_for 0 store free history ≡ for_the_scale
scale_reached = refl

pub printer_reached : events_for 1 store free history ≡ for_the_printer
printer_reached = refl
