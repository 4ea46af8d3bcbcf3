-- Rests on Facts.
use Rattle.std.proofs.Common.{refl}
use Rattle.bus.proofs.Facts.{facts}
use Rattle.bus.proofs.devices.facts_about_cycles.Goals as goal

pub returns : goal.returns
returns g c = λ s. facts g.D.Device.device _ s refl
