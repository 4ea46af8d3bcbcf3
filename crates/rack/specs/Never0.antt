-- No refusal of a rack has the number 0 ("Events and numbers").
use Rattle.std.specs.Prelude.{refl}
use Rattle.bus.specs.Never0 as bus
use Rattle.bus.specs.Never0.{Never0}
use Rattle.rack.specs.Answers.{bad_rack_told, refusal_number, view_refusal_number}
use Rattle.rack.specs.declared.refusals.RackRefusal.TheVariants.{NoCard, Card}
use Rattle.rack.specs.declared.refusals.ViewRefusal as views

pub bad_rack_never_0 : Never0 bad_rack_told
bad_rack_never_0 r = refl

pub refusal_never_0 : Never0 refusal_number
refusal_never_0 NoCard = refl
refusal_never_0 (Card r) = bus.refusal_never_0 r

pub view_refusal_never_0 : Never0 view_refusal_number
view_refusal_never_0 views.TheVariants.NoCard = refl
view_refusal_never_0 views.TheVariants.NoSuchGroup = refl
