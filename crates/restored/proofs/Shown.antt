-- What the chip shows at an event, the calls answer there.
-- Rests on Holds, and on fates' Followed.
use Rattle.std.proofs.Common.{◌≡◌, ◌∙◌, refl, false, List, [], ◌∷◌, ℕ, zero, suc, arith, ltb}
use Rattle.bus.specs.Event.{Event}
use Rattle.control.specs.declared.Group.{Group}
use Rattle.control.specs.declared.Group.TheVariants.{A, B}
use Rattle.chip.specs.declared.channel.Side.{Side}
use Rattle.chip.specs.declared.channel.Side.TheVariants.{Input, Output}
use Rattle.chip.specs.declared.Chip.{Chip}
use Rattle.fates.specs.Effects.{port_number}
use Rattle.fates.specs.Promise.{Shows, ShownAt}
use Rattle.fates.proofs.Followed.{after}
use Rattle.calls.specs.Calls.{last_port}
use Rattle.restored.specs.Host.{passed, Holds}
use Rattle.restored.specs.Answers.{AnswerShows, AnsweredAt}
use Rattle.restored.proofs.Holds.{holds_next, answer_held, pins_held}

-- The pins call refuses neither port.
is_port : (g : Group) → ltb last_port (port_number g) ≡ false
is_port A = refl
is_port B = refl

answer_shows : (g : Group) (s : Side) (l : List ℕ) (c : Chip) (e : Event) (v : ℕ) → Holds l c → Shows g s c e v → AnswerShows g s l e v
answer_shows g Input l c e v h shown = rw (answer_held l c h e, shown.0, shown.1)
answer_shows g Output l c e v h shown = (
  rw (answer_held l c h e, shown.0) (omega arith),
  pins_held (passed l e) (after c e) (holds_next l c h e) (port_number g) ∙ rw (is_port g, shown.1),
)

pub answered_at : (g : Group) (s : Side) (l : List ℕ) (c : Chip) (es : List Event) (n v : ℕ) → Holds l c → ShownAt g s c es n v
    → AnsweredAt g s l es n v
answered_at g s l c [] n v h never = never
answered_at g s l c (e ∷ es) zero v h never = never
answered_at g s l c (e ∷ es) (suc zero) v h shown = answer_shows g s l c e v h shown
answered_at g s l c (e ∷ es) (suc (suc n)) v h shown = answered_at g s (passed l e) (after c e) es (suc n) v (holds_next l c h e) shown
