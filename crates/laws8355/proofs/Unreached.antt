-- In states that no history reaches, a cycle at a place that there is not ends, and that is all ("The 8355 ports"). A read ends so at every place.
-- Rests on the bus's ByPhase, and on Ports.
use Rattle.std.proofs.Common.{◌≡◌, ◌∙◌, ap, ℕ, ◌<◌}
use Rattle.bus.specs.declared.Phase.TheVariants.{Reading, Writing}
use Rattle.bus.proofs.ByPhase as bus
use Rattle.i8355.specs.declared.Chip8355.{Chip8355}
use Rattle.i8355.specs.Step.{device, step_of}
use Rattle.laws8355.specs.Places.{ends_with}
use Rattle.laws8355.proofs.Ports.{written_nowhere}

pub every_read_ends : (c : Chip8355) (p x d : ℕ) → c.phase ≡ Reading p → step_of c 2 x d ≡ ends_with c.ports
unfolding step_of
every_read_ends c p x d phase = bus.read_ends_lem device c x d p phase

pub write_to_no_address_ends : (c : Chip8355) (a b x d : ℕ) → c.phase ≡ Writing a b → 3 < a → step_of c 2 x d ≡ ends_with c.ports
unfolding step_of
write_to_no_address_ends c a b x d phase none =
    bus.write_ends device c x d a b phase ∙ ap ends_with (written_nowhere c.ports a b none)
