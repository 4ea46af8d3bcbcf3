-- In states that no history reaches, a cycle at a place that there is not ends, and that is all ("Events and numbers").
-- Rests on chip's ReadsAfter, WritesAfter and Ends.
use Rattle.std.proofs.Common.{◌≡◌, ◌∙◌, ap, ℕ, ◌<◌}
use Rattle.bus.specs.declared.Phase.TheVariants.{Idle, Reading, Writing}
use Rattle.chip.specs.declared.Core.{Core}
use Rattle.chip.specs.declared.Chip.{Chip}
use Rattle.chip.proofs.ReadsAfter.{ended_nowhere}
use Rattle.chip.proofs.WritesAfter.{written_nowhere}
use Rattle.chip.specs.Step.{on_bus, accepted, step_of}
use Rattle.chip.proofs.Ends.{read_ends_lem, write_ends}

pub read_of_no_port_ends : (c : Chip) (p x d : ℕ) → c.phase ≡ Reading p → 1 < p → step_of c 2 x d ≡ accepted (on_bus Idle c.edition c.core) 0
read_of_no_port_ends c p x d phase none =
    read_ends_lem c p x d phase ∙ ap (λ (core : Core). accepted (on_bus Idle c.edition core) 0) (ended_nowhere c.core p none)

pub write_to_no_address_ends : (c : Chip) (a b x d : ℕ) → c.phase ≡ Writing a b → 3 < a → step_of c 2 x d ≡ accepted (on_bus Idle c.edition c.core) 0
write_to_no_address_ends c a b x d phase none =
    write_ends c a b x d phase ∙ ap (λ (core : Core). accepted (on_bus Idle c.edition core) 0) (written_nowhere c.core a b none)
