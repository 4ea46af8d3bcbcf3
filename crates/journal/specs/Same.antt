-- When two chips are the same: a chip is told by the numbers of its fields, one after the other.
use Rattle.std.specs.Prelude.{Bool, cond, not, ◌&&◌, ◌||◌, List, [], ◌∷◌, ◌++◌, ℕ, eqb}
use Rattle.bits.specs.Same.{same_bytes}
use Rattle.bus.specs.declared.Phase.{Phase}
use Rattle.bus.specs.declared.Phase.TheVariants.{Idle, Reading, Writing}
use Rattle.bus.specs.Refusals.{is_busy}
use Rattle.chip.specs.declared.channel.Fill.{Fill}
use Rattle.chip.specs.declared.channel.Fill.TheVariants.{Empty, Waiting, Fetching}
use Rattle.chip.specs.declared.channel.Tally.{Tally}
use Rattle.chip.specs.declared.channel.Channel.{Channel}
use Rattle.chip.specs.declared.Port.{Port}
use Rattle.chip.specs.declared.Enables.{Enables}
use Rattle.chip.specs.declared.Core.{Core}
use Rattle.chip.specs.declared.Edition.{Edition}
use Rattle.chip.specs.declared.Edition.TheVariants.{Older, Newer}
use Rattle.chip.specs.declared.Chip.{Chip}
use Rattle.chip.specs.State.{power_up_word}
use Rattle.chip.specs.Addresses.{port_a, port_b}
use Rattle.journal.specs.declared.compact.Standing.{Standing}

-- A cycle names its address, and a write its byte too.
abbrev pub of_phase : Phase → List ℕ
of_phase Idle = []
of_phase (Reading x) = x ∷ []
of_phase (Writing x d) = x ∷ d ∷ []

abbrev pub of_edition : Edition → ℕ
of_edition Older = 0
of_edition Newer = 1

abbrev pub of_fill : Fill → ℕ
of_fill Empty = 0
of_fill Waiting = 1
of_fill Fetching = 2

abbrev pub of_tally : Tally → List ℕ
of_tally t = t.offered ∷ t.handed ∷ t.overwritten ∷ t.swallowed ∷ t.planted ∷ t.struck ∷ t.cleared ∷ []

abbrev pub of_channel : Channel → List ℕ
of_channel ch = of_fill ch.fill ∷ ch.latch ∷ of_tally ch.tally

abbrev pub of_port : Port → List ℕ
of_port p = p.outside ∷ of_channel p.input ++ of_channel p.output

abbrev pub of_enable : Bool → ℕ
of_enable on = cond on 1 0

abbrev pub of_enables : Enables → List ℕ
of_enables e = of_enable e.input ∷ of_enable e.output ∷ of_enable e.b ∷ []

abbrev pub of_core : Core → List ℕ
of_core c = c.word ∷ c.c.latch ∷ c.c.outside ∷ of_enables c.inte ++ of_port c.a ++ of_port c.b

abbrev pub of_chip : Chip → List ℕ
of_chip c = of_edition c.edition ∷ of_core c.core ++ of_phase c.phase

-- The test of two chips. That it answers exactly whether they are equal is a theorem.
unfoldable pub same_state : Chip → Chip → Bool
same_state c d = same_bytes (of_chip c) (of_chip d)

-- The levels on a port's lines, and what stands in the latch of its input. Port C has no such latch.
abbrev of_group : Port → Standing
of_group p = record { levels = p.outside; latch = p.input.latch }

abbrev pub standing_at : Chip → ℕ → Standing
standing_at c x = cond (eqb x port_a) (of_group c.core.a) (cond (eqb x port_b) (of_group c.core.b) (record { levels = c.core.c.outside; latch = 0 }))

-- A channel as a reset leaves it, empty and with nothing in its latch; and a port, both of whose channels are so.
abbrev pub is_clear : Channel → Bool
is_clear ch = eqb (of_fill ch.fill) 0 && eqb ch.latch 0

abbrev pub is_cleared : Port → Bool
is_cleared p = is_clear p.input && is_clear p.output

abbrev pub none_is_on : Enables → Bool
none_is_on e = not (e.input || e.output || e.b)

-- A chip as a reset leaves it: no cycle runs, the mode word is that of power-up, no enable and no latch is set, and every channel is empty.
abbrev pub is_at_rest : Chip → Bool
is_at_rest c =
    not (is_busy c.phase)
    && eqb c.core.word power_up_word
    && eqb c.core.c.latch 0
    && none_is_on c.core.inte
    && is_cleared c.core.a
    && is_cleared c.core.b
