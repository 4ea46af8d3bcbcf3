-- States that no history reaches: what is seen of two chips is the same, over every history ("Events and numbers").
use Rattle.std.specs.Prelude.{◌≡◌, List, ℕ}
use Rattle.bus.specs.Event.{Event}
use Rattle.control.specs.declared.Group.{Group}
use Rattle.chip.specs.declared.channel.Side.{Side}
use Rattle.chip.specs.declared.channel.Fill.{Fill}
use Rattle.chip.specs.declared.Chip.{Chip}
use Rattle.chip.specs.State.{port_of, tally_of, with_output, with_port}
use Rattle.chip.specs.Status.{intr_of}
use Rattle.chip.specs.Reasons.{explained_of, numbers_of}
use Rattle.chip.specs.Reads.{read_of}
use Rattle.chip.specs.Pins.{pins_of}
use Rattle.chip.specs.Step.{stepped}
use Rattle.fates.specs.Promise.{run}

-- A chip with an output in another condition.
abbrev pub with_condition : Chip → Group → Fill → Chip
with_condition c g f =
    let p = port_of c.core g in
    record {
      phase = c.phase;
      edition = c.edition;
      core = with_port c.core g (with_output p (record { fill = f; latch = p.output.latch; tally = p.output.tally }));
    }

-- A chip with another mode word.
abbrev pub with_word : Chip → ℕ → Chip
with_word c w = record {
  phase = c.phase;
  edition = c.edition;
  core = record { word = w; a = c.core.a; b = c.core.b; c = c.core.c; inte = c.core.inte };
}

-- After the events es the two answer whatever event comes next alike, show and tell the same, and have the same tallies, seven of each channel.
pub record SameSight (c c' : Chip) (es : List Event) : Type 0 where
  pub number : (e : Event) → (stepped (run c es) e).number ≡ (stepped (run c' es) e).number
  pub byte : (e : Event) → (stepped (run c es) e).byte ≡ (stepped (run c' es) e).byte
  pub levels : (p : ℕ) → (pins_of (run c es) p).levels ≡ (pins_of (run c' es) p).levels
  pub driven : (p : ℕ) → (pins_of (run c es) p).driven ≡ (pins_of (run c' es) p).driven
  pub reads : (p : ℕ) → read_of (run c es) p ≡ read_of (run c' es) p
  pub interrupt : (g : Group) → intr_of (run c es) g ≡ intr_of (run c' es) g
  pub tallies : (g : Group) (s : Side) → tally_of (run c es) g s ≡ tally_of (run c' es) g s
  pub explains : (n : ℕ) → numbers_of (explained_of (run c es) n) ≡ numbers_of (explained_of (run c' es) n)
