-- A channel that the mode word does not strobe takes no part in edges and cycles: it keeps its condition and its tallies through
-- every event but a reset and a mode word ("Events and numbers").
-- Rests on ByEvent, Falls, bits' Logic, and chip's Surrounded, SettingsAfter, ReadsAfter and WritesAfter.
use Rattle.std.proofs.Common.{◌≡◌, ◌∙◌, refl, Bool, true, false, cond, ℕ, eqb}
use mathlib.Core.Bool.{and-false}
use Rattle.bits.proofs.Logic.{contrary}
use Rattle.control.specs.declared.Group.{Group}
use Rattle.control.specs.Mode.{output_of}
use Rattle.chip.specs.declared.channel.Side.{Side}
use Rattle.chip.specs.declared.channel.Side.TheVariants.{Input, Output}
use Rattle.chip.specs.declared.Core.{Core}
use Rattle.chip.specs.declared.Chip.{Chip}
use Rattle.chip.specs.State.{channel_of}
use Rattle.chip.specs.Handshakes.{strobed, own_address}
use Rattle.chip.proofs.Surrounded.{latch_spares, spared_channel}
use Rattle.chip.proofs.SettingsAfter.{bit_put}
use Rattle.chip.specs.Read.{after_read_begins, after_read_ends}
use Rattle.chip.proofs.ReadsAfter.{begun_input, begun_output, ended_input, ended_output}
use Rattle.chip.specs.Write.{stored_in, latch_written}
use Rattle.chip.proofs.WritesAfter.{Stored}
use Rattle.chip.specs.Step.{step_of}
use Rattle.laws.specs.Kept.{Kept, Keeps, reaches_all}
use Rattle.laws.proofs.ByEvent.{by_event}
use Rattle.laws.proofs.Falls.{kept, levels_kept}

module _ (c : Core) (g : Group) where
  abbrev Still : Side → Core → Type 0
  Still s c' = Kept (channel_of c g s) (channel_of c' g s)

  begun : (s : Side) → strobed c.word g s ≡ false → (x : ℕ) → Still s (after_read_begins c x)
  begun Input off x = kept (begun_input c x g ∙ rw (off))
  begun Output off x = kept (begun_output c x g)

  ended : (s : Side) → strobed c.word g s ≡ false → (x : ℕ) → Still s (after_read_ends c x)
  ended Input off x = kept (ended_input c x g ∙ rw (off))
  ended Output off x = kept (ended_output c x g)

  written : (s : Side) → strobed c.word g s ≡ false → (x d : ℕ) (c' : Core) → Stored c' c x d → Still s c'
  written Input off x d c' k = kept (k.input g)
  written Output off x d c' k = rw (k.output g, off) (go (output_of c.word g) (own_address x g))
    where
      go : (out own : Bool) → Kept (channel_of c g Output) (cond own (cond out (stored_in (channel_of c g Output) false d) (channel_of c g Output)) (channel_of c g Output))
      go true true = record { fill = refl; tally = refl }
      go false true = kept refl
      go out false = kept refl

pub unstrobed_stays : (c : Chip) (g : Group) (s : Side) (k x d : ℕ) → strobed c.core.word g s ≡ false → reaches_all c.phase k ≡ false
    → Keeps c g s (step_of c k x d).state
unstrobed_stays c g s k x d off none =
    let unreached = contrary (reaches_all c.phase k) none in
    by_event (λ c'. Still c.core g s c'.core) c k x d (record {
      stays = kept refl;
      reset = λ zero. absurd (unreached (rw (zero)));
      read_begins = λ one ok. begun c.core g s off x;
      ends = λ two. record {
        read = λ p phase. ended c.core g s off p;
        mode_word = λ w phase seven. absurd (unreached (rw (two, phase, seven)));
        bit_word = λ w phase seven. kept ((bit_put c.core w seven).channel g s ∙ rw (off));
        lines = λ b phase. kept (spared_channel (latch_spares c.core (latch_written c.core.word c.core.c.latch b)) g s);
        port = λ a b phase. written c.core g s off a b;
      };
      write_begins = λ three ok. kept refl;
      levels = λ five ok. levels_kept c.core g s x d (rw (off) (and-false (eqb x 2)));
    })
