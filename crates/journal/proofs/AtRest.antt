-- A chip is as a reset leaves it exactly if a reset leaves it as it is.
-- Rests on Exact, and on bits' Logic.
use Rattle.std.proofs.Common.{rules, ◌≡◌, refl, sym, subst, Bool, true, false, not, eqb, eqb-true}
use Rattle.bits.proofs.Logic.{both, contrary}
use Rattle.bus.specs.declared.Phase.{Phase}
use Rattle.bus.specs.declared.Phase.TheVariants.{Idle}
use Rattle.bus.specs.Refusals.{is_busy}
use Rattle.bus.specs.Device.{reset_in}
use Rattle.chip.specs.declared.channel.Channel.{Channel}
use Rattle.chip.specs.declared.Port.{Port}
use Rattle.chip.specs.declared.Enables.{Enables}
use Rattle.chip.specs.declared.Chip.{Chip}
use Rattle.chip.specs.State.{no_enables, power_up_word}
use Rattle.chip.specs.Moves.{after_clear}
use Rattle.chip.specs.ModeWord.{cleared_port, after_mode_word}
use Rattle.chip.specs.Step.{device}
use Rattle.journal.specs.Same.{same_state, is_clear, is_cleared, none_is_on, is_at_rest}
use Rattle.journal.proofs.Exact.{then, other_state}

idle : (p : Phase) → not (is_busy p) ≡ true → p ≡ Idle
idle p h = search rules

off : (e : Enables) → none_is_on e ≡ true → e ≡ no_enables
off e h = search rules

-- What is clear stays as it is when it is cleared.
channel_stays : (ch : Channel) → is_clear ch ≡ true → after_clear ch ≡ ch
unfolding after_clear
channel_stays ch h = search rules

port_stays : (p : Port) → is_cleared p ≡ true → cleared_port p ≡ p
unfolding cleared_port
port_stays p h =
    let each = both (is_clear p.input) (is_clear p.output) h in
    λ i. record { input = channel_stays p.input each.0 i; output = channel_stays p.output each.1 i; outside = p.outside }

module _ (c : Chip) where
  abbrev next : Chip
  next = reset_in device c

  stays : is_at_rest c ≡ true → next ≡ c
  unfolding after_mode_word
  stays h =
      let b = both _ (is_cleared c.core.b) h in
      let a = both _ (is_cleared c.core.a) b.0 in
      let e = both _ (none_is_on c.core.inte) a.0 in
      let l = both _ (eqb c.core.c.latch 0) e.0 in
      let w = both (not (is_busy c.phase)) (eqb c.core.word power_up_word) l.0 in
      λ i. record {
        phase = sym (idle c.phase w.0) i;
        edition = c.edition;
        core = record {
          word = sym (eqb-true c.core.word power_up_word w.1) i;
          a = port_stays c.core.a a.1 i;
          b = port_stays c.core.b b.1 i;
          c = record { latch = sym (eqb-true c.core.c.latch 0 l.1) i; outside = c.core.c.outside };
          inte = sym (off c.core.inte e.1) i;
        };
      }

  rests : is_at_rest next ≡ true
  unfolding after_mode_word cleared_port after_clear
  rests = refl

  -- So the one tells the other.
  pub reset_told : is_at_rest c ≡ same_state c next
  reset_told = go (is_at_rest c) refl
    where
      go : (b : Bool) → is_at_rest c ≡ b → b ≡ same_state c next
      go true is = sym (then c next (sym (stays is)))
      go false is = sym (other_state c next (λ same. contrary (is_at_rest c) is (subst (λ (d : Chip). is_at_rest d ≡ true) (sym same) rests)))
