-- A cycle that is not a half's own leaves that half of INTR as it was, in every state ("Handshake").
-- Rests on Cycles, ByEvent, FillAfter, Interrupts, bits' Logic, and chip's Surrounded, ReadsAfter and Outcome.
use Rattle.std.proofs.Common.{◌≡◌, ◌∙◌, refl, ap, sym, true, false, ℕ}
use Rattle.bits.proofs.Logic.{contrary}
use Rattle.bus.specs.Kinds.{begins}
use Rattle.bus.specs.Refusals.{number_of}
use Rattle.bus.specs.declared.Phase.{Phase}
use Rattle.bus.specs.declared.Phase.TheVariants.{Idle, Reading, Writing}
use Rattle.control.specs.declared.Group.{Group}
use Rattle.chip.specs.declared.channel.Side.{Side}
use Rattle.chip.specs.declared.channel.Side.TheVariants.{Input, Output}
use Rattle.chip.specs.declared.channel.Fill.{Fill}
use Rattle.chip.specs.declared.Edition.{Edition}
use Rattle.chip.specs.declared.Chip.{Chip}
use Rattle.chip.specs.State.{channel_of}
use Rattle.chip.specs.Handshakes.{own_address, running}
use Rattle.chip.proofs.Surrounded.{Surrounded, latch_spares, spared_channel, spared_surrounded}
use Rattle.chip.specs.Status.{request_of}
use Rattle.chip.proofs.ReadsAfter.{begun_surrounded, begun_enables, ended_surrounded, ended_enables}
use Rattle.chip.specs.Step.{limits, step_of}
use Rattle.chip.proofs.Outcome.{step_either}
use Rattle.laws.specs.Seen.{commands}
use Rattle.laws.proofs.Cycles.{row_refuses}
use Rattle.laws.proofs.ByEvent.{by_end}
use Rattle.laws.proofs.FillAfter.{begun, after_begin_lem, after_read, after_store}
use Rattle.laws.proofs.Interrupts.{none_runs}

-- A half is the same where all that it is told by is the same.
same_half : (c c' : Chip) (g : Group) (s : Side) → Surrounded c'.core c.core → c'.core.inte ≡ c.core.inte
    → (channel_of c'.core g s).fill ≡ (channel_of c.core g s).fill → running c'.phase g s ≡ running c.phase g s
    → request_of c' g s ≡ request_of c g s
unfolding request_of
same_half c c' g s surroundings enables fill runs = rw (fill, surroundings.word, enables, surroundings.lines, runs)

begun_same : (f : Fill) (g : Group) (s : Side) (x : ℕ) → running (Reading x) g s ≡ false → own_address x g ≡ true → begun s f ≡ f
begun_same f g Input x other own = absurd (contrary (own_address x g) other own)
begun_same f g Output x other own = refl

begins_idle : (ed : Edition) (ph : Phase) (k x : ℕ) → begins k ≡ true → number_of (limits ed) ph k x ≡ 0 → ph ≡ Idle
begins_idle ed Idle k x b ok = refl
begins_idle ed (Reading p) k x b ok = absurd (row_refuses ed (Reading p) k x 3 (rw (b)) ok)
begins_idle ed (Writing a d) k x b ok = absurd (row_refuses ed (Writing a d) k x 3 (rw (b)) ok)

-- A cycle that is not a half's own leaves it.
module _ (c : Chip) (g : Group) (s : Side) where
  abbrev Same : Chip → Type 0
  Same c' = request_of c' g s ≡ request_of c g s

  abbrev SameFill : Fill → Type 0
  SameFill f = f ≡ (channel_of c.core g s).fill

  idle_runs : (k x : ℕ) → begins k ≡ true → number_of (limits c.edition) c.phase k x ≡ 0 → running c.phase g s ≡ false
  idle_runs k x b ok = rw (begins_idle c.edition c.phase k x b ok) (none_runs g s)

  pub read_leaves : (x d : ℕ) → running (Reading x) g s ≡ false → Same (step_of c 1 x d).state
  read_leaves x d none =
      step_either Same c 1 x d refl
      (λ ok. same_half c _ g s (begun_surrounded c.core x) (begun_enables c.core x)
      (after_begin_lem SameFill c.core g s x refl (begun_same (channel_of c.core g s).fill g s x none)) (none ∙ sym (idle_runs 1 x refl ok)))

  pub write_leaves : (x d : ℕ) → running (Writing x d) g s ≡ false → Same (step_of c 3 x d).state
  write_leaves x d none =
      step_either Same c 3 x d refl
      (λ ok. same_half c _ g s (record { word = refl; ports = λ g. refl; lines = refl }) refl refl (none ∙ sym (idle_runs 3 x refl ok)))

  elsewhere : {X : Type 0} → running c.phase g s ≡ false → (ph : Phase) → c.phase ≡ ph → running ph g s ≡ true → X
  elsewhere none ph phase own = absurd (contrary _ none (ap (λ ph. running ph g s) phase ∙ own))

  pub end_leaves : (x d : ℕ) → running c.phase g s ≡ false → commands c.phase ≡ false → Same (step_of c 2 x d).state
  end_leaves x d none other =
      let idle = none_runs g s ∙ sym none in
      by_end Same c x d refl (record {
        read = λ p phase. same_half c _ g s (ended_surrounded c.core p) (ended_enables c.core p)
            (after_read SameFill c.core g s p refl (elsewhere none (Reading p) phase)) idle;
        mode_word = λ w phase seven. absurd (contrary (commands c.phase) other (ap commands phase));
        bit_word = λ w phase seven. absurd (contrary (commands c.phase) other (ap commands phase));
        lines = λ b phase. let k = latch_spares c.core _ in
            same_half c _ g s (spared_surrounded k) refl (ap (λ ch. ch.fill) (spared_channel k g s)) idle;
        port = λ a b phase c' k. same_half c _ g s k.surroundings k.enables
            (after_store SameFill c.core g s a b c' k refl (elsewhere none (Writing a b) phase)) idle;
      })
