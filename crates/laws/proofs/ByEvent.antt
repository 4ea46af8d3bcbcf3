-- The one way through all events: what is so of each thing that an event can leave of the chip is so after every event.
-- Rests on Cycles, bits' Logic, the bus's ByKind, and chip's WritesAfter, Ends and Outcome.
use Rattle.std.proofs.Common.{◌≡◌, ◌∙◌, refl, ap, true, false, ℕ}
use Rattle.bits.specs.Bit.{bit_of}
use Rattle.bits.proofs.Logic.{contrary}
use Rattle.bus.proofs.ByKind.{by_kind}
use Rattle.bus.specs.declared.Phase.{Phase}
use Rattle.bus.specs.declared.Phase.TheVariants.{Idle, Reading, Writing}
use Rattle.bus.specs.Refusals.{number_of}
use Rattle.chip.specs.declared.Core.{Core}
use Rattle.chip.specs.declared.Chip.{Chip}
use Rattle.chip.specs.State.{power_up_word, with_latch}
use Rattle.chip.specs.ModeWord.{after_mode_word}
use Rattle.chip.specs.ControlWord.{after_control_word}
use Rattle.chip.specs.Read.{after_read_begins, after_read_ends}
use Rattle.chip.specs.Write.{latch_written}
use Rattle.chip.proofs.WritesAfter.{Stored, by_write}
use Rattle.chip.specs.Levels.{after_levels}
use Rattle.chip.specs.Step.{limits, on_bus, step_of}
use Rattle.chip.proofs.Ends.{by_phase}
use Rattle.chip.proofs.Outcome.{step_either}
use Rattle.laws.specs.Seen.{makes_anew}
use Rattle.laws.proofs.Cycles.{no_kind_refused}

-- What is so of the chip that the end of each cycle leaves: of a read, and of a write of a mode word, of bit set/reset, to port C, and to any
-- other address.
pub record Ended (P : Chip → Type 0) (c : Chip) : Type 0 where
  pub read : (p : ℕ) → c.phase ≡ Reading p → P (on_bus Idle c.edition (after_read_ends c.core p))
  pub mode_word : (w : ℕ) → c.phase ≡ Writing 3 w → bit_of w 7 ≡ true → P (on_bus Idle c.edition (after_mode_word c.core w))
  pub bit_word : (w : ℕ) → c.phase ≡ Writing 3 w → bit_of w 7 ≡ false → P (on_bus Idle c.edition (after_control_word c.core w))
  pub lines : (d : ℕ) → c.phase ≡ Writing 2 d → P (on_bus Idle c.edition (with_latch c.core (latch_written c.core.word c.core.c.latch d)))
  pub port : (a d : ℕ) → c.phase ≡ Writing a d → (c' : Core) → Stored c' c.core a d → P (on_bus Idle c.edition c')

-- It is so after the end of any cycle, and where there is none to end, if it is so of the chip as it is.
pub by_end : (P : Chip → Type 0) (c : Chip) (x d : ℕ) → P c → Ended P c → P (step_of c 2 x d).state
by_end P c x d stays e =
    by_phase P c x d
    (λ idle. stays)
    e.read
    (λ a b phase. by_write (λ c'. P (on_bus Idle c.edition c')) c.core a b (record {
      mode_word = λ three seven. e.mode_word b (phase ∙ ap (λ a. Writing a b) three) seven;
      bit_word = λ three seven. e.bit_word b (phase ∙ ap (λ a. Writing a b) three) seven;
      lines = λ two. e.lines b (phase ∙ ap (λ a. Writing a b) two);
      port = λ elsewhere. e.port a b phase;
    }))

-- Where no mode word is written, there is nothing to show of one.
pub not_anew : {X : Type 0} {ph : Phase} {w : ℕ} → makes_anew ph ≡ false → ph ≡ Writing 3 w → bit_of w 7 ≡ true → X
not_anew {ph = ph} other phase seven = absurd (contrary (makes_anew ph) other (ap makes_anew phase ∙ seven))

-- What is so of the chip as it is, and of what each kind of event leaves of it where it is accepted.
pub record Through (P : Chip → Type 0) (c : Chip) (k x d : ℕ) : Type 0 where
  pub stays : P c
  pub reset : k ≡ 0 → P (on_bus Idle c.edition (after_mode_word c.core power_up_word))
  pub read_begins : k ≡ 1 → number_of (limits c.edition) c.phase 1 x ≡ 0 → P (on_bus (Reading x) c.edition (after_read_begins c.core x))
  pub ends : k ≡ 2 → Ended P c
  pub write_begins : k ≡ 3 → number_of (limits c.edition) c.phase 3 x ≡ 0 → P (on_bus (Writing x d) c.edition c.core)
  pub levels : k ≡ 5 → number_of (limits c.edition) c.phase 5 x ≡ 0 → P (on_bus c.phase c.edition (after_levels c.core x d))

-- It is so after any event.
pub by_event : (P : Chip → Type 0) (c : Chip) (k x d : ℕ) → Through P c k x d → P (step_of c k x d).state
by_event P c k x d =
    by_kind (λ k. Through P c k x d → P (step_of c k x d).state)
    (λ t. step_either P c 0 x d t.stays (λ ok. t.reset refl))
    (λ t. step_either P c 1 x d t.stays (t.read_begins refl))
    (λ t. by_end P c x d t.stays (t.ends refl))
    (λ t. step_either P c 3 x d t.stays (t.write_begins refl))
    (λ t. step_either P c 5 x d t.stays (t.levels refl))
    (λ k none t. rw (no_kind_refused c k x d none) t.stays)
    k
