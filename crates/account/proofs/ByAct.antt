-- What holds of the chip's core after each act holds after every event.
-- Rests on the bus's ByKind, chip's SettingsAfter, and fates' Accepted.
use Rattle.std.proofs.Common.{◌≡◌, refl, Bool, true, false, cond, ◌&&◌, ℕ, arith, eqb, eqb-true}
use Rattle.bus.specs.Device.{after_in}
use Rattle.bits.specs.Bit.{bit_of}
use Rattle.bus.specs.declared.Phase.{Phase}
use Rattle.bus.specs.declared.Phase.TheVariants.{Idle, Reading, Writing}
use Rattle.chip.specs.declared.Core.{Core}
use Rattle.chip.specs.declared.Chip.{Chip}
use Rattle.chip.specs.State.{with_latch, on_port}
use Rattle.chip.specs.ModeWord.{after_mode_word}
use Rattle.chip.specs.ControlWord.{after_control_word}
use Rattle.chip.proofs.SettingsAfter.{mode_word_lem}
use Rattle.chip.specs.Read.{after_read_begins, after_read_ends}
use Rattle.chip.specs.Write.{stored_by, latch_written}
use Rattle.chip.specs.Write
use Rattle.chip.specs.Levels.{after_levels}
use Rattle.chip.specs.Step.{device, after_end, stepped}
use Rattle.bus.proofs.ByKind.{by_kind}
use Rattle.bus.specs.Event.{Event, event}
use Rattle.fates.specs.Kinds.{kind_of, accepts}
use Rattle.fates.specs.Promise.{surroundings_of}
use Rattle.fates.proofs.Accepted.{no_kind_accepted, by_outcome}
use Rattle.account.specs.Acts.{Act, nothing, anew, read_begins, read_ends, write_begins, written, levels, ending, act_of, act}

-- A core after a write to port C, and after one to port A or B.
abbrev pub latched : Core → ℕ → Core
latched c d = with_latch c (latch_written c.word c.c.latch d)

abbrev pub stored : Core → ℕ → ℕ → Core
stored c x d = on_port c x (λ g p. stored_by p c.word g d)

-- What is shown of the core that each act leaves: nothing happens, all is made anew, a read begins or ends, a write begins; and a write ends,
-- which was of bit set/reset, to the lines of port C, or to port A or B; or levels come.
pub record CoreAfterEachAct (P : Core → Act → Type 0) (c : Core) : Type 0 where
  pub at_rest : P c nothing
  pub made_anew : (w : ℕ) → P (after_mode_word c w) anew
  pub read_starts : (x : ℕ) → P (after_read_begins c x) (read_begins x)
  pub read_over : (x : ℕ) → P (after_read_ends c x) (read_ends x)
  pub write_starts : (x : ℕ) → P c (write_begins x)
  pub pin_put : (x d : ℕ) → eqb x 3 ≡ true → bit_of d 7 ≡ false → P (after_control_word c d) (written x d)
  pub lines_written : (x d : ℕ) → eqb x 2 ≡ true → P (latched c d) (written x d)
  pub port_written : (x d : ℕ) → eqb x 2 ≡ false → eqb x 3 ≡ false → P (stored c x d) (written x d)
  pub levels_put : (x d : ℕ) → P (after_levels c x d) (levels x d)

module _ (P : Core → Act → Type 0) (c : Chip) (shown : CoreAfterEachAct P c.core) where
  control : (x d : ℕ) → eqb x 3 ≡ true → (b : Bool) → bit_of d 7 ≡ b → P (after_control_word c.core d) (cond b anew (written x d))
  control x d three true seven = rw (mode_word_lem c.core d seven) (shown.made_anew d)
  control x d three false seven = shown.pin_put x d three seven

  by_address : (x d : ℕ) (two three : Bool) → eqb x 2 ≡ two → eqb x 3 ≡ three
      → P (cond two (latched c.core d) (cond three (after_control_word c.core d) (stored c.core x d))) (cond (three && bit_of d 7) anew (written x d))
  by_address x d true true e f = let h = eqb-true x 2 e in let k = eqb-true x 3 f in absurd (omega (arith, h, k))
  by_address x d true false e f = shown.lines_written x d e
  by_address x d false true e f = control x d f (bit_of d 7) refl
  by_address x d false false e f = shown.port_written x d e f

  cycle_ended_lem : (ph : Phase) → P (after_end c.core ph) (ending ph)
  unfolding Write.after_write_ends
  cycle_ended_lem Idle = shown.at_rest
  cycle_ended_lem (Reading x) = shown.read_over x
  cycle_ended_lem (Writing x d) = by_address x d (eqb x 2) (eqb x 3) refl refl

  abbrev Acts : Event → Type 0
  Acts e = accepts c.edition c.phase (kind_of e) ≡ true → P (after_in device c e.kind e.first e.second).core (act_of c.phase (kind_of e))

  accepted_act : (k x d : ℕ) → Acts (event k x d)
  accepted_act k x d =
      by_kind (λ k. Acts (event k x d))
      (λ ok. shown.made_anew 0x9b)
      (λ ok. shown.read_starts x)
      (λ ok. cycle_ended_lem c.phase)
      (λ ok. shown.write_starts x)
      (λ ok. shown.levels_put x d)
      (λ k none ok. absurd (no_kind_accepted c.edition c.phase k x d none ok))
      k

  pub by_act : (e : Event) → P (stepped c e).state.core (act (surroundings_of c) e)
  by_act e =
      by_outcome (λ c' ok. P c'.core (cond ok (act_of c.phase (kind_of e)) nothing)) c e
      (accepted_act e.kind e.first e.second) shown.at_rest
