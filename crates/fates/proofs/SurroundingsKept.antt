-- The chip's bus phase, edition, mode word and outside levels are those that the history works out for itself.
-- Rests on Accepted, the bus's ByKind, and chip's Surrounded, SettingsAfter, ReadsAfter, WritesAfter and LevelsAfter.
use Rattle.std.proofs.Common.{◌≡◌, refl, true, cond, ℕ}
use Rattle.bus.proofs.ByKind.{by_kind}
use Rattle.bus.specs.Event.{Event, event}
use Rattle.bus.specs.Device.{after_in}
use Rattle.bus.specs.declared.Phase.{Phase}
use Rattle.bus.specs.declared.Phase.TheVariants.{Idle, Reading, Writing}
use Rattle.control.specs.declared.Group.TheVariants.{A, B}
use Rattle.chip.specs.declared.Edition.{Edition}
use Rattle.chip.specs.declared.Core.{Core}
use Rattle.chip.specs.declared.Chip.{Chip}
use Rattle.chip.proofs.Surrounded.{Surrounded, spared_surrounded}
use Rattle.chip.specs.ModeWord.{after_mode_word}
use Rattle.chip.proofs.SettingsAfter.{mode_word_word, mode_word_ports, mode_word_lines}
use Rattle.chip.specs.Read.{after_read_begins, after_read_ends}
use Rattle.chip.proofs.ReadsAfter.{begun_surrounded, ended_surrounded}
use Rattle.chip.proofs.WritesAfter.{by_address}
use Rattle.chip.specs.Levels.{after_levels}
use Rattle.chip.proofs.LevelsAfter.{levels_word, levels_ports, levels_lines}
use Rattle.chip.specs.Step.{device, on_bus, after_end, stepped}
use Rattle.fates.specs.Kinds.{cycle_ended, new_levels, kind_of, accepts}
use Rattle.fates.specs.Surroundings.{surroundings_after, surroundings_next}
use Rattle.fates.specs.Promise.{surroundings_of}
use Rattle.fates.proofs.Accepted.{no_kind_accepted, by_outcome}

-- The surroundings of a core like c, in the phase ph.
surroundings_like : (ph : Phase) (ed : Edition) (c' c : Core) → Surrounded c' c → surroundings_of (on_bus ph ed c') ≡ surroundings_of (on_bus ph ed c)
surroundings_like ph ed c' c k = rw (k.word, k.ports A, k.ports B, k.lines)

-- Those of a core made anew.
surroundings_mode_word : (ph : Phase) (ed : Edition) (c : Core) (w : ℕ)
    → surroundings_of (on_bus ph ed (after_mode_word c w))
    ≡ record { phase = ph; edition = ed; word = w; levels_a = c.a.outside; levels_b = c.b.outside; levels_c = c.c.outside }
surroundings_mode_word ph ed c w = rw (mode_word_word c w, mode_word_ports c w A, mode_word_ports c w B, mode_word_lines c w)

module _ (ed : Edition) (c : Core) where
  cycle_ended_lem : (ph : Phase) → surroundings_of (on_bus Idle ed (after_end c ph)) ≡ surroundings_after (surroundings_of (on_bus ph ed c)) cycle_ended
  cycle_ended_lem Idle = refl
  cycle_ended_lem (Reading p) = surroundings_like Idle ed (after_read_ends c p) c (ended_surrounded c p)
  cycle_ended_lem (Writing x d) =
      by_address (λ c'. surroundings_of (on_bus Idle ed c') ≡ surroundings_after (surroundings_of (on_bus (Writing x d) ed c)) cycle_ended) c x d
      (λ mode. rw (mode) (surroundings_mode_word Idle ed c d))
      (λ mode three c' k. rw (mode) (surroundings_like Idle ed c' c k.surroundings))
      (λ mode two c' k. rw (mode) (surroundings_like Idle ed c' c (spared_surrounded k)))
      (λ mode elsewhere c' k. rw (mode) (surroundings_like Idle ed c' c k.surroundings))

  levels_set : (ph : Phase) (x d : ℕ) → surroundings_of (on_bus ph ed (after_levels c x d)) ≡ surroundings_after (surroundings_of (on_bus ph ed c)) (new_levels x d)
  levels_set ph x d = rw (levels_word c x d, levels_ports c x d A, levels_ports c x d B, levels_lines c x d)

module _ (c : Chip) where
  abbrev Surrounds : Event → Type 0
  Surrounds e = accepts c.edition c.phase (kind_of e) ≡ true → surroundings_of (after_in device c e.kind e.first e.second) ≡ surroundings_after (surroundings_of c) (kind_of e)

  surroundings_accepted : (k x d : ℕ) → Surrounds (event k x d)
  surroundings_accepted k x d =
      by_kind (λ k. Surrounds (event k x d))
      (λ ok. surroundings_mode_word Idle c.edition c.core 0x9b)
      (λ ok. surroundings_like (Reading x) c.edition (after_read_begins c.core x) c.core (begun_surrounded c.core x))
      (λ ok. cycle_ended_lem c.edition c.core c.phase)
      (λ ok. refl)
      (λ ok. levels_set c.edition c.core c.phase x d)
      (λ k none ok. absurd (no_kind_accepted c.edition c.phase k x d none ok))
      k

  -- After any event, accepted or refused.
  pub surroundings_next_lem : (e : Event) → surroundings_of (stepped c e).state ≡ surroundings_next (surroundings_of c) e
  surroundings_next_lem e =
      by_outcome (λ c' ok. surroundings_of c' ≡ cond ok (surroundings_after (surroundings_of c) (kind_of e)) (surroundings_of c)) c e
      (surroundings_accepted e.kind e.first e.second) refl
