-- A chip without the other group's events beside the chip with them: events keep them alike in what belongs to the group.
-- Rests on Alike, OneEvent, Together, Bus, bits' Logic, the bus's ByKind, laws' Editions and Interrupts, and fates' Accepted and
-- SurroundingsKept.
use Rattle.std.proofs.Common.{◌≡◌, ◌∙◌, refl, ap, sym, subst, Bool, true, false, cond, ℕ}
use Rattle.bits.proofs.Logic.{contrary}
use Rattle.bus.specs.Event.{Event, event}
use Rattle.bus.proofs.ByKind.{by_kind}
use Rattle.bus.specs.Device.{after_in}
use Rattle.bus.specs.declared.Phase.TheVariants.{Idle}
use Rattle.control.specs.declared.Group.{Group}
use Rattle.chip.specs.declared.channel.Side.{Side}
use Rattle.chip.specs.declared.Chip.{Chip}
use Rattle.chip.specs.State.{power_up_word}
use Rattle.chip.specs.Handshakes.{running}
use Rattle.laws.proofs.Editions.{edition_stays}
use Rattle.laws.proofs.Interrupts.{none_runs}
use Rattle.chip.specs.Step.{device, after_end, stepped}
use Rattle.fates.specs.Kinds.{kind_of, accepts}
use Rattle.fates.specs.Surroundings.{Surroundings}
use Rattle.fates.specs.Promise.{surroundings_of}
use Rattle.fates.proofs.Accepted.{no_kind_accepted, by_outcome}
use Rattle.fates.proofs.SurroundingsKept.{surroundings_next_lem}
use Rattle.groups.specs.Doings.{other, its_cycle, is_of}
use Rattle.groups.specs.Alone.{in_the_way}
use Rattle.groups.proofs.Alike.{Alike, AlikeOnBus, alike_then, alike_back}
use Rattle.groups.proofs.OneEvent.{not_running, left_by_event}
use Rattle.groups.proofs.Together.{begun_both, anew_both, ended_both, levels_both}
use Rattle.groups.proofs.Bus.{freed, not_its_lem, accepted_beside, kept_next, dropped_next}

-- The chip c' without the other group's events beside the chip c with them.
pub record Beside (g : Group) (c' c : Chip) : Type 0 where
  pub core : Alike g c'.core c.core
  pub edition : c'.edition ≡ c.edition
  pub bus : c'.phase ≡ freed (other g) c.phase

-- Where the other group's cycle runs, none of the group's does.
pub beside_on_bus : (g : Group) (c' c : Chip) → Beside g c' c → AlikeOnBus g c' c
beside_on_bus g c' c k = record {
  core = k.core;
  cycle = λ s. ap (λ ph. running ph g s) k.bus ∙ go s (its_cycle (other g) c.phase) refl;
}
  where
    go : (s : Side) (its : Bool) → its_cycle (other g) c.phase ≡ its → running (cond its Idle c.phase) g s ≡ running c.phase g s
    go s true runs = none_runs g s ∙ sym (not_running g c.phase runs s)
    go s false none = refl

module _ (g : Group) (c' c : Chip) (k : Beside g c' c) where
  -- An event that is not the other group's, accepted by both.
  abbrev BothTake : Event → Type 0
  BothTake e = accepts c.edition c.phase (kind_of e) ≡ true → is_of (other g) (surroundings_of c) (kind_of e) ≡ false
      → Alike g (after_in device c' e.kind e.first e.second).core (after_in device c e.kind e.first e.second).core

  both_take : (n x d : ℕ) → BothTake (event n x d)
  both_take n x d =
      by_kind (λ n. BothTake (event n x d))
      (λ ok others. anew_both g c'.core c.core k.core power_up_word)
      (λ ok others. begun_both g c'.core c.core k.core x)
      (λ ok none.
      subst (λ ph. Alike g (after_end c'.core ph) (after_end c.core c.phase)) (sym (k.bus ∙ not_its_lem (other g) c.phase none))
      (ended_both g c'.core c.core k.core c.phase))
      (λ ok others. k.core)
      (λ ok others. levels_both g c'.core c.core k.core x d)
      (λ n none ok. absurd (no_kind_accepted c.edition c.phase n x d none ok))
      n

  module _ (e : Event) where
    abbrev a : Surroundings
    a = surroundings_of c

    -- An event that is not the other group's comes to both chips, which stay beside each other.
    kept_core : is_of (other g) a (kind_of e) ≡ false → accepts c'.edition c'.phase (kind_of e) ≡ accepts c.edition c.phase (kind_of e)
        → Alike g (stepped c' e).state.core (stepped c e).state.core
    kept_core others =
        by_outcome (λ d ok. accepts c'.edition c'.phase (kind_of e) ≡ ok → Alike g (stepped c' e).state.core d.core) c e
        (λ ok. by_outcome (λ d' ok'. ok' ≡ true → Alike g d'.core (after_in device c e.kind e.first e.second).core) c' e
        (λ ok' same. both_take e.kind e.first e.second ok others)
        (λ same. absurd (contrary false refl same)))
        (by_outcome (λ d' ok'. ok' ≡ false → Alike g d'.core c.core) c' e
        (λ ok' same. absurd (contrary true same refl))
        (λ same. k.core))

    pub kept_beside : is_of (other g) a (kind_of e) ≡ false → in_the_way (other g) a (kind_of e) ≡ false
        → Beside g (stepped c' e).state (stepped c e).state
    kept_beside others clear = record {
      core = kept_core others (rw (k.edition, k.bus) (accepted_beside (other g) a (kind_of e) others clear));
      edition = edition_stays c' _ _ _ ∙ k.edition ∙ sym (edition_stays c _ _ _);
      bus =
          ap (λ a. a.phase) (surroundings_next_lem c' e)
          ∙ kept_next (other g) a (surroundings_of c') e k.edition k.bus others clear
          ∙ ap (λ a. freed (other g) a.phase) (sym (surroundings_next_lem c e));
    }

    -- One that is the other group's comes to c alone, and c' stays beside it.
    pub dropped_beside : is_of (other g) a (kind_of e) ≡ true → Beside g c' (stepped c e).state
    dropped_beside its = record {
      core = alike_then k.core (alike_back (left_by_event g c e (λ ok. rw (its))).core);
      edition = k.edition ∙ sym (edition_stays c _ _ _);
      bus = dropped_next (other g) a c'.phase e k.bus its ∙ ap (λ a. freed (other g) a.phase) (sym (surroundings_next_lem c e));
    }
