-- Without the other group's events a history is the same to a group: it leaves the same of it, and gives its channels the same bytes.
-- Rests on Alike, Seen, Bus, Beside, ByHistory, Heard, Effects, bits' Logic, and fates' SurroundingsKept.
use Rattle.std.proofs.Common.{◌≡◌, ◌∙◌, refl, ap, sym, true, false, not, List, ◌∷◌}
use borrow.Author.Tests.{not-true}
use Rattle.bits.proofs.Logic.{both}
use Rattle.bus.specs.Event.{Event}
use Rattle.control.specs.declared.Group.{Group}
use Rattle.control.specs.declared.Group.TheVariants.{A, B}
use Rattle.chip.specs.declared.channel.Side.{Side}
use Rattle.chip.specs.declared.channel.Side.TheVariants.{Input, Output}
use Rattle.chip.specs.declared.Edition.{Edition}
use Rattle.chip.specs.declared.Chip.{Chip}
use Rattle.chip.specs.declared.Levels.{Levels}
use Rattle.chip.specs.State.{power_up_as, port_of, channel_of}
use Rattle.chip.specs.Step.{stepped}
use Rattle.fates.specs.Surroundings.{at_power_up}
use Rattle.fates.specs.Effects.{Effect, levels_on, effect, effects}
use Rattle.fates.specs.Bytes.{offered_at, bytes_of, values_and_fates}
use Rattle.fates.specs.Promise.{run, surroundings_of}
use Rattle.fates.proofs.SurroundingsKept.{surroundings_next_lem}
use Rattle.groups.specs.Belongings.{belongings_of}
use Rattle.groups.specs.Doings.{other, its_cycle}
use Rattle.groups.specs.Alone.{without, ever_in_the_way, out_of_the_way}
use Rattle.groups.specs.Apart.{SameTo}
use Rattle.groups.proofs.Alike.{alike_same}
use Rattle.groups.proofs.Seen.{same_belongings}
use Rattle.groups.proofs.Bus.{not_its_lem}
use Rattle.groups.proofs.Beside.{Beside, beside_on_bus}
use Rattle.groups.proofs.ByHistory.{Through, by_history}
use Rattle.groups.proofs.Heard.{hearing, heard, same_heard}
use Rattle.groups.proofs.Effects.{Around, quiet, same_effect}

-- The same is left of the group.
left_through : (g : Group) → Through g (λ c' es' c es. belongings_of g (run c es) ≡ belongings_of g (run c' es'))
left_through g = record {
  none = λ c' c k. sym (same_belongings g c' c (beside_on_bus g c' c k));
  dropped = λ c' c e es' es its so. so;
  kept = λ c' c e es' es k others clear so. so;
}

-- What a channel of the group can tell of its surroundings is the same beside.
around : (g : Group) (c' c : Chip) → Beside g c' c → Around g (surroundings_of c') (surroundings_of c)
around g c' c k = record {
  edition = k.edition;
  phase = k.bus;
  word = k.core.word;
  port = levels_are c' g ∙ ap (λ p. p.outside) k.core.port ∙ sym (levels_are c g);
  lines = k.core.lines;
}
  where
    levels_are : (c : Chip) (g : Group) → levels_on g (surroundings_of c) ≡ (port_of c.core g).outside
    levels_are c A = refl
    levels_are c B = refl

-- The effects that are heard of a history from a chip.
abbrev heard_from : Group → Side → Chip → List Event → List Effect
heard_from g s c es = heard (effects g s (surroundings_of c) es)

-- Of its first event, and of the others from the chip that it leaves.
heard_on : (g : Group) (s : Side) (c : Chip) (e : Event) (es : List Event)
    → hearing (effect g s (surroundings_of c) e) (heard_from g s (stepped c e).state es) ≡ heard_from g s c (e ∷ es)
heard_on g s c e es = ap (λ a. hearing (effect g s (surroundings_of c) e) (heard (effects g s a es))) (surroundings_next_lem c e)

heard_through : (g : Group) (s : Side) → Through g (λ c' es' c es. heard_from g s c es ≡ heard_from g s c' es')
heard_through g s = record {
  none = λ c' c k. refl;
  dropped = λ c' c e es' es its so.
      sym (heard_on g s c e es) ∙ ap (λ d. hearing d (heard_from g s (stepped c e).state es)) (quiet g (surroundings_of c) s e its) ∙ so;
  kept = λ c' c e es' es k others clear so.
      sym (heard_on g s c e es)
      ∙ ap (hearing (effect g s (surroundings_of c) e)) so
      ∙ ap (λ d. hearing d (heard_from g s (stepped c' e).state es')) (sym (same_effect g _ _ (around g c' c k) s e others clear))
      ∙ heard_on g s c' e es';
}

-- A chip on whose bus no cycle of the other group runs is beside itself.
beside_itself : (g : Group) (c : Chip) → its_cycle (other g) c.phase ≡ false → Beside g c c
beside_itself g c none = record { core = alike_same g c.core; edition = refl; bus = sym (not_its_lem (other g) c.phase none) }

-- So from every chip.
pub as_if_alone : (g : Group) (c : Chip) (es : List Event) → out_of_the_way (other g) (surroundings_of c) es ≡ true
    → SameTo g c es (without (other g) (surroundings_of c) es)
as_if_alone g c es out =
    let is = both (not (its_cycle (other g) c.phase)) (not (ever_in_the_way (other g) (surroundings_of c) es)) out in
    let itself = beside_itself g c (not-true (its_cycle (other g) c.phase) is.0) in
    let clear = not-true (ever_in_the_way (other g) (surroundings_of c) es) is.1 in
    record {
      belongings = by_history g _ (left_through g) es c c itself clear;
      bytes = λ s.
          let ch = channel_of c.core g s in
          same_heard s ch.fill (offered_at 0 ch.latch) _ _ (by_history g _ (heard_through g s) es c c itself clear);
    }

-- From power-up, of either edition and under any levels, where no byte waits.
pub bytes_as_if_alone : (g : Group) (s : Side) (ed : Edition) (l : Levels) (es : List Event) → out_of_the_way (other g) (at_power_up ed l) es ≡ true
    → values_and_fates (bytes_of g s ed l es) ≡ values_and_fates (bytes_of g s ed l (without (other g) (at_power_up ed l) es))
bytes_as_if_alone A Input ed l es out = (as_if_alone A (power_up_as ed l) es out).bytes Input
bytes_as_if_alone A Output ed l es out = (as_if_alone A (power_up_as ed l) es out).bytes Output
bytes_as_if_alone B Input ed l es out = (as_if_alone B (power_up_as ed l) es out).bytes Input
bytes_as_if_alone B Output ed l es out = (as_if_alone B (power_up_as ed l) es out).bytes Output
