-- A line that is low at power-up makes no fall until an event has raised it: up to then STB brings in no byte, and ACK takes none.
-- Rests on Shapes, Story, Counted, Shown and Powered, and on bits' Logic.
use Rattle.std.proofs.Common.{◌≡◌, ◌∙◌, refl, ap, Bool, true, false, cond, ◌&&◌, List, [], ◌∷◌, ℕ, suc, zero-add, eqb}
use mathlib.Core.Bool.{and-false}
use Rattle.bits.specs.Bit.{bit_of}
use Rattle.bits.proofs.Logic.{either_way}
use Rattle.bus.specs.Event.{Event}
use Rattle.control.specs.declared.Group.{Group}
use Rattle.chip.specs.declared.channel.Side.{Side}
use Rattle.chip.specs.declared.channel.Side.TheVariants.{Input, Output}
use Rattle.chip.specs.declared.channel.Fill.{Fill}
use Rattle.chip.specs.declared.channel.Fill.TheVariants.{Empty}
use Rattle.chip.specs.declared.Edition.{Edition}
use Rattle.chip.specs.declared.Levels.{Levels}
use Rattle.fates.specs.Kinds.{Kind, reset, cycle_ended, unknown, read_begun, write_begun, new_levels, kind_of, accepts}
use Rattle.fates.specs.Surroundings.{Surroundings, brought, levels_after, surroundings_after, surroundings_next, at_power_up}
use Rattle.fates.specs.Effects.{Effect, offered, followed, taken, ended, cleared_away, forced_full, forced_empty, nothing, port_number, strobe_pin, full_pin, strobes, read_runs, write_runs, of_pin, says_full, when, own_effect, clears, effect_of, effect, effects}
use Rattle.fates.specs.Left.{left}
use Rattle.fates.specs.Bytes.{handed_over, Offer, offered_at, bytes, offered_among, count}
use Rattle.fates.specs.Promise.{NoneOffered, NoneHandedOver}
use Rattle.fates.specs.Raised.{raises, NeverRaised}
use Rattle.fates.proofs.Shapes.{shape_of, fill_after, is_offer, held_after}
use Rattle.fates.proofs.Story.{story, story_step, offers_counted}
use Rattle.fates.proofs.Counted.{count_decided, none_yet}
use Rattle.fates.proofs.Shown.{takes}
use Rattle.fates.proofs.Powered.{offered_since, handed_since}

-- What the line of a channel does: STB offers, and ACK takes.
abbrev by_line : Side → Effect → Bool
by_line Input d = is_offer (shape_of d)
by_line Output d = takes d

-- None of the effects is the line's.
abbrev Unmoved : Side → List Effect → Type 0
Unmoved s [] = Unit {0}
Unmoved s (d ∷ ds) = (by_line s d ≡ false) × Unmoved s ds

-- A low line stays low under levels that do not raise it.
levels_low : (n l : ℕ) (e : Kind) → bit_of l n ≡ false → raises n e ≡ false → bit_of (levels_after 2 l e) n ≡ false
levels_low n l reset low kept = low
levels_low n l (read_begun x) low kept = low
levels_low n l cycle_ended low kept = low
levels_low n l (write_begun x d) low kept = low
levels_low n l (new_levels x d) low kept = go (eqb x 2) kept
  where
    go : (lines : Bool) → (lines && bit_of d n) ≡ false → bit_of (cond lines d l) n ≡ false
    go true kept = kept
    go false kept = low
levels_low n l unknown low kept = low

low_next : (n : ℕ) (a : Surroundings) (e : Event) → bit_of a.levels_c n ≡ false → raises n (kind_of e) ≡ false → bit_of (surroundings_next a e).levels_c n ≡ false
low_next n a e low kept =
    either_way (λ (b : Surroundings). bit_of b.levels_c n) false (accepts a.edition a.phase (kind_of e)) (surroundings_after a (kind_of e)) a
    (levels_low n a.levels_c (kind_of e) low kept) low

-- What is nothing to a channel is not its line's, and what is under a condition is so only where it is so without it.
at_rest : (s : Side) → by_line s nothing ≡ false
at_rest Input = refl
at_rest Output = refl

under : (s : Side) (b : Bool) (d : Effect) → by_line s d ≡ false → by_line s (when b d) ≡ false
under s b d other = either_way (by_line s) false b d nothing other (at_rest s)

-- Nor is the end of a cycle, where it is not the line's to end it, nor a flag that is forced.
ending : (s : Side) (runs own says : Bool) (d : Effect) → by_line s d ≡ false → by_line s (cond runs d (when own (cond says forced_full forced_empty))) ≡ false
ending s true own says d other = other
ending Input false true true d other = refl
ending Input false true false d other = refl
ending Output false true true d other = refl
ending Output false true false d other = refl
ending s false false says d other = at_rest s

-- Nor is what clears all channels.
clearing : (s : Side) → by_line s cleared_away ≡ false
clearing Input = refl
clearing Output = refl

module _ (g : Group) (a : Surroundings) where
  -- Under a low line no event is the line's.
  own_unmoved : (s : Side) (e : Kind) → bit_of a.levels_c (strobe_pin g s) ≡ false → by_line s (own_effect g s a e) ≡ false
  own_unmoved s reset low = at_rest s
  own_unmoved Input (read_begun x) low = under Input (eqb x (port_number g)) taken refl
  own_unmoved Output (read_begun x) low = refl
  own_unmoved Input cycle_ended low = ending Input (read_runs g a.phase) (of_pin a.phase (full_pin g Input)) (says_full Input (bit_of (brought a.phase) 0)) ended refl
  own_unmoved Output cycle_ended low =
      ending Output (write_runs g a.phase) (of_pin a.phase (full_pin g Output)) (says_full Output (bit_of (brought a.phase) 0)) (offered (brought a.phase)) refl
  own_unmoved s (write_begun x d) low = at_rest s
  own_unmoved Input (new_levels x d) low = rw (low, and-false (eqb x 2)) (under Input (eqb x (port_number g) && true) (followed d) refl)
  own_unmoved Output (new_levels x d) low = rw (low, and-false (eqb x 2))
  own_unmoved s unknown low = at_rest s

  effect_unmoved : (s : Side) (e : Event) → bit_of a.levels_c (strobe_pin g s) ≡ false → by_line s (effect g s a e) ≡ false
  effect_unmoved s e low =
      under s (accepts a.edition a.phase (kind_of e)) (effect_of g s a (kind_of e))
      (either_way (by_line s) false (clears a.phase (kind_of e)) cleared_away _ (clearing s)
      (under s (strobes a.word g s) (own_effect g s a (kind_of e)) (own_unmoved s (kind_of e) low)))

effects_unmoved : (g : Group) (s : Side) (a : Surroundings) (es : List Event) → bit_of a.levels_c (strobe_pin g s) ≡ false → NeverRaised (strobe_pin g s) es
    → Unmoved s (effects g s a es)
effects_unmoved g s a [] low kept = tt
effects_unmoved g s a (e ∷ es) low kept =
    (effect_unmoved g a s e low, effects_unmoved g s (surroundings_next a e) es (low_next (strobe_pin g s) a e low kept.0) kept.1)

-- Where STB does nothing no byte is offered.
none_offered_lem : (f : Fill) (h : Offer) (n : ℕ) (ds : List Effect) → Unmoved Input ds → offered_among (bytes Input (left f h.value) n ds) ≡ 0
none_offered_lem f h n [] still = refl
none_offered_lem f h n (d ∷ ds) still =
    offers_counted Input f h n d ds
    ∙ rw still.0 (zero-add _ ∙ none_offered_lem (fill_after Input f (shape_of d)) (held_after Input f h n (shape_of d)) (suc n) ds still.1)

-- Where ACK does nothing none is handed over.
none_handed : (f : Fill) (h : Offer) (n : ℕ) (ds : List Effect) → Unmoved Output ds → count handed_over (story Output f h n ds) ≡ 0
none_handed f h n [] still = none_yet handed_over refl Output f h n
none_handed f h n (d ∷ ds) still =
    let held = held_after Output f h n (shape_of d) in
    ap (count handed_over) (story_step Output f h n d ds)
    ∙ count_decided handed_over refl f h n (shape_of d) (story Output (fill_after Output f (shape_of d)) held (suc n) ds)
    ∙ rw still.0 (zero-add _ ∙ none_handed (fill_after Output f (shape_of d)) held (suc n) ds still.1)

-- From a power-up that finds the line low, and as long as no event raises it: STB has brought in no byte, and the chip counts none;
pub low_offers_nothing : (g : Group) (ed : Edition) (l : Levels) (es : List Event) → bit_of l.c (strobe_pin g Input) ≡ false → NeverRaised (strobe_pin g Input) es
    → NoneOffered g ed l es
low_offers_nothing g ed l es low kept =
    let none = none_offered_lem Empty (offered_at 0 0) 1 (effects g Input (at_power_up ed l) es) (effects_unmoved g Input (at_power_up ed l) es low kept) in
    record { by_events = none; by_tally = offered_since ed l es g Input ∙ rw (none) }

-- ACK has taken none of those that were written, and the chip counts none.
pub low_takes_nothing : (g : Group) (ed : Edition) (l : Levels) (es : List Event) → bit_of l.c (strobe_pin g Output) ≡ false → NeverRaised (strobe_pin g Output) es
    → NoneHandedOver g ed l es
low_takes_nothing g ed l es low kept =
    let none = none_handed Empty (offered_at 0 0) 1 (effects g Output (at_power_up ed l) es) (effects_unmoved g Output (at_power_up ed l) es low kept) in
    record { by_events = none; by_tally = handed_since ed l es g Output ∙ rw (none) }
