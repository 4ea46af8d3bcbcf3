-- What a history leads to, told by its events: what surrounds the channels of the chip, and what the input latches hold.
-- Rests on bits' Logic, and on fates' Shapes, SurroundingsKept and Followed.
use Rattle.std.proofs.Common.{◌≡◌, ◌∙◌, refl, ap, List, [], ◌∷◌, ◌++◌, ℕ}
use Rattle.bits.proofs.Logic.{either_way}
use Rattle.bus.specs.Event.{Event}
use Rattle.control.specs.declared.Group.{Group}
use Rattle.control.specs.declared.Group.TheVariants.{A, B}
use Rattle.chip.specs.declared.channel.Side.TheVariants.{Input}
use Rattle.chip.specs.declared.channel.Fill.TheVariants.{Empty}
use Rattle.chip.specs.declared.Edition.{Edition}
use Rattle.chip.specs.declared.Chip.{Chip}
use Rattle.chip.specs.declared.Levels.{Levels}
use Rattle.chip.specs.State.{power_up_as}
use Rattle.fates.specs.Kinds.{kind_of, accepts}
use Rattle.fates.specs.Surroundings.{Surroundings, at_power_up, surroundings_after, surroundings_next, surroundings_over}
use Rattle.fates.specs.Effects.{Effect, offered, followed, taken, ended, cleared_away, forced_full, forced_empty, nothing, effects}
use Rattle.fates.specs.Left.{Left, left, latch_left, left_after}
use Rattle.fates.specs.Promise.{run, surroundings_of}
use Rattle.fates.proofs.Shapes.{shape_of, latch_after}
use Rattle.fates.proofs.SurroundingsKept.{surroundings_next_lem}
use Rattle.fates.proofs.Followed.{after, latch, effect_in, next_latch}
use Rattle.journallaws.specs.Here.{left_by, here, left_here}

-- One event more.
pub one_more_lem : (c : Chip) (es : List Event) (e : Event) → run c (es ++ e ∷ []) ≡ after (run c es) e
one_more_lem c [] e = refl
one_more_lem c (x ∷ es) e = one_more_lem (after c x) es e

pub around_is : (c : Chip) (es : List Event) → surroundings_of (run c es) ≡ surroundings_over (surroundings_of c) es
around_is c [] = refl
around_is c (e ∷ es) = around_is (after c e) es ∙ ap (λ a. surroundings_over a es) (surroundings_next_lem c e)

-- No event changes the edition.
same_edition : (a : Surroundings) (es : List Event) → (surroundings_over a es).edition ≡ a.edition
same_edition a [] = refl
same_edition a (e ∷ es) =
    same_edition (surroundings_next a e) es
    ∙ either_way (λ (b : Surroundings). b.edition) a.edition (accepts a.edition a.phase (kind_of e)) (surroundings_after a (kind_of e)) a refl refl

-- An effect leaves of a latch what the history says.
latch_left_lem : (l : ℕ) (d : Effect) → latch_after l (shape_of d) ≡ latch_left l d
latch_left_lem l (offered v) = refl
latch_left_lem l (followed v) = refl
latch_left_lem l taken = refl
latch_left_lem l ended = refl
latch_left_lem l cleared_away = refl
latch_left_lem l forced_full = refl
latch_left_lem l forced_empty = refl
latch_left_lem l nothing = refl

-- An input's latch is filled by the handshake alone.
latch_along : (g : Group) (c : Chip) (es : List Event) (h : Left) → latch g Input c ≡ h.latch
    → latch g Input (run c es) ≡ (left_by Input h (effects g Input (surroundings_of c) es)).latch
latch_along g c [] h same = same
latch_along g c (e ∷ es) h same =
    latch_along g (after c e) es (left_after Input h (effect_in g Input c e))
    (next_latch g Input c e refl ∙ latch_left_lem (latch g Input c) (effect_in g Input c e) ∙ ap (λ l. latch_left l (effect_in g Input c e)) same)
    ∙ ap (λ a. (left_by Input (left_after Input h (effect_in g Input c e)) (effects g Input a es)).latch) (surroundings_next_lem c e)

-- From a power-up.
module _ (ed : Edition) (v : Levels) (es : List Event) where
  abbrev pub reached : Chip
  reached = run (power_up_as ed v) es

  pub surrounded : surroundings_of reached ≡ here ed v es
  surrounded = around_is (power_up_as ed v) es

  pub edition_here : (here ed v es).edition ≡ ed
  edition_here = same_edition (at_power_up ed v) es

  pub latched : (g : Group) → latch g Input reached ≡ (left_here ed v es g Input).latch
  latched A = latch_along A (power_up_as ed v) es (left Empty 0) refl
  latched B = latch_along B (power_up_as ed v) es (left Empty 0) refl
