-- One event, followed: the channel's condition, tallies and latch after it, by what the event is to the channel; and the bytes of the
-- channel from there on.
-- Rests on Shapes, Story, Moved, SurroundingsKept and Projection.
use Rattle.std.proofs.Common.{◌≡◌, ◌∙◌, ap, true, false, ◌||◌, List, ◌∷◌, ◌++◌, ℕ, suc}
use Rattle.bus.specs.Event.{Event}
use Rattle.control.specs.declared.Group.{Group}
use Rattle.chip.specs.declared.channel.Side.{Side}
use Rattle.chip.specs.declared.channel.Fill.{Fill}
use Rattle.chip.specs.Channel.{next}
use Rattle.chip.specs.declared.Chip.{Chip}
use Rattle.chip.specs.State.{channel_of, tally_of}
use Rattle.chip.specs.Step.{stepped}
use Rattle.fates.specs.Surroundings.{surroundings_next}
use Rattle.fates.specs.Effects.{Effect, effect, effects}
use Rattle.fates.specs.Bytes.{Fate, waiting, Offer, Byte, same}
use Rattle.fates.specs.Promise.{surroundings_of, handshake_alone}
use Rattle.fates.specs.Follows.{clears_now}
use Rattle.fates.proofs.Shapes.{Shape, shape_of, fill_after, latch_after, is_offer, is_plant, gives, held_after}
use Rattle.fates.proofs.Story.{story, decided, story_step}
use Rattle.fates.proofs.Moved.{tally_after, moved_so, tally_for, tally_gives}
use Rattle.fates.proofs.SurroundingsKept.{surroundings_next_lem}
use Rattle.fates.proofs.Projection.{follows}

-- The chip that an event leaves.
abbrev pub after : Chip → Event → Chip
after c e = (stepped c e).state

module _ (g : Group) (s : Side) where
  -- The channel's condition and its latch, in a chip.
  abbrev pub fill : Chip → Fill
  fill c = (channel_of c.core g s).fill

  abbrev pub latch : Chip → ℕ
  latch c = (channel_of c.core g s).latch

  -- What an event that meets a chip is to the channel.
  abbrev pub effect_in : Chip → Event → Effect
  effect_in c e = effect g s (surroundings_of c) e

  -- The shape of that.
  abbrev pub shape_in : Chip → Event → Shape
  shape_in c e = shape_of (effect_in c e)

  -- The bytes of the channel from the chip c on, where the first event is at place n, and the latch has the value of h, which is the byte that
  -- the channel may hold.
  abbrev pub story_of : Chip → Offer → ℕ → List Event → List Byte
  story_of c h n es = story s (fill c) h n (effects g s (surroundings_of c) es)

  module _ (c : Chip) (e : Event) where
    pub next_fill : fill (after c e) ≡ fill_after s (fill c) (shape_in c e)
    next_fill = (follows c g s e).fill ∙ ap (λ ch. ch.fill) (moved_so s (channel_of c.core g s) (effect_in c e))

    next_tallies : tally_of (after c e) g s ≡ tally_after s (fill c) (shape_in c e) (tally_of c g s)
    next_tallies = (follows c g s e).tally ∙ ap (λ ch. ch.tally) (moved_so s (channel_of c.core g s) (effect_in c e))

    pub next_tally : (f : Fate) → same f waiting ≡ false
        → tally_for f (tally_of (after c e) g s) ≡ next (gives f (fill c) (shape_in c e)) (tally_for f (tally_of c g s))
    next_tally f tallied = ap (tally_for f) next_tallies ∙ tally_gives f tallied s (fill c) (shape_in c e) (tally_of c g s)

    pub next_offered : (tally_of (after c e) g s).offered ≡ next (is_offer (shape_in c e)) (tally_of c g s).offered
    next_offered = ap (λ t. t.offered) next_tallies

    pub next_planted : (tally_of (after c e) g s).planted ≡ next (is_plant s (fill c) (shape_in c e)) (tally_of c g s).planted
    next_planted = ap (λ t. t.planted) next_tallies

    pub next_latch : (handshake_alone c.core.word g s || clears_now (surroundings_of c) e) ≡ true → latch (after c e) ≡ latch_after (latch c) (shape_in c e)
    next_latch sure = (follows c g s e).latch sure ∙ ap (λ ch. ch.latch) (moved_so s (channel_of c.core g s) (effect_in c e))

    -- What the event decides, and then the bytes from the chip that it leaves, of a story that begins in any condition;
    pub story_on : (f : Fill) (h : Offer) (n : ℕ) (es : List Event)
        → story s f h n (effects g s (surroundings_of c) (e ∷ es))
        ≡ decided f h n (shape_in c e) ++ story s (fill_after s f (shape_in c e)) (held_after s f h n (shape_in c e)) (suc n) (effects g s (surroundings_of (after c e)) es)
    story_on f h n es = rw (surroundings_next_lem c e) (story_step s f h n (effect_in c e) (effects g s (surroundings_next (surroundings_of c) e) es))

    -- and of the one that begins in the chip's.
    pub story_next : (h : Offer) (n : ℕ) (es : List Event)
        → story_of c h n (e ∷ es) ≡ decided (fill c) h n (shape_in c e) ++ story_of (after c e) (held_after s (fill c) h n (shape_in c e)) (suc n) es
    story_next h n es = rw (next_fill) (story_on (fill c) h n es)
