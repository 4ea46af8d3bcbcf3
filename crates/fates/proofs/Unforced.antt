-- Where no program forces a flag, no byte is planted and none is struck: from any chip, and from every power-up.
-- Rests on Shapes, Story and Counted.
use Rattle.std.proofs.Common.{◌≡◌, ◌∙◌, refl, ap, false, List, [], ◌∷◌, ℕ, suc, zero-add}
use Rattle.bus.specs.Event.{Event}
use Rattle.control.specs.declared.Group.{Group}
use Rattle.chip.specs.declared.channel.Side.{Side}
use Rattle.chip.specs.declared.channel.Fill.{Fill}
use Rattle.chip.specs.declared.channel.Fill.TheVariants.{Empty}
use Rattle.chip.specs.declared.Edition.{Edition}
use Rattle.chip.specs.declared.Chip.{Chip}
use Rattle.chip.specs.declared.Levels.{Levels}
use Rattle.chip.specs.State.{channel_of}
use Rattle.fates.specs.Surroundings.{Surroundings, at_power_up, surroundings_next}
use Rattle.fates.specs.Effects.{Effect, offered, followed, taken, ended, cleared_away, forced_full, forced_empty, nothing, effect, effects}
use Rattle.fates.specs.Left.{left}
use Rattle.fates.specs.Bytes.{struck, Offer, offered_at, bytes, bytes_of, planted_among, count}
use Rattle.fates.specs.Promise.{surroundings_of, new_bytes, all_bytes}
use Rattle.fates.specs.Discipline.{Unforced, NeverForced, NoneForced}
use Rattle.fates.proofs.Shapes.{shape_of, fill_after, is_plant, gives, held_after}
use Rattle.fates.proofs.Story.{story, story_step, plants_counted}
use Rattle.fates.proofs.Counted.{count_decided, none_yet}

-- An effect that forces nothing plants nothing and strikes nothing.
plants_none : (s : Side) (f : Fill) (d : Effect) → Unforced d → is_plant s f (shape_of d) ≡ false
plants_none s f (offered v) free = refl
plants_none s f (followed v) free = refl
plants_none s f taken free = refl
plants_none s f ended free = refl
plants_none s f cleared_away free = refl
plants_none s f forced_full free = absurd free
plants_none s f forced_empty free = refl
plants_none s f nothing free = refl

strikes_none : (f : Fill) (d : Effect) → Unforced d → gives struck f (shape_of d) ≡ false
strikes_none f (offered v) free = refl
strikes_none f (followed v) free = refl
strikes_none f taken free = refl
strikes_none f ended free = refl
strikes_none f cleared_away free = refl
strikes_none f forced_full free = refl
strikes_none f forced_empty free = absurd free
strikes_none f nothing free = refl

module _ (g : Group) (s : Side) where
  none_planted_lem : (a : Surroundings) (f : Fill) (h : Offer) (n : ℕ) (es : List Event) → NeverForced g s a es
      → planted_among (bytes s (left f h.value) n (effects g s a es)) ≡ 0
  none_planted_lem a f h n [] free = refl
  none_planted_lem a f h n (e ∷ es) free =
      let d = shape_of (effect g s a e) in
      plants_counted s f h n (effect g s a e) (effects g s (surroundings_next a e) es)
      ∙ rw (plants_none s f (effect g s a e) free.0)
      (zero-add _ ∙ none_planted_lem (surroundings_next a e) (fill_after s f d) (held_after s f h n d) (suc n) es free.1)

  none_struck_lem : (a : Surroundings) (f : Fill) (h : Offer) (n : ℕ) (es : List Event) → NeverForced g s a es → count struck (story s f h n (effects g s a es)) ≡ 0
  none_struck_lem a f h n [] free = none_yet struck refl s f h n
  none_struck_lem a f h n (e ∷ es) free =
      let d = shape_of (effect g s a e) in
      let rest = effects g s (surroundings_next a e) es in
      ap (count struck) (story_step s f h n (effect g s a e) rest)
      ∙ count_decided struck refl f h n d (story s (fill_after s f d) (held_after s f h n d) (suc n) rest)
      ∙ rw (strikes_none f (effect g s a e) free.0)
      (zero-add _ ∙ none_struck_lem (surroundings_next a e) (fill_after s f d) (held_after s f h n d) (suc n) es free.1)

  -- From any chip.
  pub unforced_from : (c : Chip) (es : List Event) → NeverForced g s (surroundings_of c) es → NoneForced (new_bytes g s c es) (all_bytes g s c es)
  unforced_from c es free =
      let ch = channel_of c.core g s in
      record {
        none_planted = none_planted_lem (surroundings_of c) ch.fill (offered_at 0 ch.latch) 1 es free;
        none_struck = none_struck_lem (surroundings_of c) ch.fill (offered_at 0 ch.latch) 1 es free;
      }

  -- From power-up, whatever the edition and the levels.
  pub unforced : (ed : Edition) (l : Levels) (es : List Event) → NeverForced g s (at_power_up ed l) es
      → NoneForced (bytes_of g s ed l es) (bytes_of g s ed l es)
  unforced ed l es free = record {
    none_planted = none_planted_lem (at_power_up ed l) Empty (offered_at 0 0) 1 es free;
    none_struck = none_struck_lem (at_power_up ed l) Empty (offered_at 0 0) 1 es free;
  }
