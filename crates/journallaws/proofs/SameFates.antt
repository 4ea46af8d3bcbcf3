-- Events after which the chip is as it was decide nothing: without them a history brings each channel the same bytes, places aside.
-- Rests on fates' Shapes, Story, Followed and SameByte, and on restored's Stays and Saved.
use Rattle.std.proofs.Common.{◌≡◌, ◌∙◌, refl, ap, ap₂, sym, subst, true, List, [], ◌∷◌, ◌++◌, ℕ, suc, arith}
use Rattle.bus.specs.Event.{Event}
use Rattle.control.specs.declared.Group.{Group}
use Rattle.chip.specs.declared.channel.Side.{Side}
use Rattle.chip.specs.declared.channel.Side.TheVariants.{Input, Output}
use Rattle.chip.specs.declared.channel.Fill.{Fill}
use Rattle.chip.specs.declared.channel.Fill.TheVariants.{Empty, Waiting, Fetching}
use Rattle.chip.specs.Channel.{next}
use Rattle.chip.specs.declared.Chip.{Chip}
use Rattle.chip.specs.State.{tally_of}
use Rattle.image.specs.Good.{has_image}
use Rattle.fates.specs.Bytes.{Offer, Byte, ValueAndFate, value_and_fate, values_and_fates}
use Rattle.fates.proofs.Shapes.{Shape, passes, offers, plants, decides, fill_after, held_after, is_offer, none_waits}
use Rattle.fates.proofs.Story.{story, fated, decided}
use Rattle.fates.proofs.Followed.{after, fill, shape_in, story_of, next_fill, next_offered, story_next}
use Rattle.fates.proofs.SameByte.{Holds, holds_next}
use Rattle.restored.proofs.Stays.{image_stays}
use Rattle.restored.proofs.Saved.{waits_strobed}
use Rattle.journallaws.specs.Keeps.{Keeps, none, kept, dropped}

together : (a b : List Byte) → values_and_fates (a ++ b) ≡ values_and_fates a ++ values_and_fates b
together [] b = refl
together (x ∷ a) b = ap (λ (l : List ValueAndFate). value_and_fate x ∷ l) (together a b)

-- Two holdings tell the same of a byte that waits.
pub record Alike (f : Fill) (h k : Offer) : Type 0 where
  pub value : f ≡ Waiting → h.value ≡ k.value
  pub planted : f ≡ Waiting → h.planted ≡ k.planted

-- What an effect decides is then the same, places aside.
same_decided : (f : Fill) (h k : Offer) (n m : ℕ) (d : Shape) → Alike f h k → values_and_fates (decided f h n d) ≡ values_and_fates (decided f k m d)
unfolding decided fated
same_decided Empty h k n m d like = refl
same_decided Fetching h k n m d like = refl
same_decided Waiting h k n m (passes to) like = refl
same_decided Waiting h k n m (offers v) like = rw (like.value refl, like.planted refl)
same_decided Waiting h k n m plants like = refl
same_decided Waiting h k n m (decides x) like = rw (like.value refl, like.planted refl)

-- So is whether the byte that waits after an effect was planted.
same_planted : (s : Side) (f : Fill) (h k : Offer) (n m : ℕ) (d : Shape) → (f ≡ Waiting → h.planted ≡ k.planted)
    → fill_after s f d ≡ Waiting → (held_after s f h n d).planted ≡ (held_after s f k m d).planted
same_planted s f h k n m (passes to) like waits = like waits
same_planted s f h k n m (offers v) like waits = refl
same_planted s Empty h k n m plants like waits = refl
same_planted s Waiting h k n m plants like waits = like refl
same_planted Input Fetching h k n m plants like waits = like waits
same_planted Output Fetching h k n m plants like waits = refl
same_planted s f h k n m (decides x) like waits = refl

-- No tally is the same once it has gone on.
goes_on_lem : (t : ℕ) → ¬ (next true t ≡ t)
goes_on_lem t e = omega (arith, e)

-- An effect that leaves the condition as it is, and offers nothing, decides nothing, and a byte that waits was planted where it was before.
idle_effect : (s : Side) (f : Fill) (h : Offer) (n t : ℕ) (d : Shape) → fill_after s f d ≡ f → next (is_offer d) t ≡ t
    → (decided f h n d ≡ []) × (f ≡ Waiting → (held_after s f h n d).planted ≡ h.planted)
unfolding decided
idle_effect s Empty h n t d stays still = (refl, λ (w : Empty ≡ Waiting). cc)
idle_effect s Fetching h n t d stays still = (refl, λ (w : Fetching ≡ Waiting). cc)
idle_effect s Waiting h n t (passes to) stays still = (refl, λ w. refl)
idle_effect s Waiting h n t (offers v) stays still = absurd (goes_on_lem t still)
idle_effect s Waiting h n t plants stays still = (refl, λ w. refl)
idle_effect s Waiting h n t (decides x) stays still = absurd (none_waits s Waiting (x.left s Waiting) (x.gone s Waiting) stays)

module _ (g : Group) (s : Side) where
  -- Both holdings of a chip with an image tell the latch of a byte that waits there.
  alike : (c : Chip) → has_image c ≡ true → (h k : Offer) → Holds g s c h → Holds g s c k
      → (fill g s c ≡ Waiting → h.planted ≡ k.planted) → Alike (fill g s c) h k
  alike c has h k held held' planted = record {
    value = λ waits. let alone = waits_strobed g s c has waits in sym (held alone) ∙ held' alone;
    planted = planted;
  }

  -- An event that both histories have.
  module _ (c : Chip) (has : has_image c ≡ true) (e : Event) (h k : Offer) (n m : ℕ) (held : Holds g s c h) (held' : Holds g s c k)
      (planted : fill g s c ≡ Waiting → h.planted ≡ k.planted) where
    abbrev d : Shape
    d = shape_in g s c e

    next_planted : fill g s (after c e) ≡ Waiting
        → (held_after s (fill g s c) h n d).planted ≡ (held_after s (fill g s c) k m d).planted
    next_planted waits = same_planted s (fill g s c) h k n m d planted (sym (next_fill g s c e) ∙ waits)

    both_have : (es ks : List Event)
        → values_and_fates (story_of g s (after c e) (held_after s (fill g s c) h n d) (suc n) es)
        ≡ values_and_fates (story_of g s (after c e) (held_after s (fill g s c) k m d) (suc m) ks)
        → values_and_fates (story_of g s c h n (e ∷ es)) ≡ values_and_fates (story_of g s c k m (e ∷ ks))
    both_have es ks later =
        ap values_and_fates (story_next g s c e h n es)
        ∙ together (decided (fill g s c) h n d) _
        ∙ ap₂ (λ (x y : List ValueAndFate). x ++ y) (same_decided (fill g s c) h k n m d (alike c has h k held held' planted)) later
        ∙ sym (together (decided (fill g s c) k m d) _)
        ∙ ap values_and_fates (sym (story_next g s c e k m ks))

  -- The same history, with another holding.
  same_story : (c : Chip) → has_image c ≡ true → (h k : Offer) (n m : ℕ) (es : List Event) → Holds g s c h → Holds g s c k
      → (fill g s c ≡ Waiting → h.planted ≡ k.planted) → values_and_fates (story_of g s c h n es) ≡ values_and_fates (story_of g s c k m es)
  same_story c has h k n m [] held held' planted = at_end (fill g s c) (alike c has h k held held' planted)
    where
      at_end : (f : Fill) → Alike f h k → values_and_fates (story s f h n []) ≡ values_and_fates (story s f k m [])
      at_end Empty like = refl
      at_end Waiting like = rw (like.value refl, like.planted refl)
      at_end Fetching like = refl
  same_story c has h k n m (e ∷ es) held held' planted =
      both_have c has e h k n m held held' planted es es
      (same_story (after c e) (image_stays c e has) _ _ (suc n) (suc m) es
      (holds_next g s c (fill g s c) h n e held) (holds_next g s c (fill g s c) k m e held')
      (next_planted c has e h k n m held held' planted))

  -- A history, and what is kept of it, with the same events behind each.
  pub same_fates : {c : Chip} {es ks : List Event} → Keeps c es ks → has_image c ≡ true → (new : List Event) (h k : Offer) (n m : ℕ)
      → Holds g s c h → Holds g s c k → (fill g s c ≡ Waiting → h.planted ≡ k.planted)
      → values_and_fates (story_of g s c h n (es ++ new)) ≡ values_and_fates (story_of g s c k m (ks ++ new))
  same_fates (none {c}) has new h k n m held held' planted = same_story c has h k n m new held held' planted
  same_fates (kept {c} {e} {es} {ks} changes rest) has new h k n m held held' planted =
      both_have c has e h k n m held held' planted (es ++ new) (ks ++ new)
      (same_fates rest (image_stays c e has) new _ _ (suc n) (suc m)
      (holds_next g s c (fill g s c) h n e held) (holds_next g s c (fill g s c) k m e held')
      (next_planted c has e h k n m held held' planted))
  same_fates (dropped {c} {e} {es} {ks} stays rest) has new h k n m held held' planted =
      let f = fill g s c in
      let d = shape_in g s c e in
      let same_fill : fill_after s f d ≡ f = sym (next_fill g s c e) ∙ ap (fill g s) stays in
      let same_count = sym (next_offered g s c e) ∙ ap (λ (x : Chip). (tally_of x g s).offered) stays in
      let idle = idle_effect s f h n (tally_of c g s).offered d same_fill same_count in
      ap values_and_fates (story_next g s c e h n (es ++ new))
      ∙ ap (λ (l : List Byte). values_and_fates (l ++ story_of g s (after c e) (held_after s f h n d) (suc n) (es ++ new))) idle.0
      ∙ same_fates rest (image_stays c e has) new (held_after s f h n d) k (suc n) m
      (holds_next g s c f h n e held) (subst (λ (x : Chip). Holds g s x k) (sym stays) held')
      (λ waits. let w = sym (ap (fill g s) stays) ∙ waits in idle.1 w ∙ planted w)
      ∙ ap (λ (x : Chip). values_and_fates (story_of g s x k m (ks ++ new))) stays
