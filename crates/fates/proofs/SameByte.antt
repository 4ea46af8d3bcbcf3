-- Each byte handed over is the byte offered or planted: where the handshake alone fills the latch, the latch has the value that the history
-- works out, and what takes a byte shows the latch.
-- Rests on Shapes, Story, SurroundingsKept, Followed and Shown, and on bits' Logic.
use Rattle.std.proofs.Common.{◌≡◌, ◌∙◌, refl, ap, sym, subst, Bool, true, false, cond, ◌&&◌, List, [], ◌∷◌, ℕ, suc, ◌+◌, arith, T}
use mathlib.Core.Bool.{or-true}
use Rattle.bits.proofs.Logic.{contrary, both}
use Rattle.bus.specs.Event.{Event}
use Rattle.bus.specs.declared.Phase.{Phase}
use Rattle.control.specs.declared.Group.{Group}
use Rattle.chip.specs.declared.channel.Side.{Side}
use Rattle.chip.specs.declared.channel.Side.TheVariants.{Input, Output}
use Rattle.chip.specs.declared.channel.Fill.{Fill}
use Rattle.chip.specs.declared.channel.Fill.TheVariants.{Empty, Waiting, Fetching}
use Rattle.chip.specs.declared.Chip.{Chip}
use Rattle.fates.specs.Kinds.{Kind, reset, read_begun, cycle_ended, write_begun, new_levels, unknown, kind_of, accepts}
use Rattle.fates.specs.Surroundings.{Surroundings, word_after, surroundings_after, surroundings_next}
use Rattle.fates.specs.Effects.{cleared_away, strobes, clears, effect}
use Rattle.fates.specs.Bytes.{handed_over, Offer, offered_at, Byte, same}
use Rattle.fates.specs.Promise.{surroundings_of, Each, Shows, ShownAt, handshake_alone}
use Rattle.fates.specs.Follows.{clears_now}
use Rattle.fates.proofs.Shapes.{fate_by, latch_after, held_after, held_latch}
use Rattle.fates.proofs.Story.{story, decided_each}
use Rattle.fates.proofs.SurroundingsKept.{surroundings_next_lem}
use Rattle.fates.proofs.Followed.{after, fill, latch, shape_in, story_of, next_latch, story_next}
use Rattle.fates.proofs.Shown.{taken_shows}

-- The mode word changes only where every channel is cleared.
pub word_stays : (ph : Phase) (w : ℕ) (e : Kind) → clears ph e ≡ false → word_after ph w e ≡ w
word_stays ph w reset none = cc
word_stays ph w (read_begun x) none = refl
word_stays ph w cycle_ended none = rw (none)
word_stays ph w (write_begun x d) none = refl
word_stays ph w (new_levels x d) none = refl
word_stays ph w unknown none = refl

-- So it stays through every event that does not clear them.
word_kept : (a : Surroundings) (e : Event) → clears_now a e ≡ false → (surroundings_next a e).word ≡ a.word
word_kept a e none = go (accepts a.edition a.phase (kind_of e)) (clears a.phase (kind_of e)) refl none
  where
    go : (accepted all : Bool) → clears a.phase (kind_of e) ≡ all → (accepted && all) ≡ false → (cond accepted (surroundings_after a (kind_of e)) a).word ≡ a.word
    go true true is none = absurd (contrary _ none refl)
    go true false is none = word_stays a.phase a.word (kind_of e) is
    go false all is none = refl

-- What an event is that clears them.
pub cleared_now : (g : Group) (s : Side) (a : Surroundings) (e : Event) → clears_now a e ≡ true → effect g s a e ≡ cleared_away
cleared_now g s a e now = let k = both (accepts a.edition a.phase (kind_of e)) (clears a.phase (kind_of e)) now in rw (k.0, k.1)

-- A strobed channel's latch is filled by the handshake alone.
pub strobed_alone : (w : ℕ) (g : Group) (s : Side) → strobes w g s ≡ true → handshake_alone w g s ≡ true
strobed_alone w g Input on = refl
strobed_alone w g Output on = on

module _ (g : Group) (s : Side) where
  abbrev pub alone : Chip → Bool
  alone c = handshake_alone c.core.word g s

  -- What fills the latch is the same before and after an event that clears nothing.
  pub alone_kept : (c : Chip) (e : Event) → clears_now (surroundings_of c) e ≡ false → alone (after c e) ≡ alone c
  alone_kept c e none =
      ap (λ a. handshake_alone a.word g s) (surroundings_next_lem c e) ∙ ap (λ w. handshake_alone w g s) (word_kept (surroundings_of c) e none)

  -- Where the handshake alone fills the latch, it has the value of h, which the history follows from effect to effect.
  abbrev pub Holds : Chip → Offer → Type 0
  Holds c h = alone c ≡ true → latch g s c ≡ h.value

  pub holds_next : (c : Chip) (f : Fill) (h : Offer) (n : ℕ) (e : Event) → Holds c h → Holds (after c e) (held_after s f h n (shape_in g s c e))
  holds_next c f h n e held now = go (clears_now (surroundings_of c) e) refl ∙ sym (held_latch s f h n (shape_in g s c e))
    where
      go : (all : Bool) → clears_now (surroundings_of c) e ≡ all → latch g s (after c e) ≡ latch_after h.value (shape_in g s c e)
      go true is =
          next_latch g s c e (rw (is) (or-true (alone c)))
          ∙ rw (cleared_now g s (surroundings_of c) e is)
      go false is =
          let before = sym (alone_kept c e is) ∙ now in
          next_latch g s c e (rw (before)) ∙ ap (λ (l : ℕ). latch_after l (shape_in g s c e)) (held before)

-- What P says of the place and the value of a byte handed over.
abbrev HandedOver : (ℕ → ℕ → Type 0) → Byte → Type 0
HandedOver P b = b.outcome.fate ≡ handed_over → P b.outcome.place b.offer.value

module _ (g : Group) (s : Side) (P : ℕ → ℕ → Type 0) where
  -- What is shown of a byte that waits, as an event at place n takes it.
  shown_here : (c : Chip) (h : Offer) (n : ℕ) (e : Event) → Holds g s c h → ((v : ℕ) → Shows g s c e v → P n v)
      → fate_by (shape_in g s c e) ≡ handed_over → P n h.value
  shown_here c h n e held here is =
      let t = taken_shows c g s e (subst (λ x. T (same handed_over x)) (sym is) tt) in
      here h.value (subst (Shows g s c e) (held (strobed_alone c.core.word g s t.0)) t.1)

  -- Along a history, with the first event at place n: `lift` brings what an event shows to the place where it stands.
  shown_along : (c : Chip) (h : Offer) (n : ℕ) (es : List Event) → Holds g s c h
      → ((j v : ℕ) → ShownAt g s c es (suc j) v → P (n + j) v) → Each (HandedOver P) (story_of g s c h n es)
  shown_along c h n [] held lift = go (fill g s c)
    where
      go : (f : Fill) → Each (HandedOver P) (story s f h n [])
      go Empty = tt
      go Waiting = (λ is. absurd (contrary false refl (ap (same handed_over) is)), tt)
      go Fetching = tt
  shown_along c h n (e ∷ es) held lift =
      let d = shape_in g s c e in
      let next = held_after s (fill g s c) h n d in
      rw (story_next g s c e h n es)
      (decided_each (HandedOver P) (fill g s c) h n d (story_of g s (after c e) next (suc n) es)
      (λ waits decides. shown_here c h n e held (λ v t. subst (λ m. P m v) (omega arith) (lift 0 v t)))
      (shown_along (after c e) next (suc n) es (holds_next g s c (fill g s c) h n e held)
      (λ j v t. subst (λ m. P m v) (omega arith) (lift (suc j) v t))))

-- From the start of a history, whose first event is at place 1.
pub as_offered_lem : (g : Group) (s : Side) (c : Chip) (es : List Event)
    → Each (HandedOver (ShownAt g s c es)) (story_of g s c (offered_at 0 (latch g s c)) 1 es)
as_offered_lem g s c es =
    shown_along g s (ShownAt g s c es) c (offered_at 0 (latch g s c)) 1 es
    (λ alone. refl) (λ j v t. subst (λ m. ShownAt g s c es m v) (omega arith) t)
