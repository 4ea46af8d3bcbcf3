-- A byte that waits is in the latch: each byte that still waits at the end of a history has the value that the chip's channel holds then.
-- Rests on Shapes, Story, SurroundingsKept, Followed and SameByte, and on bits' Logic.
use Rattle.std.proofs.Common.{◌≡◌, ◌∙◌, refl, ap, sym, subst, Bool, true, false, cond, ◌||◌, List, [], ◌∷◌, ℕ, suc}
use Rattle.bits.proofs.Logic.{contrary}
use Rattle.bus.specs.Event.{Event}
use Rattle.control.specs.declared.Group.{Group}
use Rattle.chip.specs.declared.channel.Side.{Side}
use Rattle.chip.specs.declared.channel.Fill.{Fill}
use Rattle.chip.specs.declared.channel.Fill.TheVariants.{Empty, Waiting, Fetching}
use Rattle.chip.specs.declared.Chip.{Chip}
use Rattle.fates.specs.Kinds.{kind_of, accepts}
use Rattle.fates.specs.Surroundings.{surroundings_next}
use Rattle.fates.specs.Effects.{Effect, cleared_away, nothing, strobes, when, own_effect, clears, effect, effects}
use Rattle.fates.specs.Left.{left}
use Rattle.fates.specs.Bytes.{waiting, Offer, offered_at, bytes, same}
use Rattle.fates.specs.Promise.{surroundings_of, new_bytes, all_bytes, HeldInTheLatch, WaitsByHandshake}
use Rattle.fates.specs.Follows.{clears_now}
use Rattle.fates.proofs.SurroundingsKept.{surroundings_next_lem}
use Rattle.fates.proofs.Shapes.{Shape, shape_of, fill_after, is_offer, is_plant, held_after, none_waits}
use Rattle.fates.proofs.Story.{story, decided_each, bytes_step}
use Rattle.fates.proofs.Followed.{after, fill, latch, effect_in, shape_in, story_on}
use Rattle.fates.proofs.SameByte.{strobed_alone, alone, cleared_now, alone_kept, Holds, holds_next}

module _ (g : Group) (s : Side) where
  -- Where a byte waits in the condition f, the handshake alone fills the latch.
  abbrev Fills : Chip → Fill → Type 0
  Fills c f = f ≡ Waiting → alone g s c ≡ true

  -- An effect brings a byte to a channel in the condition f.
  abbrev comes : Fill → Shape → Bool
  comes f d = is_offer d || is_plant s f d

  -- What follows of a strobed channel, and of one to which nothing happens, follows of any that is not cleared.
  by_strobed : (P : Effect → Type 0) (c : Chip) (e : Event) → P nothing → P cleared_away
      → (strobes c.core.word g s ≡ true → P (own_effect g s (surroundings_of c) (kind_of e))) → P (effect g s (surroundings_of c) e)
  by_strobed P c e rests cleared own = go (accepts c.edition c.phase (kind_of e)) (clears c.phase (kind_of e)) (strobes c.core.word g s) refl
    where
      go : (accepted all on : Bool) → strobes c.core.word g s ≡ on
          → P (when accepted (cond all cleared_away (when on (own_effect g s (surroundings_of c) (kind_of e)))))
      go false all on is = rests
      go true true on is = cleared
      go true false true is = own is
      go true false false is = rests

  -- A byte that waits after an event waited before it, or the handshake has brought it; so it has where one comes.
  fills_before : (c : Chip) (f : Fill) (e : Event) → Fills c f → fill_after s f (shape_in g s c e) ≡ Waiting → alone g s c ≡ true
  fills_before c f e was =
      by_strobed (λ d. fill_after s f (shape_of d) ≡ Waiting → alone g s c ≡ true) c e was (λ waits. absurd (none_waits s f Empty tt waits))
      (λ on waits. strobed_alone c.core.word g s on)

  comes_alone : (c : Chip) (f : Fill) (e : Event) → comes f (shape_in g s c e) ≡ true → alone g s c ≡ true
  comes_alone c f e =
      by_strobed (λ d. comes f (shape_of d) ≡ true → alone g s c ≡ true) c e (λ on. absurd (contrary _ refl on)) (λ on. absurd (contrary _ refl on))
      (λ on brought. strobed_alone c.core.word g s on)

  -- An event that clears all channels leaves none waiting; any other leaves the mode word.
  waits_after : (c : Chip) (f : Fill) (e : Event) → fill_after s f (shape_in g s c e) ≡ Waiting → alone g s c ≡ true → alone g s (after c e) ≡ true
  waits_after c f e waits was = alone_kept g s c e (go (clears_now (surroundings_of c) e) refl) ∙ was
    where
      go : (all : Bool) → clears_now (surroundings_of c) e ≡ all → all ≡ false
      go true is =
          absurd (none_waits s f Empty tt (subst (λ (d : Effect). fill_after s f (shape_of d) ≡ Waiting) (cleared_now g s (surroundings_of c) e is) waits))
      go false is = refl

  -- Along a history, from any condition in which both that and SameByte's Holds hold.
  held_along : (c : Chip) (f : Fill) (h : Offer) (n : ℕ) (es : List Event) → Fills c f → Holds g s c h
      → HeldInTheLatch g s c es (story s f h n (effects g s (surroundings_of c) es))
  held_along c Empty h n [] fills held = tt
  held_along c Waiting h n [] fills held = (λ still. sym (held (fills refl)), tt)
  held_along c Fetching h n [] fills held = tt
  held_along c f h n (e ∷ es) fills held =
      let d = shape_in g s c e in
      rw (story_on g s c e f h n es)
      (decided_each _ f h n d _
      (λ waits decides still. absurd (contrary _ decides (ap (same waiting) still)))
      (held_along (after c e) (fill_after s f d) (held_after s f h n d) (suc n) es
      (λ waits. waits_after c f e waits (fills_before c f e fills waits)) (holds_next g s c f h n e held)))

  -- The bytes that come since the start of a history, from any chip.
  coming_held : (c : Chip) (f : Fill) (h : Offer) (n : ℕ) (es : List Event) → Holds g s c h
      → HeldInTheLatch g s c es (bytes s (left f h.value) n (effects g s (surroundings_of c) es))
  coming_held c f h n [] held = tt
  coming_held c f h n (e ∷ es) held =
      rw (bytes_step s f h n (effect_in g s c e) (effects g s (surroundings_next (surroundings_of c) e) es), ← surroundings_next_lem c e)
      (go (comes f (shape_in g s c e)) refl
      (coming_held (after c e) (fill_after s f (shape_in g s c e)) (held_after s f h n (shape_in g s c e)) (suc n) es (holds_next g s c f h n e held)))
    where
      next : Offer
      next = held_after s f h n (shape_in g s c e)

      then : Fill
      then = fill_after s f (shape_in g s c e)

      later : List Effect
      later = effects g s (surroundings_of (after c e)) es

      go : (brought : Bool) → comes f (shape_in g s c e) ≡ brought → HeldInTheLatch g s (after c e) es (bytes s (left then next.value) (suc n) later)
          → HeldInTheLatch g s (after c e) es (cond brought (story s then next (suc n) later) (bytes s (left then next.value) (suc n) later))
      go true brought rest =
          held_along (after c e) then next (suc n) es (λ waits. waits_after c f e waits (comes_alone c f e brought)) (holds_next g s c f h n e held)
      go false none rest = rest

  pub new_held : (c : Chip) (es : List Event) → HeldInTheLatch g s c es (new_bytes g s c es)
  new_held c es = coming_held c (fill g s c) (offered_at 0 (latch g s c)) 1 es (λ alone. refl)

  -- With the byte that may wait at the start.
  pub held_from : (c : Chip) → WaitsByHandshake g s c → (es : List Event) → HeldInTheLatch g s c es (all_bytes g s c es)
  held_from c fills es = held_along c (fill g s c) (offered_at 0 (latch g s c)) 1 es fills (λ alone. refl)
