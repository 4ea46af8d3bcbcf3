-- Every byte has one fate, and the chip's tallies count them.
-- Rests on Shapes, Story, Moved, SurroundingsKept and Followed.
use Rattle.std.proofs.Common.{◌≡◌, ◌∙◌, refl, ap, sym, Bool, true, false, not, List, [], ◌∷◌, ◌++◌, ℕ, suc, ◌+◌, ◌%◌, ◌<◌, arith, length}
use mathlib.Core.Bool.{and-true}
use Rattle.bits.specs.Bit.{num}
use Rattle.bus.specs.Event.{Event}
use Rattle.control.specs.declared.Group.{Group}
use Rattle.chip.specs.declared.channel.Side.{Side}
use Rattle.chip.specs.declared.channel.Fill.{Fill}
use Rattle.chip.specs.declared.channel.Fill.TheVariants.{Empty, Waiting, Fetching}
use Rattle.chip.specs.declared.channel.Tally.{Tally}
use Rattle.chip.specs.Channel.{is_waiting, next}
use Rattle.chip.specs.declared.Chip.{Chip}
use Rattle.chip.specs.State.{no_tally, tally_of}
use Rattle.fates.specs.Surroundings.{surroundings_next}
use Rattle.fates.specs.Effects.{Effect, effects}
use Rattle.fates.specs.Left.{left}
use Rattle.fates.specs.Bytes.{Fate, handed_over, overwritten, swallowed, cleared, struck, waiting, Offer, Byte, bytes, planted_among, offered_among, same, count}
use Rattle.fates.specs.Promise.{run, tallies, surroundings_of, SixteenBits}
use Rattle.fates.proofs.Shapes.{Shape, shape_of, fate_by, fill_after, is_offer, is_plant, gives, held_after}
use Rattle.fates.proofs.Story.{story, fated, decided, by_decided, offers_counted, plants_counted}
use Rattle.fates.proofs.Moved.{tally_for}
use Rattle.fates.proofs.SurroundingsKept.{surroundings_next_lem}
use Rattle.fates.proofs.Followed.{after, fill, effect_in, shape_in, story_of, next_fill, next_tally, next_offered, next_planted, story_next}

-- The six counts share the bytes out.
shared : (f : Fate) (a b c d e w : ℕ)
    → suc (a + b + c + d + e + w)
    ≡ (num (same handed_over f) + a) + (num (same overwritten f) + b) + (num (same swallowed f) + c)
    + (num (same cleared f) + d) + (num (same struck f) + e) + (num (same waiting f) + w)
shared handed_over a b c d e w = omega arith
shared overwritten a b c d e w = omega arith
shared swallowed a b c d e w = omega arith
shared cleared a b c d e w = omega arith
shared struck a b c d e w = omega arith
shared waiting a b c d e w = omega arith

pub one_fate_each_lem : (bs : List Byte)
    → length bs ≡ count handed_over bs + count overwritten bs + count swallowed bs + count cleared bs + count struck bs + count waiting bs
one_fate_each_lem [] = refl
one_fate_each_lem (b ∷ bs) =
    ap suc (one_fate_each_lem bs)
    ∙ shared b.outcome.fate (count handed_over bs) (count overwritten bs) (count swallowed bs) (count cleared bs) (count struck bs) (count waiting bs)

-- Each is offered or planted.
pub offered_or_planted_lem : (bs : List Byte) → length bs ≡ offered_among bs + planted_among bs
offered_or_planted_lem [] = refl
offered_or_planted_lem (b ∷ bs) = ap suc (offered_or_planted_lem bs) ∙ go b.offer.planted
  where
    go : (planted : Bool) → suc (offered_among bs + planted_among bs) ≡ (num (not planted) + offered_among bs) + (num planted + planted_among bs)
    go true = omega arith
    go false = omega arith

-- A tally goes on by one where one byte is counted.
goes_on_lem : (on : Bool) (t m : ℕ) → (next on t + m) % 65536 ≡ (t + (num on + m)) % 65536
goes_on_lem true t m = omega arith
goes_on_lem false t m = ap (λ k. (t + k) % 65536) (omega arith)

stays_small : (on : Bool) (t : ℕ) → t < 65536 → next on t < 65536
stays_small true t h = omega arith
stays_small false t h = h

-- Nothing has been counted at power-up.
pub none_counted : SixteenBits no_tally
none_counted = record {
  offered = omega arith;
  handed = omega arith;
  overwritten = omega arith;
  swallowed = omega arith;
  cleared = omega arith;
  planted = omega arith;
  struck = omega arith;
}

-- What an effect decides, counted by a fate that has a tally.
pub count_decided : (x : Fate) → same x waiting ≡ false → (f : Fill) (h : Offer) (n : ℕ) (d : Shape) (bs : List Byte)
    → count x (decided f h n d ++ bs) ≡ num (gives x f d) + count x bs
unfolding fated
count_decided x tallied f h n d bs =
    by_decided (λ f d l. count x (l ++ bs) ≡ num (gives x f d) + count x bs) h n
    (λ f d none. rw (none x tallied) (omega arith)) (λ d decisive. rw (and-true (same x (fate_by d)))) f d

pub none_yet : (f : Fate) → same f waiting ≡ false → (s : Side) (fill : Fill) (h : Offer) (n : ℕ) → count f (story s fill h n []) ≡ 0
none_yet f tallied s Empty h n = refl
none_yet f tallied s Waiting h n = rw (tallied)
none_yet f tallied s Fetching h n = refl

-- A byte that waits is the one that is held, and nothing that is decided waits.
waits_now : (s : Side) (fill : Fill) (h : Offer) (n : ℕ) → count waiting (story s fill h n []) ≡ num (is_waiting fill)
waits_now s Empty h n = refl
waits_now s Waiting h n = refl
waits_now s Fetching h n = refl

none_decided_waits : (f : Fill) (h : Offer) (n : ℕ) (d : Shape) (bs : List Byte) → count waiting (decided f h n d ++ bs) ≡ count waiting bs
unfolding fated
none_decided_waits f h n d bs =
    by_decided (λ f d l. count waiting (l ++ bs) ≡ count waiting bs) h n (λ f d none. refl) (λ d decisive. rw (decisive) (omega arith)) f d

module _ (g : Group) (s : Side) where
  -- What the channel holds after an event at place n.
  abbrev held_next : Chip → Event → Offer → ℕ → Offer
  held_next c e h n = held_after s (fill g s c) h n (shape_in g s c e)

  pub tally_counts : (f : Fate) → same f waiting ≡ false → (c : Chip) (h : Offer) (n : ℕ) (es : List Event) → tally_for f (tally_of c g s) < 65536
      → tally_for f (tallies g s c es) ≡ (tally_for f (tally_of c g s) + count f (story_of g s c h n es)) % 65536
  tally_counts f tallied c h n [] small = rw (none_yet f tallied s (fill g s c) h n) (omega (arith, small))
  tally_counts f tallied c h n (e ∷ es) small =
      let d = shape_in g s c e in
      let on = gives f (fill g s c) d in
      let t = tally_for f (tally_of c g s) in
      let rest = story_of g s (after c e) (held_next c e h n) (suc n) es in
      tally_counts f tallied (after c e) (held_next c e h n) (suc n) es (rw (next_tally g s c e f tallied) (stays_small on t small))
      ∙ rw (next_tally g s c e f tallied) (goes_on_lem on t (count f rest))
      ∙ ap (λ k. (t + k) % 65536) (sym (ap (count f) (story_next g s c e h n es) ∙ count_decided f tallied (fill g s c) h n d rest))

  -- The bytes that come from the chip c on, where the latch has the value of h.
  abbrev coming_to : Chip → Offer → ℕ → List Event → List Byte
  coming_to c h n es = bytes s (left (fill g s c) h.value) n (effects g s (surroundings_of c) es)

  -- A tally goes on with the bytes that come in one of the two ways, if each effect that brings one moves it.
  module _ (among : List Byte → ℕ) (none : among [] ≡ 0) (brings : Fill → Shape → Bool) (tally : Tally → ℕ)
      (counted : (f : Fill) (h : Offer) (n : ℕ) (d : Effect) (later : List Effect)
      → among (bytes s (left f h.value) n (d ∷ later))
      ≡ num (brings f (shape_of d)) + among (bytes s (left (fill_after s f (shape_of d)) (held_after s f h n (shape_of d)).value) (suc n) later))
      (moves : (c : Chip) (e : Event) → tally (tally_of (after c e) g s) ≡ next (brings (fill g s c) (shape_in g s c e)) (tally (tally_of c g s))) where
    among_next : (c : Chip) (e : Event) (h : Offer) (n : ℕ) (es : List Event)
        → among (coming_to c h n (e ∷ es)) ≡ num (brings (fill g s c) (shape_in g s c e)) + among (coming_to (after c e) (held_next c e h n) (suc n) es)
    among_next c e h n es =
        rw (next_fill g s c e, surroundings_next_lem c e)
        (counted (fill g s c) h n (effect_in g s c e) (effects g s (surroundings_next (surroundings_of c) e) es))

    coming_counts : (c : Chip) (h : Offer) (n : ℕ) (es : List Event) → tally (tally_of c g s) < 65536
        → tally (tallies g s c es) ≡ (tally (tally_of c g s) + among (coming_to c h n es)) % 65536
    coming_counts c h n [] small = rw (none) (omega (arith, small))
    coming_counts c h n (e ∷ es) small =
        let on = brings (fill g s c) (shape_in g s c e) in
        let t = tally (tally_of c g s) in
        coming_counts (after c e) (held_next c e h n) (suc n) es (rw (moves c e) (stays_small on t small))
        ∙ rw (moves c e) (goes_on_lem on t (among (coming_to (after c e) (held_next c e h n) (suc n) es)))
        ∙ ap (λ k. (t + k) % 65536) (sym (among_next c e h n es))

  pub offered_counts : (c : Chip) (h : Offer) (n : ℕ) (es : List Event) → (tally_of c g s).offered < 65536
      → (tallies g s c es).offered ≡ ((tally_of c g s).offered + offered_among (coming_to c h n es)) % 65536
  offered_counts = coming_counts offered_among refl (λ f d. is_offer d) (λ t. t.offered) (offers_counted s) (next_offered g s)

  pub planted_counts : (c : Chip) (h : Offer) (n : ℕ) (es : List Event) → (tally_of c g s).planted < 65536
      → (tallies g s c es).planted ≡ ((tally_of c g s).planted + planted_among (coming_to c h n es)) % 65536
  planted_counts = coming_counts planted_among refl (is_plant s) (λ t. t.planted) (plants_counted s) (next_planted g s)

  pub waits_there : (c : Chip) (h : Offer) (n : ℕ) (es : List Event) → count waiting (story_of g s c h n es) ≡ num (is_waiting (fill g s (run c es)))
  waits_there c h n [] = waits_now s (fill g s c) h n
  waits_there c h n (e ∷ es) =
      let d = shape_in g s c e in
      ap (count waiting) (story_next g s c e h n es)
      ∙ none_decided_waits (fill g s c) h n d (story_of g s (after c e) (held_next c e h n) (suc n) es)
      ∙ waits_there (after c e) (held_next c e h n) (suc n) es
