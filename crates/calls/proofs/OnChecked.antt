-- An event on bytes that are checked: what the call answers and leaves if it is accepted, and if it is refused. The cycle that it begins is at an
-- address that the bytes can hold.
-- Rests on bus's Numbering, Outcomes and Named, image's SameBytes, and HostStep.
use Rattle.std.proofs.Common.{◌≡◌, ◌∙◌, refl, ap, sym, Bool, true, false, cond, not, ◌||◌, List, ℕ, ◌*◌, ◌<◌, arith, eqb, ltb, ltb-true, ne_eqb, length, ◌&&◌, Some, None}
use Rattle.bits.proofs.Logic.{contrary}
use Rattle.bus.specs.declared.events.Event.{Event}
use Rattle.bus.specs.declared.events.Event.TheVariants.{Reset, BeginRead, EndCycle, BeginWrite, OutsideLevels}
use Rattle.bus.specs.Answers.{raw, event_numbered, after_event, byte_of}
use Rattle.bus.specs.Device.{Given, number_in}
use Rattle.bus.proofs.Numbering.{numbered}
use Rattle.bus.proofs.Outcomes.{outcomes}
use Rattle.bus.proofs.Named.{named, unnamed}
use Rattle.chip.specs.declared.Chip.{Chip}
use Rattle.chip.specs.Held.{Becomes, CanBegin}
use Rattle.chip.specs.Step.{limits, device, step_of}
use Rattle.image.specs.Places as places
use Rattle.image.specs.Layout.{image_of}
use Rattle.image.specs.Loaded.{state_of}
use Rattle.image.specs.Good.{is_image, Told}
use Rattle.image.specs.Held.{in_bytes}
pub use Rattle.image.proofs.SameBytes.{slice_told}
use Rattle.calls.specs.Calls.{packed, or_bad, step_answer, step_image}
use Rattle.calls.specs.Events.{Checked, event_answer, event_image}
pub use Rattle.calls.proofs.HostStep.{bad_answer, bad_stays}

below : (x : ℕ) → (not (ltb x 4) || false) ≡ false → x < 4
below x there = go (ltb x 4) refl there
  where
    go : (t : Bool) → ltb x 4 ≡ t → (not t || false) ≡ false → x < 4
    go true is e = ltb-true x 4 is
    go false is e = absurd (contrary (not false) e refl)

pub can_begin : (c : Chip) (e : Event) → number_in device c (raw e).kind (raw e).first ≡ 0 → CanBegin in_bytes e
can_begin c Reset ok = tt
can_begin c (BeginRead x) ok = below x ((numbered (limits c.edition) c.phase 1 x).only_accepted ok).1.0
can_begin c EndCycle ok = tt
can_begin c (BeginWrite x d) ok = below x ((numbered (limits c.edition) c.phase 3 x).only_accepted ok).1.0
can_begin c (OutsideLevels p d) ok = tt

module _ (l : List ℕ) where
  -- What an event that is accepted makes of the chip, the bytes are the image of.
  pub rewritten : (m : List ℕ) (rule : Chip → Chip) → Told l → Becomes in_bytes l m rule → m ≡ image_of (rule (state_of l))
  rewritten m rule told becomes = sym (becomes.kept told) ∙ ap image_of becomes.held

  module _ (checked : Checked l) (e : Event) where
    abbrev number : ℕ
    number = number_in device (state_of l) (raw e).kind (raw e).first

    pub answer_so : event_answer l e ≡ cond (eqb number 0) (256 * byte_of device e (state_of l)) number
    unfolding step_answer step_of
    answer_so =
        rw (checked.0)
        (outcomes device (state_of l) (raw e).kind (raw e).first (raw e).second
        (λ (o : Given Chip). packed o.number o.byte 0 ≡ cond (eqb number 0) (256 * byte_of device e (state_of l)) number)
        (λ no. rw (ne_eqb number 0 no) (omega arith))
        (λ ok. rw (ok) (omega arith)))

    pub image_so : event_image l e ≡ cond (eqb number 0) (image_of (after_event device e (state_of l))) l
    unfolding step_image step_of
    image_so =
        rw (checked.0)
        (outcomes device (state_of l) (raw e).kind (raw e).first (raw e).second
        (λ (o : Given Chip). cond (eqb o.number 0) (image_of o.state) l ≡ cond (eqb number 0) (image_of (after_event device e (state_of l))) l)
        (λ no. rw (ne_eqb number 0 no) refl)
        (λ ok. rw (ok) refl))

pub ruleset on_checked = (can_begin, rewritten, answer_so, image_so)

-- By the three numbers of an event the call answers and leaves what it does for the event.
module _ (l : List ℕ) (k x d : ℕ) where
  pub answer_named : (e : Event) → Some e ≡ event_numbered k x d → step_answer l k x d ≡ event_answer l e
  unfolding step_answer step_of
  answer_named e is = ap (λ (o : Given Chip). or_bad l (packed o.number o.byte 0)) (named device (state_of l) k x d e is)

  pub image_named : (e : Event) → Some e ≡ event_numbered k x d → step_image l k x d ≡ event_image l e
  unfolding step_image step_of
  image_named e is = ap (λ (o : Given Chip). cond (is_image l && eqb o.number 0) (image_of o.state) l) (named device (state_of l) k x d e is)

  pub answer_unnamed : is_image l ≡ true → None ≡ event_numbered k x d → step_answer l k x d ≡ 1
  unfolding step_answer step_of
  answer_unnamed good is = rw (good, unnamed device (state_of l) k x d is)

  pub image_unnamed : is_image l ≡ true → None ≡ event_numbered k x d → step_image l k x d ≡ l
  unfolding step_image step_of
  image_unnamed good is = rw (good, unnamed device (state_of l) k x d is)

pub ruleset by_numbers = (slice_told, bad_answer, bad_stays, answer_named, image_named, answer_unnamed, image_unnamed)

-- Bytes of another number than an image has are none.
pub no_length : (l : List ℕ) → ¬ (length l ≡ places.length) → is_image l ≡ false
unfolding is_image
no_length l other = rw (ne_eqb (length l) places.length other)

pub ruleset by_length = (no_length, bad_answer, bad_stays)
