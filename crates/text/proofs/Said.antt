-- What an answer says: a number that is there is below its bound, and an event is told by the numbers that name it.
-- Rests on the bus's ByKind and on Leading.
use Rattle.std.proofs.Common.{◌≡◌, ◌∙◌, refl, sym, ap, Bool, true, false, cond, ◌&&◌, List, ℕ, ◌+◌, ◌*◌, ◌<◌, ◌≤◌, arith, ltb, length, eq-eqb, lt-ltb, ltb-true, ltb-false, Option, Some, None}
use Rattle.bus.specs.Kinds.{is_kind, operands_of}
use Rattle.bus.specs.declared.events.Event as events
use Rattle.bus.specs.declared.events.Event.TheVariants.{Reset, BeginRead, EndCycle, BeginWrite, OutsideLevels}
use Rattle.bus.specs.Answers.{event_numbered}
use Rattle.bus.proofs.ByKind.{by_known_kind, none_above, last_choice}
use Rattle.text.specs.Digits.{no_byte}
use Rattle.text.specs.Frames.{Frame, Event, NoFrame, kind_in, first_in, second_in, is_frame, frame_of}
use Rattle.text.specs.Answers.{if_below, frame_told}
use Rattle.text.proofs.Leading.{none_left}

-- What is there is the number, and that is below the bound.
pub there : (bound n v : ℕ) → if_below bound n ≡ Some v → (v ≡ n) × (n < bound)
there bound n v is = go (ltb n bound) refl is
  where
    go : (t : Bool) → ltb n bound ≡ t → cond t (Some n) None ≡ Some v → (v ≡ n) × (n < bound)
    go true below is = ((cc), ltb-true n bound below)
    go false above is = absurd (cc)

-- So it is with a byte that was read.
pub byte_there : {v : ℕ} (n : ℕ) → Some v ≡ if_below no_byte n → (v ≡ n) × (n < no_byte)
byte_there {v} n read = there no_byte n v (sym read)

-- Nothing is there where the number is not below the bound.
pub none_there : (bound n : ℕ) → if_below bound n ≡ None → bound ≤ n
none_there bound n is = go (ltb n bound) refl is
  where
    go : (t : Bool) → ltb n bound ≡ t → cond t (Some n) None ≡ None → bound ≤ n
    go true below is = absurd (cc)
    go false above is = ltb-false n bound above

-- A kind and its operands, with zeros for those that it lacks, are told as they are named.
named_told : (k : ℕ) → is_kind k ≡ true → (x d : ℕ) → (operands_of k ≡ 0 → x ≡ 0) → (operands_of k < 2 → d ≡ 0)
    → frame_told (event_numbered k x d) ≡ Event k x d
unfolding operands_of
named_told =
    by_known_kind (λ k. (x d : ℕ) → (operands_of k ≡ 0 → x ≡ 0) → (operands_of k < 2 → d ≡ 0) → frame_told (event_numbered k x d) ≡ Event k x d)
    (λ x d none few. rw (none refl, few (omega arith)) refl)
    (λ x d none few. rw (few (omega arith)) refl)
    (λ x d none few. rw (none refl, few (omega arith)) refl)
    (λ x d none few. refl)
    (λ x d none few. refl)

-- A line as long as its kind has it, whose operands are bytes, says the event that they name: none, where there is no such kind.
pub told_by_kind : (line : List ℕ) → length line ≡ 2 + 2 * operands_of (kind_in line) → first_in line < no_byte → second_in line < no_byte
    → frame_told (event_numbered (kind_in line) (first_in line) (second_in line)) ≡ frame_of line
unfolding frame_of is_frame
told_by_kind line exact first second =
    rw (eq-eqb (length line) _ exact, lt-ltb (first_in line) _ first, lt-ltb (second_in line) _ second) (go (is_kind (kind_in line)) refl)
  where
    go : (t : Bool) → is_kind (kind_in line) ≡ t
        → frame_told (event_numbered (kind_in line) (first_in line) (second_in line))
        ≡ cond (t && true && true && true) (Event (kind_in line) (first_in line) (second_in line)) NoFrame
    go true kind =
        named_told (kind_in line) kind (first_in line) (second_in line)
        (λ none. none_left line 2 (omega (arith, exact, none)))
        (λ few. none_left line 4 (omega (arith, exact, few)))
    go false none = ap frame_told (last_choice _ _ _ _ _ None (kind_in line) (rw (none) refl))

-- A line that does not begin with a byte is no frame.
pub no_kind_told : (line : List ℕ) → no_byte ≤ kind_in line → NoFrame ≡ frame_of line
unfolding frame_of is_frame
no_kind_told line above = rw (none_above (kind_in line) (omega (arith, above))) refl

-- What is told is told of one answer alone.
named : Frame → Option events.Event
named (Event k x d) = event_numbered k x d
named NoFrame = None

named_again : (o : Option events.Event) → named (frame_told o) ≡ o
unfolding named
named_again None = refl
named_again (Some Reset) = refl
named_again (Some (BeginRead x)) = refl
named_again (Some EndCycle) = refl
named_again (Some (BeginWrite x d)) = refl
named_again (Some (OutsideLevels p d)) = refl

pub told_of_one : (o p : Option events.Event) (f : Frame) → frame_told o ≡ f → frame_told p ≡ f → o ≡ p
told_of_one o p f q r = sym (named_again o) ∙ ap named (q ∙ sym r) ∙ named_again p
