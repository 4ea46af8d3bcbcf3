-- What an answer says of a line: an event is told by the numbers that name it.
-- Rests on bits' Logic, the bus's ByKind and text's Leading.
use Rattle.std.proofs.Common.{◌≡◌, refl, ap, Bool, true, false, cond, ◌&&◌, List, ℕ, ◌+◌, ◌*◌, ◌<◌, ◌≤◌, arith, length, eq-eqb, lt-ltb, None}
use Rattle.bits.proofs.Logic.{either_way}
use Rattle.bus.specs.Kinds.{begins, is_kind, no_kind}
use Rattle.bus.proofs.ByKind.{by_known_kind, none_above, last_choice}
use Rattle.text.specs.Digits.{no_byte}
use Rattle.text.specs.Frames.{kind_in, first_in, second_in}
use Rattle.text.proofs.Leading.{none_left}
use Rattle.script.specs.RackFrames.{NoFrame, third_in, operand_bytes, event_named, is_rack_frame, event_of, rack_frame_of, rack_frame_told}

-- Where there is no such kind they name none.
none_named_lem : (k x y z : ℕ) → no_kind k ≡ true → event_named k x y z ≡ None
none_named_lem k x y z none = either_way (λ o. o) None (begins k) _ _ (last_choice _ _ _ _ _ None k none) (last_choice _ _ _ _ _ None k none)

-- A kind and the bytes of its operands, with zeros for those that it lacks, are told as they are named.
named_told : (k : ℕ) → is_kind k ≡ true → (x y z : ℕ) → (operand_bytes k ≡ 0 → x ≡ 0) → (operand_bytes k < 2 → y ≡ 0)
    → (operand_bytes k < 3 → z ≡ 0) → rack_frame_told (event_named k x y z) ≡ event_of k x y z
unfolding operand_bytes event_of
named_told =
    by_known_kind
    (λ k. (x y z : ℕ) → (operand_bytes k ≡ 0 → x ≡ 0) → (operand_bytes k < 2 → y ≡ 0) → (operand_bytes k < 3 → z ≡ 0)
    → rack_frame_told (event_named k x y z) ≡ event_of k x y z)
    (λ x y z none one two. rw (none refl, one (omega arith), two (omega arith)) refl)
    (λ x y z none one two. rw (two (omega arith)) refl)
    (λ x y z none one two. rw (none refl, one (omega arith), two (omega arith)) refl)
    (λ x y z none one two. refl)
    (λ x y z none one two. refl)

-- A line that does not begin with a byte is no frame.
pub no_kind_told : (line : List ℕ) → no_byte ≤ kind_in line → NoFrame ≡ rack_frame_of line
unfolding rack_frame_of is_rack_frame
no_kind_told line above = rw (none_above (kind_in line) (omega (arith, above))) refl

-- A line as long as its kind has it, whose operands are bytes, says the event that they name: none, where there is no such kind.
module _ (line : List ℕ) (exact : length line ≡ 2 + 2 * operand_bytes (kind_in line)) (first : first_in line < no_byte)
    (second : second_in line < no_byte) (third : third_in line < no_byte) where
  pub told_by_kind : rack_frame_told (event_named (kind_in line) (first_in line) (second_in line) (third_in line)) ≡ rack_frame_of line
  unfolding rack_frame_of is_rack_frame
  told_by_kind =
      rw (
        eq-eqb (length line) _ exact,
        lt-ltb (first_in line) _ first,
        lt-ltb (second_in line) _ second,
        lt-ltb (third_in line) _ third,
      )
      (go (is_kind (kind_in line)) refl)
    where
      go : (t : Bool) → is_kind (kind_in line) ≡ t
          → rack_frame_told (event_named (kind_in line) (first_in line) (second_in line) (third_in line))
          ≡ cond (t && true && true && true && true) (event_of (kind_in line) (first_in line) (second_in line) (third_in line)) NoFrame
      go true kind =
          named_told (kind_in line) kind (first_in line) (second_in line) (third_in line)
          (λ none. none_left line 2 (omega (arith, exact, none)))
          (λ one. none_left line 4 (omega (arith, exact, one)))
          (λ two. none_left line 6 (omega (arith, exact, two)))
      go false none = ap rack_frame_told (none_named_lem (kind_in line) (first_in line) (second_in line) (third_in line) (rw (none) refl))
