-- A further line of a rack's script is read as an event exactly where it says that event, digit by digit.
-- Rests on bits' Logic, the bus's ByKind, text's Leading and WrittenBack, and script's RackWritten.
use Rattle.std.proofs.Common.{◌≡◌, ◌∙◌, refl, ap, sym, subst, Bool, true, false, ◌&&◌, List, [], ◌++◌, ℕ, ◌+◌, ◌*◌, ◌/◌, ◌%◌, ◌<◌, ◌≤◌, arith, eqb, ltb, length, drop, length-drop, drop_of_length-le, drop-drop, eqb-true, ltb-true}
use Rattle.bits.proofs.Logic.{both}
use Rattle.bus.specs.Kinds.{is_kind}
use Rattle.bus.specs.Device.{gives}
use Rattle.bus.proofs.ByKind.{by_known_kind}
use Rattle.text.specs.Digits.{digit_code, in_digits, no_byte}
use Rattle.text.specs.Frames.{leading_byte, kind_in, first_in, second_in}
use Rattle.text.specs.Lines.{ended, rest}
use Rattle.text.proofs.Leading.{none_left}
use Rattle.text.proofs.WrittenBack.{leading_back}
use Rattle.rack.specs.declared.Rack.{Rack}
use Rattle.script.specs.RackFrames.{RackFrame, Event, NoFrame, third_in, operand_bytes, is_rack_frame, event_of, rack_frame_of, rack_frame_in}
use Rattle.script.specs.RackAnswers.{acted, answering}
use Rattle.script.proofs.RackWritten.{reset_written, end_written, read_written, write_written, levels_written}
use Rattle.racklaws.specs.Digits.{four_digits}
use Rattle.racklaws.specs.Whom.{RackEvent, rack_event}
use Rattle.racklaws.specs.Promise.{rack_stepped}
use Rattle.racklaws.specs.Says.{Says, SaysAnEvent, reset, begin_read, end_cycle, begin_write, levels}

-- A line that says an event is read as it.
pub read_as_said : {bytes : List ℕ} {e : RackEvent} → Says bytes e → rack_frame_of bytes ≡ Event e.kind e.first e.second e.third
unfolding digit_code
read_as_said reset = reset_written
read_as_said (begin_read {a} few) = read_written a few
read_as_said end_cycle = end_written
read_as_said (begin_write {a} {d} few byte) = write_written a few d byte
read_as_said (levels {i} {p} {d} place port byte) = levels_written i p d place port byte

-- An address of two bytes, in four digits.
module _ (x y : ℕ) (high : x < no_byte) (low : y < no_byte) where
  fits : y + 256 * x < 65536
  fits = omega arith

  in_four_digits : in_digits x ++ in_digits y ≡ four_digits (y + 256 * x)
  unfolding digit_code
  in_four_digits =
      let above : (y + 256 * x) / 256 ≡ x = omega arith in
      let below : (y + 256 * x) % 256 ≡ y = omega arith in
      rw (above, below) refl

-- A line of two, six or eight codes is its bytes, written out.
module _ (line : List ℕ) where
  before : (n : ℕ) (later : List ℕ) → 2 + n ≤ length line → leading_byte (drop n line) < no_byte → drop (n + 2) line ≡ later
      → drop n line ≡ in_digits (leading_byte (drop n line)) ++ later
  before n later long byte is =
      sym (leading_back (drop n line) (omega (arith, long, length-drop n line)) byte)
      ∙ ap (λ later. in_digits (leading_byte (drop n line)) ++ later) (drop-drop 2 n line ∙ is)

  last : (n : ℕ) → length line ≡ 2 + n → leading_byte (drop n line) < no_byte → drop n line ≡ in_digits (leading_byte (drop n line))
  last n exact byte = before n [] (omega (arith, exact)) byte (drop_of_length-le line (omega (arith, exact)))

  module _ (k : ℕ) (kind : kind_in line ≡ k) (few : k < no_byte) where
    two : length line ≡ 2 → line ≡ in_digits k
    two exact = last 0 exact (omega (arith, kind, few)) ∙ ap in_digits kind

    six : length line ≡ 6 → first_in line < no_byte → second_in line < no_byte
        → line ≡ in_digits k ++ four_digits (second_in line + 256 * first_in line)
    six exact first second =
        before 0 _ (omega (arith, exact)) (omega (arith, kind, few))
        (before 2 _ (omega (arith, exact)) first (last 4 exact second) ∙ in_four_digits (first_in line) (second_in line) first second)
        ∙ ap (λ (k : ℕ). in_digits k ++ four_digits (second_in line + 256 * first_in line)) kind

    eight : length line ≡ 8 → first_in line < no_byte → second_in line < no_byte → third_in line < no_byte
        → line ≡ in_digits k ++ in_digits (first_in line) ++ in_digits (second_in line) ++ in_digits (third_in line)
    eight exact first second third =
        before 0 _ (omega (arith, exact)) (omega (arith, kind, few))
        (before 2 _ (omega (arith, exact)) first (before 4 _ (omega (arith, exact)) second (last 6 exact third)))
        ∙ ap (λ (k : ℕ). in_digits k ++ in_digits (first_in line) ++ in_digits (second_in line) ++ in_digits (third_in line)) kind

-- The event that a frame is.
abbrev event_back : RackFrame → RackEvent
event_back (Event k x y z) = rack_event k x y z
event_back NoFrame = rack_event 0 0 0 0

-- A line as long as its kind has it, of bytes, says the event that they name.
abbrev Named : ℕ → List ℕ → Type 0
Named k line =
    kind_in line ≡ k → length line ≡ 2 + 2 * operand_bytes k → first_in line < no_byte → second_in line < no_byte → third_in line < no_byte
    → Says line (event_back (event_of k (first_in line) (second_in line) (third_in line)))

named : (line : List ℕ) (k : ℕ) → is_kind k ≡ true → Named k line
unfolding operand_bytes event_of digit_code
named line =
    by_known_kind (λ k. Named k line)
    (λ kind exact first second third.
    rw (none_left line 2 (omega (arith, exact)), none_left line 4 (omega (arith, exact)), none_left line 6 (omega (arith, exact)))
    (subst (λ (l : List ℕ). Says l (rack_event 0 0 0 0)) (sym (two line 0 kind (omega arith) exact)) reset))
    (λ kind exact first second third.
    let address = second_in line + 256 * first_in line in
    rw (none_left line 6 (omega (arith, exact)))
    (subst (λ (l : List ℕ). Says l (rack_event 1 address 0 0)) (sym (six line 1 kind (omega arith) exact first second))
    (begin_read (fits (first_in line) (second_in line) first second))))
    (λ kind exact first second third.
    rw (none_left line 2 (omega (arith, exact)), none_left line 4 (omega (arith, exact)), none_left line 6 (omega (arith, exact)))
    (subst (λ (l : List ℕ). Says l (rack_event 2 0 0 0)) (sym (two line 2 kind (omega arith) exact)) end_cycle))
    (λ kind exact first second third.
    let address = second_in line + 256 * first_in line in
    let whole =
    eight line 3 kind (omega arith) exact first second third
    ∙ ap (λ (address : List ℕ). in_digits 3 ++ (address ++ in_digits (third_in line))) (in_four_digits (first_in line) (second_in line) first second) in
    subst (λ (l : List ℕ). Says l (rack_event 3 address (third_in line) 0)) (sym whole)
    (begin_write (fits (first_in line) (second_in line) first second) third))
    (λ kind exact first second third.
    subst (λ (l : List ℕ). Says l (rack_event 5 (first_in line) (second_in line) (third_in line)))
    (sym (eight line 5 kind (omega arith) exact first second third)) (levels first second third))

-- What its being a frame says of a line.
module _ (line : List ℕ) (is : is_rack_frame line ≡ true) where
  parts : (is_kind (kind_in line) ≡ true) × (length line ≡ 2 + 2 * operand_bytes (kind_in line)) × (first_in line < no_byte)
      × (second_in line < no_byte) × (third_in line < no_byte)
  unfolding is_rack_frame
  parts =
      let known = is_kind (kind_in line) in
      let exact = eqb (length line) (2 + 2 * operand_bytes (kind_in line)) in
      let first = ltb (first_in line) no_byte in
      let second = ltb (second_in line) no_byte in
      let third = ltb (third_in line) no_byte in
      let all = both (known && exact && first && second) third is in
      let three = both (known && exact && first) second all.0 in
      let two = both (known && exact) first three.0 in
      let kind = both known exact two.0 in (
        kind.0,
        eqb-true _ _ kind.1,
        ltb-true _ _ two.1,
        ltb-true _ _ three.1,
        ltb-true _ _ all.1,
      )

  frame_says : Says line (event_back (rack_frame_of line))
  unfolding rack_frame_of
  frame_says = rw (is) (named line (kind_in line) parts.0 refl parts.1 parts.2 parts.3 parts.4)

-- A line that is read as an event says it.
pub said_as_read : (line : List ℕ) (e : RackEvent) → rack_frame_of line ≡ Event e.kind e.first e.second e.third → Says line e
unfolding rack_frame_of
said_as_read line e read = go (is_rack_frame line) refl
  where
    go : (t : Bool) → is_rack_frame line ≡ t → Says line e
    go true is = subst (λ (said : RackEvent). Says line said) (ap event_back read) (frame_says line is)
    go false none = let no_event : NoFrame ≡ Event e.kind e.first e.second e.third = rw (none) at read in cc

-- What the rack makes of a line that says an event; and of any other.
module _ (r : Rack) where
  pub taken : (bytes : List ℕ) (e : RackEvent) → Says bytes e → answering.takes r (ended bytes) ≡ rack_stepped r e
  unfolding rack_frame_in acted
  taken bytes e says = rw (read_as_said says) refl

  pub others_refused : (bytes : List ℕ) → ¬ SaysAnEvent bytes → answering.takes r (ended bytes) ≡ gives r 1 0
  unfolding rack_frame_in rack_frame_of acted
  others_refused bytes none = go (is_rack_frame bytes) refl
    where
      go : (t : Bool) → is_rack_frame bytes ≡ t → answering.takes r (ended bytes) ≡ gives r 1 0
      go true is = absurd (none (event_back (rack_frame_of bytes), frame_says bytes is))
      go false other = rw (other) refl

  pub rest_refused : (bytes : List ℕ) → answering.takes r (rest bytes) ≡ gives r 1 0
  unfolding rack_frame_in acted
  rest_refused bytes = refl
