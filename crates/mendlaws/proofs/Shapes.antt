-- A line is a frame exactly where it says an event in plain codes.
-- Rests on bits' Logic and Tested, the bus's ByKind and text's WrittenBack.
use Rattle.std.proofs.Common.{◌≡◌, ◌∙◌, refl, ap, sym, subst, Bool, true, false, List, [], ◌∷◌, ℕ, ◌+◌, ◌-◌, ◌/◌, ◌%◌, ◌<◌, arith, ltb, get_or, lt-ltb, ltb-true, ltb-false}
use Rattle.bits.proofs.Logic.{contrary}
use Rattle.bits.proofs.Tested.{numbers}
use Rattle.bus.specs.Kinds.{is_kind, no_kind, operands_of}
use Rattle.bus.specs.Event.{Event, event}
use Rattle.bus.proofs.ByKind.{by_kind}
use Rattle.text.specs.Digits.{digits, digit_value, digit_code, in_digits, no_byte, pair_value}
use Rattle.text.specs.Frames.{Event as FrameEvent, leading_byte, is_frame, frame_of}
use Rattle.text.specs.Written.{written_out, Exact}
use Rattle.text.proofs.WrittenBack.{event_in, exact_event, written_back}
use Rattle.mendlaws.specs.Says.{Digit, figure, letter, Byte, Says, reset, begin_read, end_cycle, begin_write, levels}

-- A digit is worth what it is said to be.
pub worth : {code n : ℕ} → Digit code n → (digit_value code ≡ n) × (n < 16)
unfolding digit_value
worth {n} (figure few is) = (ap digit_value is ∙ numbers 10 (λ n. digit_value (48 + n)) (λ n. n) tt n few, omega (arith, few))
worth {n} (letter many few is) =
    let place : 10 + (n - 10) ≡ n = omega (arith, many) in
    let code : 55 + n ≡ 65 + (n - 10) = omega (arith, many) in
    (ap digit_value (is ∙ code) ∙ numbers 6 (λ n. digit_value (65 + n)) (λ n. 10 + n) tt (n - 10) (omega (arith, few)) ∙ place, few)

pub pair_worth : {high low b : ℕ} → Byte high low b → (pair_value high low ≡ b) × (b < no_byte)
unfolding pair_value
pair_worth byte =
    let high = worth byte.first in
    let low = worth byte.second in (
      rw (high.0, low.0, lt-ltb byte.sixteens 16 high.1, lt-ltb byte.ones 16 low.1) (sym byte.worth),
      omega (arith, byte.worth, high.1, low.1),
    )

-- And each number below 16 has its digit.
pub digit_of : (n : ℕ) → Digit (digit_code n) (n % 16)
unfolding digit_code
digit_of n = go (ltb (n % 16) 10) refl
  where
    go : (t : Bool) → ltb (n % 16) 10 ≡ t → Digit (digit_code n) (n % 16)
    go true t = figure (ltb-true _ _ t) (numbers 10 (λ n. get_or digits n 0) (λ n. 48 + n) tt (n % 16) (ltb-true _ _ t))
    go false t =
        let many = ltb-false (n % 16) 10 t in
        let place : n % 16 ≡ 10 + (n % 16 - 10) = omega (arith, many) in
        letter many (omega arith)
        (ap (λ n. get_or digits n 0) place ∙ numbers 6 (λ n. get_or digits (10 + n) 0) (λ n. 65 + n) tt (n % 16 - 10) (omega arith) ∙ omega (arith, many))

byte_of : (b : ℕ) → b < no_byte → Byte (digit_code (b / 16)) (digit_code b) b
byte_of b few = record {
  sixteens = b / 16 % 16;
  ones = b % 16;
  first = digit_of (b / 16);
  second = digit_of b;
  worth = omega (arith, few);
}

-- The kinds are written 00 to 05.
kind_written : (k : ℕ) → k < 6 → pair_value 48 (48 + k) ≡ k
unfolding digit_value pair_value
kind_written k few = numbers 6 (λ k. pair_value 48 (48 + k)) (λ k. k) tt k few

-- A line that says an event is a frame, and says that event.
pub shape_is : {bytes : List ℕ} {e : Event} → Says bytes e → frame_of bytes ≡ FrameEvent e.kind e.first e.second
unfolding is_kind operands_of leading_byte is_frame frame_of
shape_is reset = rw (kind_written 0 (omega arith))
shape_is (begin_read {a} address) =
    let k = pair_worth address in
    rw (kind_written 1 (omega arith), k.0, lt-ltb a no_byte k.1)
shape_is end_cycle = rw (kind_written 2 (omega arith))
shape_is (begin_write {a} {d} address byte) =
    let k = pair_worth address in
    let m = pair_worth byte in
    rw (kind_written 3 (omega arith), k.0, m.0, lt-ltb a no_byte k.1, lt-ltb d no_byte m.1)
shape_is (levels {p} {d} port byte) =
    let k = pair_worth port in
    let m = pair_worth byte in
    rw (kind_written 5 (omega arith), k.0, m.0, lt-ltb p no_byte k.1, lt-ltb d no_byte m.1)

-- A frame says its event.
said_by : (k x d : ℕ) → Exact (event k x d) → Says (written_out (event k x d)) (event k x d)
unfolding is_kind operands_of digit_code written_out
said_by k x d =
    by_kind (λ k. Exact (event k x d) → Says (written_out (event k x d)) (event k x d))
    (λ ok. subst (λ e. Says (48 ∷ 48 ∷ []) e) (λ i. event 0 (sym (ok.no_first refl) i) (sym (ok.no_second (omega arith)) i)) reset)
    (λ ok. subst (λ d. Says (48 ∷ 49 ∷ in_digits x) (event 1 x d)) (sym (ok.no_second (omega arith))) (begin_read (byte_of x ok.first_byte)))
    (λ ok. subst (λ e. Says (48 ∷ 50 ∷ []) e) (λ i. event 2 (sym (ok.no_first refl) i) (sym (ok.no_second (omega arith)) i)) end_cycle)
    (λ ok. begin_write (byte_of x ok.first_byte) (byte_of d ok.second_byte))
    (λ ok. levels (byte_of x ok.first_byte) (byte_of d ok.second_byte))
    (λ k none ok. absurd (contrary (no_kind k) (rw ok.known) none))
    k

pub is_shape : (bytes : List ℕ) → is_frame bytes ≡ true → Says bytes (event_in bytes)
is_shape bytes is =
    subst (λ line. Says line (event_in bytes)) (sym (written_back bytes is)) (said_by _ _ _ (exact_event bytes is))
