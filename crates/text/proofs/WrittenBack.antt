-- Every line that is a frame is the event that it says, written out: two lines that say the same are the same.
-- Rests on bits' Logic and Tested, the bus's ByKind, and Leading.
use Rattle.std.proofs.Common.{◌≡◌, ◌∙◌, refl, ap, sym, Bool, true, false, cond, ◌&&◌, List, [], ◌∷◌, ◌++◌, ℕ, zero, suc, ◌+◌, ◌*◌, ◌/◌, ◌%◌, ◌<◌, ◌≤◌, arith, eqb, ltb, length, drop, get_or, length-drop, drop_of_length-le, drop-drop, eqb-true, ltb-true, ltb-false, lt-ltb, ne_eqb}
use Rattle.bits.proofs.Logic.{both}
use Rattle.bits.proofs.Tested.{numbers}
use Rattle.bus.specs.Kinds.{is_kind, operands_of}
use Rattle.bus.specs.Event.{Event, event}
use Rattle.bus.proofs.ByKind.{by_known_kind, kind_small}
use Rattle.text.specs.Digits.{digits, place_from, digit_value, digit_code, in_digits, no_byte, pair_value}
use Rattle.text.specs.Frames.{leading_byte, kind_in, first_in, second_in, is_frame}
use Rattle.text.specs.Written.{operands_out, written_out, Exact}
use Rattle.text.proofs.Leading.{none_left}

-- Every code of a list is below a bound.
abbrev pub all_below : ℕ → List ℕ → Bool
all_below bound [] = true
all_below bound (x ∷ xs) = ltb x bound && all_below bound xs

-- A code from there on has no place in the list.
pub no_place : (xs : List ℕ) (n bound code : ℕ) → all_below bound xs ≡ true → bound ≤ code → place_from n xs code ≡ n + length xs
no_place [] n bound code below above = omega arith
no_place (x ∷ xs) n bound code below above =
    let k = both (ltb x bound) (all_below bound xs) below in
    rw (ne_eqb x code (λ e. omega (arith, ltb-true x bound k.0, above, e)))
    (no_place xs (suc n) bound code k.1 above ∙ omega arith)

-- The last digit is F, 70.
abbrev past_digits : ℕ
past_digits = 71

-- A digit is the code of what it is worth.
pub digit_back : (code : ℕ) → digit_value code < 16 → digit_code (digit_value code) ≡ code
unfolding digit_value digit_code
digit_back code digit = go (ltb code past_digits) refl
  where
    go : (small : Bool) → ltb code past_digits ≡ small → digit_code (digit_value code) ≡ code
    go true s =
        let test = numbers past_digits (λ k. cond (ltb (digit_value k) 16) (digit_code (digit_value k)) k) (λ k. k) tt code (ltb-true code past_digits s) in
        rw (lt-ltb (digit_value code) 16 digit) at test
    go false s = absurd (omega (arith, digit, no_place digits 0 past_digits code refl (ltb-false code past_digits s)))

-- Two codes that write a byte are its two digits.
module _ (high low : ℕ) (byte : pair_value high low < no_byte) where
  both_digits : (digit_value high < 16) × (digit_value low < 16) × (pair_value high low ≡ 16 * digit_value high + digit_value low)
  unfolding pair_value
  both_digits = go (ltb (digit_value high) 16 && ltb (digit_value low) 16) refl
    where
      go : (t : Bool) → (ltb (digit_value high) 16 && ltb (digit_value low) 16) ≡ t
          → (digit_value high < 16) × (digit_value low < 16) × (pair_value high low ≡ 16 * digit_value high + digit_value low)
      go true t =
          let k = both (ltb (digit_value high) 16) (ltb (digit_value low) 16) t in
          (ltb-true (digit_value high) 16 k.0, ltb-true (digit_value low) 16 k.1, rw (t))
      go false t = absurd (omega (arith, rw (t) at byte))

  pub pair_back : (digit_code (pair_value high low / 16) ≡ high) × (digit_code (pair_value high low) ≡ low)
  unfolding digit_code
  pair_back =
      let k = both_digits in
      let sixteens : pair_value high low / 16 % 16 ≡ digit_value high % 16 = omega (arith, k.0, k.1, k.2) in
      let ones : pair_value high low % 16 ≡ digit_value low % 16 = omega (arith, k.1, k.2) in
      (ap (λ n. get_or digits n 0) sixteens ∙ digit_back high k.0, ap (λ n. get_or digits n 0) ones ∙ digit_back low k.1)

-- A line that begins with a byte is that byte, written out, and what stands behind it.
pub leading_back : (line : List ℕ) → 2 ≤ length line → leading_byte line < no_byte → in_digits (leading_byte line) ++ drop 2 line ≡ line
unfolding leading_byte
leading_back [] long byte = absurd (omega (arith, long))
leading_back (high ∷ []) long byte = absurd (omega (arith, long))
leading_back (high ∷ low ∷ later) long byte = let k = pair_back high low byte in λ i. k.0 i ∷ k.1 i ∷ later

few_operands : (k : ℕ) → is_kind k ≡ true → operands_of k ≤ 2
unfolding operands_of
few_operands = by_known_kind (λ k. operands_of k ≤ 2) (omega arith) (omega arith) (omega arith) (omega arith) (omega arith)

-- The event that a line says, where it is a frame.
abbrev pub event_in : List ℕ → Event
event_in line = event (kind_in line) (first_in line) (second_in line)

-- What its being a frame says.
module _ (line : List ℕ) (is : is_frame line ≡ true) where
  parts : (is_kind (kind_in line) ≡ true) × (length line ≡ 2 + 2 * operands_of (kind_in line)) × (first_in line < no_byte) × (second_in line < no_byte)
  unfolding is_frame
  parts =
      let known = is_kind (kind_in line) in
      let exact = eqb (length line) (2 + 2 * operands_of (kind_in line)) in
      let all = both (known && exact && ltb (first_in line) no_byte) (ltb (second_in line) no_byte) is in
      let front = both (known && exact) (ltb (first_in line) no_byte) all.0 in
      let kind = both known exact front.0 in (
        kind.0,
        eqb-true (length line) (2 + 2 * operands_of (kind_in line)) kind.1,
        ltb-true (first_in line) no_byte front.1,
        ltb-true (second_in line) no_byte all.1,
      )

  pub no_longer_than_six : length line ≤ 6
  no_longer_than_six = omega (arith, parts.1, few_operands (kind_in line) parts.0)

  pub exact_event : Exact (event_in line)
  exact_event = record {
    known = parts.0;
    first_byte = parts.2;
    second_byte = parts.3;
    no_first = λ none. none_left line 2 (omega (arith, parts.1, none));
    no_second = λ few. none_left line 4 (omega (arith, parts.1, few));
  }

  -- The line is that event, written out.
  pub written_back : line ≡ written_out (event_in line)
  unfolding written_out
  written_back = go (operands_of (kind_in line)) parts.1 (few_operands (kind_in line) parts.0)
    where
      kind : in_digits (kind_in line) ++ drop 2 line ≡ line
      kind = leading_back line (omega (arith, parts.1)) (omega (arith, kind_small (kind_in line) parts.0))

      behind : (n : ℕ) → 2 + n ≤ length line → leading_byte (drop n line) < no_byte
          → drop n line ≡ in_digits (leading_byte (drop n line)) ++ drop (n + 2) line
      behind n long byte =
          sym (leading_back (drop n line) (omega (arith, long, length-drop n line)) byte)
          ∙ ap (λ later. in_digits (leading_byte (drop n line)) ++ later) (drop-drop 2 n line)

      none : (n : ℕ) → length line ≤ n → drop n line ≡ []
      none n short = drop_of_length-le line short

      go : (n : ℕ) → length line ≡ 2 + 2 * n → n ≤ 2 → line ≡ in_digits (kind_in line) ++ operands_out n (first_in line) (second_in line)
      go zero long few = sym kind ∙ ap (λ later. in_digits (kind_in line) ++ later) (none 2 (omega (arith, long)))
      go (suc zero) long few =
          sym kind
          ∙ ap (λ later. in_digits (kind_in line) ++ later)
          (behind 2 (omega (arith, long)) parts.2 ∙ ap (λ later. in_digits (first_in line) ++ later) (none 4 (omega (arith, long))))
      go (suc (suc zero)) long few =
          sym kind
          ∙ ap (λ later. in_digits (kind_in line) ++ later)
          (behind 2 (omega (arith, long)) parts.2
          ∙ ap (λ later. in_digits (first_in line) ++ later)
          (behind 4 (omega (arith, long)) parts.3 ∙ ap (λ later. in_digits (second_in line) ++ later) (none 6 (omega (arith, long)))))
      go (suc (suc (suc n))) long few = absurd (omega (arith, few))
