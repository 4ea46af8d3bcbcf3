-- Each unfit line has its reason: what mend says of it is so of the bytes that it is mended to, and of bytes of which a reason is so it says that.
-- Rests on bits' Logic, the bus's ByKind, text's WrittenBack, and on Shapes, Spelled, OneLine and Steps.
use Rattle.std.proofs.Common.{◌≡◌, ◌∙◌, refl, ap, sym, subst, Bool, true, false, cond, not, ◌&&◌, List, [], ◌∷◌, ◌++◌, ℕ, ◌+◌, ◌*◌, ◌%◌, ◌<◌, arith, eqb, length, eqb-true, ne_eqb, ltb-true, lt-ltb, Some}
use mathlib.Core.Bool.{and-false}
use Rattle.std.proofs.lemmas.Option.{cond_some}
use Rattle.bits.proofs.Logic.{contrary, both}
use Rattle.bus.specs.Kinds.{is_kind, operands_of}
use Rattle.bus.specs.Event.{Event}
use Rattle.bus.proofs.ByKind.{by_known_kind}
use Rattle.text.specs.Digits.{digit_value, pair_value}
use Rattle.text.specs.Lines.{Line}
use Rattle.text.specs.Frames.{leading_byte, is_frame}
use Rattle.text.proofs.WrittenBack.{digit_back}
use Rattle.mend.specs.Line.{bytes_of, without_cr, raised, mended, is_blank, was_so, kept_sign, mended_sign, blank_sign, unfit_sign, sign_of}
use Rattle.mend.specs.Reason.{is_digit, all_digits, names_no_kind, why, reason_of}
use Rattle.mend.specs.declared.signs.Reason.{Reason}
use Rattle.mend.specs.declared.signs.Reason.TheVariants.{OddDigit, NoKind, WrongCount}
use Rattle.mendlaws.specs.Says.{Digit, figure, letter, Byte, Says, reset, begin_read, end_cycle, begin_write, levels}
use Rattle.mendlaws.specs.Reasons.{AllDigits, over, digit, WrittenIn, reset as reset_in_lem, begin_read as read_in, end_cycle as end_in, begin_write as write_in, levels as levels_in_lem}
use Rattle.mendlaws.specs.Reasons.{Why, odd_digit, no_kind, one_alone, other_count, HasItsReason, unfit_lines, reasons_of, reasons_beside}
use Rattle.mendlaws.proofs.Shapes.{worth, pair_worth, digit_of}
use Rattle.mendlaws.proofs.Spelled.{said_in_digits}
use Rattle.mendlaws.proofs.OneLine.{says_frame, frame_says}
use Rattle.mendlaws.proofs.Steps.{alone}

-- Which codes are digits.
digit_so : {code n : ℕ} → Digit code n → is_digit code ≡ true
digit_so {n} is = let k = worth is in rw (k.0) (lt-ltb n 16 k.1)

digit_by : (code : ℕ) → is_digit code ≡ true → Digit code (digit_value code % 16)
digit_by code is = subst (λ c. Digit c (digit_value code % 16)) (digit_back code (ltb-true (digit_value code) 16 is)) (digit_of (digit_value code))

all_so : {codes : List ℕ} → AllDigits codes → all_digits codes ≡ true
all_so over = refl
all_so (digit first all) = rw (digit_so first, all_so all)

all_by : (codes : List ℕ) → all_digits codes ≡ true → AllDigits codes
all_by [] is = over
all_by (code ∷ codes) is = let k = both (is_digit code) (all_digits codes) is in digit (digit_by code k.0) (all_by codes k.1)

odd_so : {code : ℕ} → ((n : ℕ) → ¬ Digit code n) → (front behind : List ℕ) → all_digits (front ++ code ∷ behind) ≡ false
odd_so {code} odd [] behind = go (is_digit code) refl
  where
    go : (t : Bool) → is_digit code ≡ t → (t && all_digits behind) ≡ false
    go true is = absurd (odd _ (digit_by code is))
    go false is = refl
odd_so {code} odd (c ∷ front) behind = rw (odd_so odd front behind) (and-false (is_digit c))

odd_by : (codes : List ℕ) → all_digits codes ≡ false → Why codes OddDigit
odd_by [] is = absurd (contrary true is refl)
odd_by (code ∷ codes) is = go (is_digit code) refl is (odd_by codes)
  where
    more : {bytes : List ℕ} → Why bytes OddDigit → Why (code ∷ bytes) OddDigit
    more (odd_digit front behind c odd) = odd_digit (code ∷ front) behind c odd

    go : (t : Bool) → is_digit code ≡ t → (t && all_digits codes) ≡ false → (all_digits codes ≡ false → Why codes OddDigit) → Why (code ∷ codes) OddDigit
    go true first later others = more (others later)
    go false first later others = odd_digit [] codes code (λ n is. contrary (is_digit code) first (digit_so is))

-- A line in which a code is no digit is no frame.
odd_unfit : (bytes : List ℕ) → all_digits bytes ≡ false → is_frame bytes ≡ false
odd_unfit bytes odd = go (is_frame bytes) refl
  where
    go : (t : Bool) → is_frame bytes ≡ t → t ≡ false
    go true is = absurd (contrary (all_digits bytes) odd (all_so (said_in_digits (frame_says bytes is))))
    go false is = refl

-- Which numbers are those of a kind, and how many digits its events have.
kind_so : {b count : ℕ} → WrittenIn b count → (is_kind b ≡ true) × (count ≡ 2 + 2 * operands_of b)
unfolding is_kind operands_of
kind_so reset_in_lem = (refl, refl)
kind_so read_in = (refl, refl)
kind_so end_in = (refl, refl)
kind_so write_in = (refl, refl)
kind_so levels_in_lem = (refl, refl)

kind_by : (b : ℕ) → is_kind b ≡ true → (count : ℕ) × WrittenIn b count
kind_by = by_known_kind (λ b. (count : ℕ) × WrittenIn b count) (2, reset_in_lem) (4, read_in) (2, end_in) (6, write_in) (6, levels_in_lem)

none_so : (b : ℕ) → ((count : ℕ) → ¬ WrittenIn b count) → is_kind b ≡ false
none_so b none = go (is_kind b) refl
  where
    go : (t : Bool) → is_kind b ≡ t → t ≡ false
    go true is = let k = kind_by b is in absurd (none k.0 k.1)
    go false is = refl

-- Digits that are as many as those of their kind say an event.
byte_by : {h l m n : ℕ} → Digit h m → Digit l n → Byte h l (16 * m + n)
byte_by {m} {n} first second = record { sixteens = m; ones = n; first = first; second = second; worth = refl }

figure_code : {c n : ℕ} → Digit c n → n < 10 → c ≡ 48 + n
figure_code (figure few is) small = is
figure_code (letter many few is) small = absurd (omega (arith, many, small))

module _ {h l b : ℕ} {later : List ℕ} (byte : Byte h l b) where
  at_kind : b < 10 → (e : Event) → Says (48 ∷ (48 + b) ∷ later) e → (e : Event) × Says (h ∷ l ∷ later) e
  at_kind few e says =
      let none : byte.sixteens ≡ 0 = omega (arith, byte.worth, few) in
      let same : byte.ones ≡ b = omega (arith, byte.worth, few) in
      let high : h ≡ 48 = figure_code byte.first (omega (arith, none)) ∙ ap (λ n. 48 + n) none in
      let low : l ≡ 48 + b = figure_code byte.second (omega (arith, same, few)) ∙ ap (λ n. 48 + n) same in
      (e, subst (λ line. Says line e) (λ i. sym high i ∷ sym low i ∷ later) says)

says_by : {h l b count : ℕ} {later : List ℕ} → Byte h l b → WrittenIn b count → AllDigits later → length (h ∷ l ∷ later) ≡ count
    → (e : Event) × Says (h ∷ l ∷ later) e
says_by byte reset_in_lem over long = at_kind byte (omega arith) _ reset
says_by byte reset_in_lem (digit first all) long = absurd (omega (arith, long))
says_by byte read_in (digit h (digit l over)) long = at_kind byte (omega arith) _ (begin_read (byte_by h l))
says_by byte read_in all long = absurd (omega (arith, long))
says_by byte end_in over long = at_kind byte (omega arith) _ end_cycle
says_by byte end_in (digit first all) long = absurd (omega (arith, long))
says_by byte write_in (digit h (digit l (digit h' (digit l' over)))) long = at_kind byte (omega arith) _ (begin_write (byte_by h l) (byte_by h' l'))
says_by byte write_in all long = absurd (omega (arith, long))
says_by byte levels_in_lem (digit h (digit l (digit h' (digit l' over)))) long = at_kind byte (omega arith) _ (levels (byte_by h l) (byte_by h' l'))
says_by byte levels_in_lem all long = absurd (omega (arith, long))

-- What is so of bytes that a reason is said of: they are not blank and no frame, and the reason is the one that mend says.
not_empty : (front behind : List ℕ) (code : ℕ) → is_blank (front ++ code ∷ behind) ≡ false
not_empty [] behind code = refl
not_empty (c ∷ front) behind code = refl

abbrev Agrees : List ℕ → Reason → Type 0
Agrees bytes reason = (why bytes ≡ reason) × (is_blank bytes ≡ false) × (is_frame bytes ≡ false)

why_so : {bytes : List ℕ} {reason : Reason} → Why bytes reason → Agrees bytes reason
unfolding is_kind leading_byte is_frame why
why_so (odd_digit front behind code odd) =
    let is = odd_so odd front behind in
    (rw (is), not_empty front behind code, odd_unfit (front ++ code ∷ behind) is)
why_so (no_kind {b} byte all none) =
    let worth = pair_worth byte in
    (rw (digit_so byte.first, digit_so byte.second, all_so all, worth.0, none_so b none), refl, rw (worth.0, none_so b none))
why_so (one_alone first) = (rw (digit_so first), refl, refl)
why_so (other_count {h} {l} {b} {count} {later} byte all written other) =
    let worth = pair_worth byte in
    let kind = kind_so written in (
      rw (digit_so byte.first, digit_so byte.second, all_so all, worth.0, kind.0),
      refl,
      rw (worth.0, kind.0, ne_eqb (length (h ∷ l ∷ later)) (2 + 2 * operands_of b) (λ e. other (e ∙ sym kind.1))),
    )

-- And of bytes that are not blank and no frame the reason is so that mend says.
of_digits : {bytes : List ℕ} → AllDigits bytes → is_blank bytes ≡ false → is_frame bytes ≡ false → Why bytes (cond (names_no_kind bytes) NoKind WrongCount)
of_digits over some no_frame_lem = absurd (contrary true some refl)
of_digits (digit first over) some no_frame_lem = one_alone first
of_digits (digit {c = h} {n = m} first (digit {c = l} {n} {cs = later} second all)) some no_frame_lem = rw ((pair_worth byte).0) (go (is_kind (16 * m + n)) refl)
  where
    byte : Byte h l (16 * m + n)
    byte = byte_by first second

    go : (t : Bool) → is_kind (16 * m + n) ≡ t → Why (h ∷ l ∷ later) (cond (not t) NoKind WrongCount)
    go true is =
        let k = kind_by (16 * m + n) is in
        other_count byte all k.1 (λ long. contrary (is_frame (h ∷ l ∷ later)) no_frame_lem (says_frame (says_by byte k.1 all long).1))
    go false is = no_kind byte all (λ count written. contrary (is_kind (16 * m + n)) is (kind_so written).0)

why_by : (bytes : List ℕ) → is_blank bytes ≡ false → is_frame bytes ≡ false → Why bytes (why bytes)
unfolding why
why_by bytes some no_frame_lem = go (all_digits bytes) refl
  where
    go : (t : Bool) → all_digits bytes ≡ t → Why bytes (cond (not t) OddDigit (cond (names_no_kind bytes) NoKind WrongCount))
    go true is = of_digits (all_by bytes is) some no_frame_lem
    go false is = odd_by bytes is

module _ (l : Line) where
  -- The sign is U just where a line is not blank and no frame when it is mended.
  unfit_sign_of : is_blank (mended (bytes_of l)) ≡ false → is_frame (mended (bytes_of l)) ≡ false → sign_of l ≡ unfit_sign
  unfolding sign_of
  unfit_sign_of some no_frame_lem = rw (some, no_frame_lem)

  of_unfit_sign : sign_of l ≡ unfit_sign → (is_blank (mended (bytes_of l)) ≡ false) × (is_frame (mended (bytes_of l)) ≡ false)
  unfolding sign_of
  of_unfit_sign is = go (is_blank (mended (bytes_of l))) (is_frame (mended (bytes_of l))) (was_so l) is
    where
      go : (blank frame so : Bool) → cond blank blank_sign (cond frame (cond so kept_sign mended_sign) unfit_sign) ≡ unfit_sign → (blank ≡ false) × (frame ≡ false)
      go true frame so is = absurd (omega (arith, is))
      go false true true is = absurd (omega (arith, is))
      go false true false is = absurd (omega (arith, is))
      go false false so is = (refl, refl)

  -- What it is for a line to have a reason.
  has_it : (reason : Reason) → reason_of l ≡ Some reason → (sign_of l ≡ unfit_sign) × (why (mended (bytes_of l)) ≡ reason)
  unfolding reason_of
  has_it reason is =
      let k = cond_some (eqb (sign_of l) unfit_sign) (why (mended (bytes_of l))) reason is in
      (eqb-true (sign_of l) unfit_sign k.0, k.1)

  its_own : sign_of l ≡ unfit_sign → reason_of l ≡ Some (why (mended (bytes_of l)))
  unfolding reason_of
  its_own is = rw (is)

  pub has_its_reason : HasItsReason l
  has_its_reason = record {
    unfit = (λ is. (why (mended (bytes_of l)), its_own is), λ (reason, is). (has_it reason is).0);
    so = λ {bytes} to reason. (
      (λ is.
          let k = has_it reason is in
          let unfit = of_unfit_sign k.0 in
          subst (λ b. Why b reason) (sym (alone l to)) (subst (Why (mended (bytes_of l))) k.1 (why_by (mended (bytes_of l)) unfit.0 unfit.1))),
      (λ is.
          let k = why_so (subst (λ b. Why b reason) (alone l to) is) in
          its_own (unfit_sign_of k.1 k.2) ∙ ap Some k.0),
    );
  }

-- The examples, computed.
pub as_beside : reasons_of unfit_lines ≡ reasons_beside unfit_lines
unfolding is_kind operands_of digit_value pair_value leading_byte is_frame without_cr raised mended sign_of why reason_of
as_beside = refl
