-- The sign of a line, by whether it is a frame as it stands, whether it is one when it is mended, and whether anything is left of it.
-- A frame stays as it is when it is mended, and so just the frames are kept.
-- Rests on bits' Logic, Same and Tested, on text's WrittenBack, and on Fit, Cleaning and Unfit.
use Rattle.std.proofs.Common.{◌≡◌, ◌∙◌, refl, ap, sym, Bool, true, false, not, ◌&&◌, List, [], ◌∷◌, ◌++◌, map, ℕ, zero, suc, ◌/◌, ◌%◌, arith, eqb, length, get_or, eqb-true, Bor, Some, None}
use borrow.Author.Tests.{eqb-false, not-true}
use Rattle.bits.specs.Same.{same_bytes}
use Rattle.bits.proofs.Logic.{both, contrary}
use Rattle.bits.proofs.Same.{same_lists, same_self}
use Rattle.bits.proofs.Tested.{bits}
use Rattle.bus.specs.Kinds.{is_kind, operands_of}
use Rattle.bus.specs.Event.{Event}
use Rattle.text.specs.Digits.{digits, digit_code, in_digits}
use Rattle.text.specs.declared.line.Line as lent
use Rattle.text.specs.Answers.{line_of, bytes_lent}
use Rattle.text.specs.Lines.{Line, ended, rest}
use Rattle.text.specs.Frames.{leading_byte, is_frame, is_event, frame_in}
use Rattle.text.specs.Written.{operands_out, written_out}
use Rattle.text.proofs.WrittenBack.{event_in, written_back}
use Rattle.mend.specs.Line.{bytes_of, cr, without_cr, raised, mended, is_blank, was_so, kept_sign, mended_sign, blank_sign, unfit_sign, sign_of}
use Rattle.mend.specs.declared.signs.Reason.{Reason}
use Rattle.mend.specs.Reason.{why, reason_of}
use Rattle.mend.proofs.Fit.{event_of_lem, mended_length}
use Rattle.mend.proofs.Cleaning.{bytes_got}
use Rattle.mend.proofs.Unfit.{no_reason, reason_given}

-- A code to which nothing is done: it is no small digit, and no CR.
abbrev plain_code : ℕ → Bool
plain_code b = eqb (raised b) b && not (eqb b cr)

abbrev plain : List ℕ → Bool
plain [] = true
plain (b ∷ bytes) = plain_code b && plain bytes

module _ (b : ℕ) (is : plain_code b ≡ true) where
  as_it_is : raised b ≡ b
  as_it_is = eqb-true (raised b) b (both (eqb (raised b) b) (not (eqb b cr)) is).0

  no_cr : eqb b cr ≡ false
  no_cr = not-true (eqb b cr) (both (eqb (raised b) b) (not (eqb b cr)) is).1

plain_stays : (bytes : List ℕ) → plain bytes ≡ true → mended bytes ≡ bytes
unfolding mended without_cr
plain_stays [] is = refl
plain_stays (b ∷ []) is = let k = both (plain_code b) true is in rw (no_cr b k.0) (ap (λ n. n ∷ []) (as_it_is b k.0))
plain_stays (b ∷ d ∷ bytes) is =
    let k = both (plain_code b) (plain (d ∷ bytes)) is in
    λ i. as_it_is b k.0 i ∷ plain_stays (d ∷ bytes) k.1 i

-- Every digit is such a code, by a test at the sixteen.
plain_digit : (n : ℕ) → plain_code (digit_code n) ≡ true
unfolding digit_code raised
plain_digit n = bits 16 (λ i. plain_code (get_or digits i 0)) (λ i. true) tt (n % 16) (omega arith)

plain_byte : (x : ℕ) (later : List ℕ) → plain later ≡ true → plain (in_digits x ++ later) ≡ true
plain_byte x later is = rw (plain_digit (x / 16), plain_digit x) is

plain_event : (e : Event) → plain (written_out e) ≡ true
unfolding written_out
plain_event e = go (operands_of e.kind)
  where
    go : (n : ℕ) → plain (in_digits e.kind ++ operands_out n e.first e.second) ≡ true
    go zero = plain_byte e.kind [] refl
    go (suc zero) = plain_byte e.kind (in_digits e.first) (plain_byte e.first [] refl)
    go (suc (suc n)) =
        plain_byte e.kind (in_digits e.first ++ in_digits e.second)
        (plain_byte e.first (in_digits e.second) (plain_byte e.second [] refl))

-- So a frame stays as it is.
pub frame_stays : (bytes : List ℕ) → is_frame bytes ≡ true → mended bytes ≡ bytes
frame_stays bytes is =
    let line = written_back bytes is in
    ap mended line ∙ plain_stays (written_out (event_in bytes)) (plain_event (event_in bytes)) ∙ sym line

-- No bytes are no frame, and so a frame is not blank.
pub not_blank : (bytes : List ℕ) → is_frame bytes ≡ true → is_blank bytes ≡ false
unfolding is_kind operands_of leading_byte is_frame
not_blank [] is = sym is
not_blank (b ∷ bytes) is = refl

pub blank_if_none : (line : List ℕ) → length (without_cr line) ≡ 0 → is_blank (mended line) ≡ true
blank_if_none line none = go (mended line) (mended_length line ∙ none)
  where
    go : (bytes : List ℕ) → length bytes ≡ 0 → is_blank bytes ≡ true
    go [] none = refl
    go (b ∷ bytes) none = absurd (omega (arith, none))

pub none_if_blank : (line : List ℕ) → ¬ (length (without_cr line) ≡ 0) → is_blank (mended line) ≡ false
none_if_blank line some = go (mended line) (mended_length line)
  where
    go : (bytes : List ℕ) → length bytes ≡ length (without_cr line) → is_blank bytes ≡ false
    go [] long = absurd (some (sym long))
    go (b ∷ bytes) long = refl

-- The four signs.
pub sign_kept : (l : Line) → is_event (frame_in l) ≡ true → kept_sign ≡ sign_of l
unfolding frame_in sign_of
sign_kept (ended bytes) event =
    let is = sym (event_of_lem bytes) ∙ event in
    rw (frame_stays bytes is, not_blank bytes is, is, same_self bytes)
sign_kept (rest bytes) event = absurd (contrary false refl event)

-- A line that is fit, and was no frame, was not so.
was_not_so : (l : Line) → is_event (frame_in l) ≡ false → is_frame (mended (bytes_of l)) ≡ true → was_so l ≡ false
unfolding frame_in
was_not_so (ended bytes) none fit = go (same_bytes bytes (mended bytes)) refl
  where
    go : (t : Bool) → same_bytes bytes (mended bytes) ≡ t → t ≡ false
    go true same = absurd (contrary (is_frame bytes) (sym (event_of_lem bytes) ∙ none) (ap is_frame (same_lists bytes (mended bytes) same) ∙ fit))
    go false same = refl
was_not_so (rest bytes) none fit = refl

module _ (l : Line) where
  pub sign_mended : is_event (frame_in l) ≡ false → is_frame (mended (bytes_of l)) ≡ true → mended_sign ≡ sign_of l
  unfolding sign_of
  sign_mended none fit = rw (not_blank (mended (bytes_of l)) fit, fit, was_not_so l none fit)

  pub sign_blank : length (without_cr (bytes_of l)) ≡ 0 → blank_sign ≡ sign_of l
  unfolding sign_of
  sign_blank none = rw (blank_if_none (bytes_of l) none)

  pub sign_unfit : ¬ (length (without_cr (bytes_of l)) ≡ 0) → is_frame (mended (bytes_of l)) ≡ false → unfit_sign ≡ sign_of l
  unfolding sign_of
  sign_unfit some unfit = rw (none_if_blank (bytes_of l) some, unfit)

-- The same in the words of what the functions answer: the letter and the reason of each sign.
module _ (line : lent.Line) where
  abbrev l : Line
  l = line_of line

  pub kept_reason : is_event (frame_in l) ≡ true → None ≡ reason_of l
  kept_reason frame = no_reason l kept_sign (sign_kept l frame) refl

  module _ (none : is_event (frame_in l) ≡ false) (bytes : Bor (List ℕ)) (lent : bytes ≡ bytes_lent line) (fit : is_frame (mended bytes.now) ≡ true) where
    pub mended_letter : mended_sign ≡ sign_of l
    mended_letter = sign_mended l none (ap (λ (bytes : List ℕ). is_frame (mended bytes)) (sym (bytes_got line bytes lent)) ∙ fit)

    pub mended_reason : None ≡ reason_of l
    mended_reason = no_reason l mended_sign mended_letter refl

  module _ (bytes : Bor (List ℕ)) (lent : bytes ≡ bytes_lent line) (left : List ℕ) (is : left ≡ without_cr bytes.now) where
    here : left ≡ without_cr (bytes_of l)
    here = is ∙ ap without_cr (bytes_got line bytes lent)

    pub blank_letter : eqb (length left) 0 ≡ true → blank_sign ≡ sign_of l
    blank_letter none = sign_blank l (sym (ap length here) ∙ eqb-true (length left) 0 none)

    pub blank_reason : eqb (length left) 0 ≡ true → None ≡ reason_of l
    blank_reason none = no_reason l blank_sign (blank_letter none) refl

    module _ (some : eqb (length left) 0 ≡ false) (other : is_frame (mended bytes.now) ≡ false) where
      pub unfit_letter : unfit_sign ≡ sign_of l
      unfit_letter =
          sign_unfit l (λ none. eqb-false (length left) 0 some (ap length here ∙ none))
          (ap (λ (bytes : List ℕ). is_frame (mended bytes)) (sym (bytes_got line bytes lent)) ∙ other)

      pub unfit_reason : (reason : Reason) → reason ≡ why (map raised left) → Some reason ≡ reason_of l
      unfit_reason reason given = reason_given l left reason unfit_letter here given

-- The letter and the reason of every sign.
pub ruleset signs = (sign_kept, kept_reason, mended_letter, mended_reason, blank_letter, blank_reason, unfit_letter, unfit_reason)
