-- Why a line is unfit: which of its codes are digits once they are raised, and whether two of them are the number of a kind.
-- Rests on bits' Tested, the bus's ByKind and text's WrittenBack.
use Rattle.std.proofs.Common.{◌≡◌, refl, ap, sym, Bool, true, false, ◌&&◌, List, [], ◌∷◌, map, ℕ, ◌≤◌, arith, eqb, leb, ltb, get_or, drop, ltb-true, ltb-false, Option, Some, None, is_some}
use mathlib.Core.Bool.{and-false}
use Rattle.std.proofs.lemmas.Bool.{lt-leb}
use Rattle.std.specs.List.{list_all}
use Rattle.std.specs.Char.{is_ascii_hexdigit}
use Rattle.bits.proofs.Tested.{bits}
use Rattle.bus.specs.Kinds.{is_kind}
use Rattle.bus.specs.Answers.{kind_numbered}
use Rattle.bus.specs.declared.kinds.Kind.{Kind}
use Rattle.bus.proofs.ByKind.{kind_back, none_back}
use Rattle.text.specs.Digits.{digits, digit_value}
use Rattle.text.specs.Lines.{Line}
use Rattle.text.proofs.WrittenBack.{no_place}
use Rattle.mend.specs.Line.{bytes_of, without_cr, small_digits, raised, mended, unfit_sign, sign_of}
use Rattle.mend.specs.Reason.{is_digit, all_digits, why, reason_of}
use Rattle.mend.specs.declared.signs.Reason.{Reason}

-- A code is a digit once it is raised exactly where it is one of either size: up to the last small digit by a test, and above it is neither.
above : (code : ℕ) → 103 ≤ code → is_digit (raised code) ≡ false
unfolding digit_value raised
above code far =
    let stays : raised code ≡ code = ap (λ n. get_or (drop 10 digits) n code) (no_place small_digits 0 103 code refl far) in
    rw (stays, no_place digits 0 103 code refl far)

pub either_size : (code : ℕ) → is_ascii_hexdigit code ≡ is_digit (raised code)
unfolding digit_value raised
either_size code = go (ltb code 103) refl
  where
    go : (t : Bool) → ltb code 103 ≡ t → is_ascii_hexdigit code ≡ is_digit (raised code)
    go true t = bits 103 is_ascii_hexdigit (λ code. is_digit (raised code)) tt code (ltb-true code 103 t)
    go false t =
        let far = ltb-false code 103 t in
        rw (above code far, lt-leb code 57 (omega (arith, far)), lt-leb code 70 (omega (arith, far)), lt-leb code 102 far, and-false (leb 48 code), and-false (leb 65 code), and-false (leb 97 code))

-- Codes are digits once they are raised exactly where their raised codes are.
pub all_raised : (bytes : List ℕ) → list_all (λ code. is_digit (raised code)) bytes ≡ all_digits (map raised bytes)
all_raised [] = refl
all_raised (b ∷ bytes) = ap (λ t. is_digit (raised b) && t) (all_raised bytes)

-- A number is that of a kind where a kind is found for it.
pub kind_found : (n : ℕ) → is_some (kind_numbered n) ≡ is_kind n
kind_found n = go (kind_numbered n) refl
  where
    go : (o : Option Kind) → o ≡ kind_numbered n → is_some o ≡ is_kind n
    go (Some k) is = sym (kind_back n k is).1
    go None is = sym (none_back n is)

-- The reason of a line by its sign.
module _ (l : Line) where
  pub no_reason : (sign : ℕ) → sign ≡ sign_of l → eqb sign unfit_sign ≡ false → None ≡ reason_of l
  unfolding reason_of
  no_reason sign is other = rw (← is, other)

  pub reason_given : (bytes : List ℕ) (reason : Reason) → unfit_sign ≡ sign_of l → bytes ≡ without_cr (bytes_of l) → reason ≡ why (map raised bytes)
      → Some reason ≡ reason_of l
  unfolding mended reason_of
  reason_given bytes reason is left given = rw (← is, given, left)
