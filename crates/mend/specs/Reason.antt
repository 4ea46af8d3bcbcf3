-- Why a line of a captured script is unfit ("Mending captured scripts").
use Rattle.std.specs.Prelude.{Bool, false, cond, not, List, [], ◌∷◌, ℕ, eqb, ltb, Option, Some, None}
use Rattle.std.specs.List.{list_all}
use Rattle.bus.specs.Kinds.{is_kind}
use Rattle.text.specs.Digits.{digit_value, pair_value}
use Rattle.text.specs.Lines.{Line}
use Rattle.mend.specs.declared.signs.Reason.{Reason}
use Rattle.mend.specs.declared.signs.Reason.TheVariants.{OddDigit, NoKind, WrongCount}
use Rattle.mend.specs.declared.signs.Sign.{Sign}
use Rattle.mend.specs.declared.signs.Sign.TheVariants.{Kept, Mended, Blank, Unfit}
use Rattle.mend.specs.Line.{bytes_of, mended, unfit_sign, sign_of}

-- Whether a code is a digit, and whether each of some is.
abbrev pub is_digit : ℕ → Bool
is_digit code = ltb (digit_value code) 16

abbrev pub all_digits : List ℕ → Bool
all_digits bytes = list_all is_digit bytes

-- Whether the first two digits are the number of no kind. One digit alone is no number yet.
abbrev pub names_no_kind : List ℕ → Bool
names_no_kind [] = false
names_no_kind (digit ∷ []) = false
names_no_kind (high ∷ low ∷ later) = not (is_kind (pair_value high low))

-- Why mended bytes that are not blank are no frame: one of them is no digit; or they begin with the number of no kind; or they have not as many
-- digits as their kind and its operands.
unfoldable pub why : List ℕ → Reason
why bytes = cond (not (all_digits bytes)) OddDigit (cond (names_no_kind bytes) NoKind WrongCount)

-- The reason of a line, where it is unfit; and the one that a sign has.
unfoldable pub reason_of : Line → Option Reason
reason_of l = cond (eqb (sign_of l) unfit_sign) (Some (why (mended (bytes_of l)))) None

abbrev pub reason_told : Sign → Option Reason
reason_told Kept = None
reason_told Mended = None
reason_told Blank = None
reason_told (Unfit reason) = Some reason
