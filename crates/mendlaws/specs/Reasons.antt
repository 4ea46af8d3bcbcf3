-- Why a captured line is unfit, in plain codes, and that each unfit line has its reason ("Mending captured scripts").
use Rattle.std.specs.Prelude.{◌≡◌, ◌↔◌, List, [], ◌∷◌, ◌++◌, ℕ, length, Option, Some}
use Prim.Native.String.{String}
use Rattle.text.specs.Lines.{Line, ended}
use Rattle.text.specs.Quoted.{codes}
use Rattle.mend.specs.declared.signs.Reason.{Reason}
use Rattle.mend.specs.declared.signs.Reason.TheVariants.{OddDigit, NoKind, WrongCount}
use Rattle.mend.specs.Line.{sign_of}
use Rattle.mend.specs.Reason.{reason_of}
use Rattle.mendlaws.specs.Says.{Digit, Byte}
use Rattle.mendlaws.specs.Steps.{MendsTo}

-- Each of these codes is that of a digit.
pub data AllDigits : List ℕ → Type 0 where
  over : AllDigits []
  digit : {c n : ℕ} {cs : List ℕ} → Digit c n → AllDigits cs → AllDigits (c ∷ cs)

-- In how many digits an event is written, by the number of its kind: two for that, and two more for each operand. No other number is a kind's.
pub data WrittenIn : ℕ → ℕ → Type 0 where
  reset : WrittenIn 0 2
  begin_read : WrittenIn 1 4
  end_cycle : WrittenIn 2 2
  begin_write : WrittenIn 3 6
  levels : WrittenIn 5 6

-- Why the bytes that a line is mended to are no frame. One of them is an odd digit: the code of no number's digit, wherever it stands. Or each is
-- a digit, and the first two write a number that is no kind's, whatever follows. Or each is a digit, and their count is wrong: there is one alone,
-- or the first two write the number of a kind whose events are written in another count of digits.
pub data Why : List ℕ → Reason → Type 0 where
  odd_digit : (front behind : List ℕ) (code : ℕ) → ((n : ℕ) → ¬ Digit code n) → Why (front ++ code ∷ behind) OddDigit
  no_kind : {h l b : ℕ} {later : List ℕ} → Byte h l b → AllDigits later → ((count : ℕ) → ¬ WrittenIn b count) → Why (h ∷ l ∷ later) NoKind
  one_alone : {c n : ℕ} → Digit c n → Why (c ∷ []) WrongCount
  other_count : {h l b count : ℕ} {later : List ℕ} → Byte h l b → AllDigits later → WrittenIn b count → ¬ (length (h ∷ l ∷ later) ≡ count)
      → Why (h ∷ l ∷ later) WrongCount

-- A line has a reason exactly where its sign is U; and a reason is a line's exactly where it is so of the bytes that the line is mended to. So of
-- an unfit line one reason is so and no other, and of any other line none.
pub record HasItsReason (l : Line) : Type 0 where
  pub unfit : (sign_of l ≡ 85) ↔ ((reason : Reason) × (reason_of l ≡ Some reason))
  pub so : {bytes : List ℕ} → MendsTo l bytes → (reason : Reason) → (reason_of l ≡ Some reason) ↔ Why bytes reason

-- A line and its reason; lines for each of the three.
pub record Unfit : Type 0 where
  pub line : String
  pub reason : Reason

infixl 80 ◌because◌
abbrev pub ◌because◌ : String → Reason → Unfit
line because reason = record { line = line; reason = reason }

abbrev pub unfit_lines : List Unfit
unfit_lines =
    "05004" because WrongCount  -- torn in two
    ∷ "02FF" because WrongCount
    ∷ "1" because WrongCount  -- one digit alone is no number yet
    ∷ "04" because NoKind
    ∷ "0400" because NoKind
    ∷ "0ffffff" because NoKind  -- small digits are raised before
    ∷ "0z" because OddDigit
    ∷ "04zz" because OddDigit  -- odd digits are said before the kind
    ∷ "01 02" because OddDigit
    ∷ []

-- The reason that each has, with its LF, and the one that stands beside it.
abbrev pub reasons_of : List Unfit → List (Option Reason)
reasons_of [] = []
reasons_of (u ∷ us) = reason_of (ended (codes u.line)) ∷ reasons_of us

abbrev pub reasons_beside : List Unfit → List (Option Reason)
reasons_beside [] = []
reasons_beside (u ∷ us) = Some u.reason ∷ reasons_beside us
