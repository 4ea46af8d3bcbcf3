-- What becomes of one line of a captured script: it is mended, in the order of the rules, and judged ("Mending captured scripts").
use Rattle.std.specs.Prelude.{Bool, true, false, cond, List, [], ◌∷◌, ◌++◌, map, ℕ, eqb, get_or, drop}
use Rattle.bits.specs.Same.{same_bytes}
use Rattle.text.specs.Digits.{digits, place_from}
use Rattle.text.specs.Lines.{lf, Line, ended, rest}
use Rattle.text.specs.Frames.{is_frame}
use Rattle.mend.specs.declared.signs.Sign.{Sign}
use Rattle.mend.specs.declared.signs.Sign.TheVariants.{Kept, Mended, Blank, Unfit}

-- First, a rest gets its LF: from here on each line is its bytes, with LF behind them.
abbrev pub bytes_of : Line → List ℕ
bytes_of (ended bytes) = bytes
bytes_of (rest bytes) = bytes

-- Then one CR before the LF is dropped. One that stands before it stays.
abbrev pub cr : ℕ
cr = 13

unfoldable pub without_cr : List ℕ → List ℕ
without_cr [] = []
without_cr (b ∷ []) = cond (eqb b cr) [] (b ∷ [])
without_cr (b ∷ d ∷ bytes) = b ∷ without_cr (d ∷ bytes)

-- Then digits are raised: the small letters a to f become the digits from ten on, in their order. Every other code stays.
abbrev pub small_digits : List ℕ
small_digits = 97 ∷ 98 ∷ 99 ∷ 100 ∷ 101 ∷ 102 ∷ []

unfoldable pub raised : ℕ → ℕ
raised code = get_or (drop 10 digits) (place_from 0 small_digits code) code

-- So the bytes of a line are mended.
unfoldable pub mended : List ℕ → List ℕ
mended bytes = map raised (without_cr bytes)

-- Then the line is judged. It is blank where nothing stands before its LF.
abbrev pub is_blank : List ℕ → Bool
is_blank [] = true
is_blank (b ∷ bytes) = false

-- It was so already where its LF was there, and every byte before that.
abbrev pub was_so : Line → Bool
was_so (ended bytes) = same_bytes bytes (mended bytes)
was_so (rest bytes) = false

-- The signs: K, M, B and U.
abbrev pub kept_sign : ℕ
kept_sign = 75

abbrev pub mended_sign : ℕ
mended_sign = 77

abbrev pub blank_sign : ℕ
blank_sign = 66

abbrev pub unfit_sign : ℕ
unfit_sign = 85

abbrev pub letter_of : Sign → ℕ
letter_of Kept = kept_sign
letter_of Mended = mended_sign
letter_of Blank = blank_sign
letter_of (Unfit reason) = unfit_sign

-- The sign of a line: blank; or fit, being a frame of the script, and then kept or mended; or unfit.
unfoldable pub sign_of : Line → ℕ
sign_of l =
    cond (is_blank (mended (bytes_of l))) blank_sign
    (cond (is_frame (mended (bytes_of l))) (cond (was_so l) kept_sign mended_sign) unfit_sign)

-- What the clean script has of a line with these bytes: them, mended, with LF, where that is a frame; of a blank or unfit line nothing.
unfoldable pub clean_line : List ℕ → List ℕ
clean_line bytes = cond (is_frame (mended bytes)) (mended bytes ++ lf ∷ []) []
