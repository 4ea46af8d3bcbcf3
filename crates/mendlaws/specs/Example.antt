-- A captured script in which each reason to keep, to mend and to leave out a line is seen ("Mending captured scripts").
use Rattle.std.specs.Prelude.{List, [], ◌∷◌, ◌++◌, ℕ, ◌+◌, ◌*◌, replicate}
use Prim.Native.String.{String}
use Rattle.text.specs.Quoted.{codes}
use Rattle.mend.specs.Mend.{clean_left, report_left}
use Rattle.mendlaws.specs.Promise.{answer_of}

-- A captured line, what ends it, the sign that it gets, and the line that the clean script has of it; an empty one where it has none.
pub record Captured : Type 0 where
  pub line : String
  pub end : List ℕ
  pub sign : String
  pub clean : String

abbrev pub captured : String → List ℕ → String → String → Captured
captured line end sign clean = record { line = line; end = end; sign = sign; clean = clean }

abbrev pub lf_alone : List ℕ
lf_alone = 10 ∷ []

abbrev pub cr_lf : List ℕ
cr_lf = 13 ∷ 10 ∷ []

-- What a store's terminal sent.
abbrev pub a_capture : List Captured
a_capture =
    captured "0303B0" lf_alone "K" "0303B0"
    ∷ captured "02" cr_lf "M" "02"  -- one CR goes
    ∷ captured "0500ab" lf_alone "M" "0500AB"  -- small digits are raised
    ∷ captured "0502eF" cr_lf "M" "0502EF"  -- or both
    ∷ captured "" lf_alone "B" ""
    ∷ captured "" cr_lf "B" ""
    ∷ captured "05" lf_alone "U" ""  -- a line that was torn in two
    ∷ captured "02FF" lf_alone "U" ""
    ∷ captured "0100" (13 ∷ 13 ∷ 10 ∷ []) "U" ""  -- of two CRs one stays
    ∷ captured "01 00" lf_alone "U" ""  -- blanks are not taken out
    ∷ captured " " lf_alone "U" ""
    ∷ captured "04" lf_alone "U" ""  -- there is no such kind
    ∷ captured "0g" lf_alone "U" ""  -- g is no digit
    ∷ captured "0109" lf_alone "K" "0109"  -- an address that there is not is a frame all the same
    ∷ captured "0100" [] "M" "0100"  -- a rest gets its LF
    ∷ []

-- The text, the clean script and the signs.
abbrev pub all_of : List Captured → List ℕ
all_of [] = []
all_of (c ∷ cs) = codes c.line ++ c.end ++ all_of cs

abbrev pub clean_line_of : List ℕ → List ℕ
clean_line_of [] = []
clean_line_of (b ∷ bytes) = b ∷ bytes ++ lf_alone

abbrev pub clean_among : List Captured → List ℕ
clean_among [] = []
clean_among (c ∷ cs) = clean_line_of (codes c.clean) ++ clean_among cs

abbrev pub signs_among : List Captured → List ℕ
signs_among [] = []
signs_among (c ∷ cs) = codes c.sign ++ signs_among cs

-- A call that lends two outputs of fifty full stops: its answer, and what they hold then.
pub record Gives : Type 0 where
  pub answer : ℕ
  pub clean : List ℕ
  pub report : List ℕ

abbrev pub stops : ℕ → List ℕ
stops n = replicate n 46

abbrev pub given : List ℕ → Gives
given text = record {
  answer = answer_of text (stops 50) (stops 50);
  clean = clean_left text (stops 50) (stops 50);
  report = report_left text (stops 50) (stops 50);
}

-- Six lines are clean, of 34 bytes in all, and there are fifteen signs.
abbrev pub said : Gives
said = record {
  answer = 256 * 34 + 4294967296 * 15;
  clean = clean_among a_capture ++ stops 16;
  report = signs_among a_capture ++ stops 35;
}
