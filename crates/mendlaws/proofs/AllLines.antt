-- What becomes of the lines of a text; of the lines of its clean script none is malformed; and a text of which none is stays as it is.
-- Rests on OneLine and Spelled, and on mend's Fit, Cleaning and Judging.
use Rattle.std.proofs.Common.{◌≡◌, ◌∙◌, refl, ap, sym, Bool, true, false, cond, List, [], ◌∷◌, ◌++◌, map, ℕ, arith, eqb, length, replicate, eqb-true, ne_eqb}
use mathlib.Core.List.{flat_map}
use lib.Seq.{append_snoc}
use Rattle.bus.specs.Event.{Event}
use Rattle.text.specs.Lines.{lf, Line, ended, rest, before_lines, lines_of}
use Rattle.text.specs.Frames.{is_frame, frame_of, frame_in}
use Rattle.text.specs.History.{event_of}
use Rattle.mend.specs.Line.{bytes_of, mended, kept_sign, sign_of, clean_line}
use Rattle.mend.proofs.Fit.{event_of_lem}
use Rattle.mend.proofs.Cleaning.{clean_in, of_a_fit, of_another}
use Rattle.mend.proofs.Judging.{frame_stays, sign_kept}
use Rattle.mendlaws.specs.Says.{Digit, figure, letter, AllSay, none as none_say, next as next_says}
use Rattle.mendlaws.specs.Becomes.{AllBecome, none, next}
use Rattle.mendlaws.specs.Reasons.{AllDigits, over, digit}
use Rattle.mendlaws.proofs.Spelled.{said_in_digits}
use Rattle.mendlaws.proofs.OneLine.{events_of, says_frame, says_event, frame_says, becomes, only}

-- All lines become what the relation says, and nothing else.
pub all_become : (ls : List Line) → AllBecome ls (map sign_of ls) (flat_map clean_in ls) (flat_map events_of ls)
unfolding flat_map
all_become [] = none
all_become (l ∷ ls) = next (becomes l) (all_become ls)

pub all_only : {ls : List Line} {signs clean : List ℕ} {es : List Event} → AllBecome ls signs clean es
    → (signs ≡ map sign_of ls) × (clean ≡ flat_map clean_in ls) × (es ≡ flat_map events_of ls)
unfolding flat_map
all_only none = (refl, refl, refl)
all_only (next one others) =
    let k = only one in
    let m = all_only others in
    (λ i. k.0 i ∷ m.0 i, λ i. k.1 i ++ m.1 i, λ i. k.2 i ++ m.2 i)

-- A line of digits, with its LF, is the first line of a text that begins so.
no_lf : {c n : ℕ} → Digit c n → eqb c lf ≡ false
no_lf {c} (figure few is) = ne_eqb c lf (λ e. omega (arith, e, is))
no_lf {c} (letter many few is) = ne_eqb c lf (λ e. omega (arith, e, is))

first_line_lem : {bytes : List ℕ} → AllDigits bytes → (later : List ℕ) → lines_of (bytes ++ lf ∷ later) ≡ ended bytes ∷ lines_of later
unfolding lines_of
first_line_lem over later = refl
first_line_lem (digit {c} one all) later = rw (no_lf one) (ap (before_lines c) (first_line_lem all later))

-- So each line of the clean script says its event.
pub all_say : (ls : List Line) → AllSay (lines_of (flat_map clean_in ls)) (flat_map events_of ls)
unfolding lines_of flat_map
all_say [] = none_say
all_say (l ∷ ls) = go (is_frame (mended (bytes_of l))) refl (all_say ls)
  where
    go : (t : Bool) → is_frame (mended (bytes_of l)) ≡ t → AllSay (lines_of (flat_map clean_in ls)) (flat_map events_of ls)
        → AllSay (lines_of (clean_in l ++ flat_map clean_in ls)) (cond t (event_of (frame_of (mended (bytes_of l))) ∷ []) [] ++ flat_map events_of ls)
    go true fit others =
        let says = frame_says (mended (bytes_of l)) fit in
        rw (
          of_a_fit (bytes_of l) fit,
          append_snoc (mended (bytes_of l)) lf (flat_map clean_in ls),
          first_line_lem (said_in_digits says) (flat_map clean_in ls),
        ) (next_says says others)
    go false unfit others = rw (of_another (bytes_of l) unfit) others

-- Lines of which each says its event are read as these events.
pub read_so : {ls : List Line} {es : List Event} → AllSay ls es → map (λ (l : Line). event_of (frame_in l)) ls ≡ es
unfolding frame_in
read_so none_say = refl
read_so (next_says says others) = λ i. says_event says i ∷ read_so others i

-- Every text is its lines, each as it stands.
abbrev pub as_it_stands : Line → List ℕ
as_it_stands (ended bytes) = bytes ++ lf ∷ []
as_it_stands (rest bytes) = bytes

text_is : (text : List ℕ) → flat_map as_it_stands (lines_of text) ≡ text
unfolding lines_of flat_map
text_is [] = refl
text_is (b ∷ text) = go (eqb b lf) refl (lines_of text) (text_is text)
  where
    before : (ls : List Line) → flat_map as_it_stands (before_lines b ls) ≡ b ∷ flat_map as_it_stands ls
    before [] = refl
    before (ended bytes ∷ ls) = refl
    before (rest bytes ∷ ls) = refl

    go : (t : Bool) → eqb b lf ≡ t → (ls : List Line) → flat_map as_it_stands ls ≡ text → flat_map as_it_stands (cond t (ended [] ∷ ls) (before_lines b ls)) ≡ b ∷ text
    go true is ls same = λ i. sym (eqb-true b lf is) i ∷ same i
    go false is ls same = before ls ∙ ap (λ (l : List ℕ). b ∷ l) same

-- A text of which no line is malformed stays as it is, and each line is kept.
pub stays_so : {ls : List Line} {es : List Event} → AllSay ls es
    → (flat_map clean_in ls ≡ flat_map as_it_stands ls) × (map sign_of ls ≡ replicate (length ls) kept_sign)
unfolding flat_map frame_in
stays_so none_say = (refl, refl)
stays_so (next_says {bytes} says others) =
    let is = says_frame says in
    let stays = frame_stays bytes is in
    let part : clean_line bytes ≡ bytes ++ lf ∷ [] = of_a_fit bytes (ap is_frame stays ∙ is) ∙ ap (λ (l : List ℕ). l ++ lf ∷ []) stays in
    let later = stays_so others in
    (λ i. part i ++ later.0 i, λ i. sym (sign_kept (ended bytes) (event_of_lem bytes ∙ is)) i ∷ later.1 i)

pub clean_stays : (text : List ℕ) {es : List Event} → AllSay (lines_of text) es → flat_map clean_in (lines_of text) ≡ text
clean_stays text say = (stays_so say).0 ∙ text_is text
