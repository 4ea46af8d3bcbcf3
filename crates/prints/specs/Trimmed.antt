-- What the program prints of a script that it trims ("Trimming the journal").
use Rattle.std.specs.Prelude.{Bool, cond, not, ◌||◌, List, [], ◌∷◌, ◌++◌, map, ℕ}
use mathlib.Core.List.{flat_map}
use Rattle.bus.specs.Event.{event}
use Rattle.text.specs.Lines.{lf, Line, lines_of}
use Rattle.text.specs.Frames.{Frame, Event, NoFrame, frame_in}
use Rattle.text.specs.Written.{written_out}
use Rattle.script.specs.Run.{too_long, too_long_number}
use Rattle.journal.specs.Words.{word_of, event_in, all_frames}
use Rattle.journal.specs.Trim.{kept_from, no_frame_number}
use Rattle.prints.specs.Printed.{refusal_text}
use Rattle.prints.specs.Left.{met}

-- The word of a line: that of the event which it says. What is no frame has a word of no kind.
abbrev pub no_frame_word : ℕ
no_frame_word = 0xffffffff

abbrev pub word_said : Frame → ℕ
word_said (Event k x d) = word_of (event k x d)
word_said NoFrame = no_frame_word

-- The journal that a text is: a word for each line.
abbrev pub journal_of : List ℕ → List ℕ
journal_of text = map (λ (l : Line). word_said (frame_in l)) (lines_of text)

-- A word as a line again: the kind of its event and the operands that the kind has, two digits each, and LF.
unfoldable pub word_line : ℕ → List ℕ
word_line w = written_out (event_in w) ++ lf ∷ []

-- Some words as lines.
abbrev pub word_lines : List ℕ → List ℕ
word_lines ws = flat_map word_line ws

-- What is printed: as lines, the words that change the chip which a script meets; or 06 where the text is longer than a script may be, and 01 where
-- one of its lines is no frame.
unfoldable pub printed_trimmed : List ℕ → List ℕ
printed_trimmed text =
    cond (too_long text) (refusal_text too_long_number)
    (cond (all_frames (journal_of text)) (word_lines (kept_from met (journal_of text))) (refusal_text no_frame_number))

-- Whether the whole text is refused.
abbrev pub refuses_trimming : List ℕ → Bool
refuses_trimming text = too_long text || not (all_frames (journal_of text))
