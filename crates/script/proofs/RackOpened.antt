-- What stands behind the first line of a text, where that is a rack, is given to the run of one who answers scripts: what that run tells and
-- leaves is what the rack's run does. Rests on text's LineCount and Numbers.
use Rattle.std.proofs.Common.{◌≡◌, ◌∙◌, refl, ap, sym, List, ◌∷◌, ℕ, ◌*◌, ◌≤◌, arith, length, le-ltb, Result, Ok, Err, IsErrAnd}
use Rattle.rack.specs.declared.Rack.{Rack}
use Rattle.script.specs.Run as scripts
use Rattle.script.specs.Run.{longest_script, width_of}
use Rattle.script.specs.declared.RunRefusal.{RunRefusal}
use Rattle.script.specs.declared.RunRefusal.TheVariants.{TooLong, NoRoom}
use Rattle.script.proofs.Numbers.{number_given, has_room_lem}
use Rattle.text.specs.Lines.{Line, lines_of, line_count}
use Rattle.text.proofs.LineCount.{no_longer}
use Rattle.script.specs.declared.racks.Ran as counts
use Rattle.script.specs.declared.racks.RackRunRefusal.{RackRunRefusal}
use Rattle.script.specs.declared.racks.RackRunRefusal.TheVariants.{Run}
use Rattle.script.specs.RackBases.{rack_of_line, rack_for, further_lines}
use Rattle.script.specs.RackAnswers.{answering}
use Rattle.script.specs.RackRun.{to_answer, run_number, run_refusal_number, run_told, refused_run, ran_of, output_left}

-- What an error tells that was made of the refusal of a run.
pub told_as : (r : Result counts.Ran RackRunRefusal) (why : RunRefusal) → IsErrAnd r (λ given. given ≡ Run why)
    → run_told r ≡ refused_run (scripts.run_refusal_number why)
told_as (Ok ran) why none = absurd none
told_as (Err given) why is = ap (λ given. refused_run (run_refusal_number given)) is

module _ (text left out : List ℕ) (l : Line) (r : Rack) (short : length text ≤ longest_script) (is : lines_of text ≡ l ∷ lines_of left)
    (made : rack_of_line l ≡ Ok r) where
  found : rack_for (lines_of text) ≡ Ok r
  unfolding rack_for
  found = ap rack_for is ∙ made

  behind : to_answer text ≡ lines_of left
  unfolding further_lines
  behind = ap further_lines is

  -- The numbers of the two runs: what is left is no longer than the text.
  abbrev number : ℕ
  number = scripts.run_number (width_of answering r) left (length out)

  same_number : run_number text (length out) ≡ number
  unfolding run_number scripts.run_number
  same_number =
      rw (
        le-ltb longest_script (length text) short,
        le-ltb longest_script (length left) (omega (arith, short, no_longer text left l is)),
        found,
        behind,
      )
      refl

  pub same_output : scripts.output_left answering r left out ≡ output_left text out
  same_output = rw (same_number, found, behind) refl

  -- Where the one is refused, so is the other.
  pub not_run : (why : RunRefusal) → scripts.run_told (Err why) ≡ scripts.ran_of (width_of answering r) left (length out)
      → refused_run (scripts.run_refusal_number why) ≡ ran_of text (length out)
  not_run why told = go why (same_number ∙ sym (number_given (width_of answering r) left (length out) (scripts.run_told (Err why)) told))
    where
      go : (why : RunRefusal) → run_number text (length out) ≡ scripts.run_refusal_number why
          → refused_run (scripts.run_refusal_number why) ≡ ran_of text (length out)
      go TooLong number = rw (number) refl
      go NoRoom number = rw (number) refl

  -- Where it is accepted, it has answered every line behind the first, and the answers lie within the output.
  module _ (n : ℕ) (told : scripts.run_told (Ok n) ≡ scripts.ran_of (width_of answering r) left (length out)) where
    accepted : number ≡ 0
    accepted = sym (number_given (width_of answering r) left (length out) (scripts.run_told (Ok n)) told)

    every_line : n ≡ line_count left
    every_line = ap (λ (ran : scripts.Ran). ran.lines) (rw (accepted) at told)

    pub has_run : record { number = 0; lines = n; length = width_of answering r * n } ≡ ran_of text (length out)
    has_run = rw (same_number, accepted, found, behind, every_line) refl

    pub fits : width_of answering r * n ≤ length out
    fits = rw (every_line) (has_room_lem (width_of answering r) left (length out) accepted)
