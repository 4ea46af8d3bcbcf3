-- A text of which no line is malformed stays as it is.
-- Rests on AllLines, Calls and ByTests, and on mend's Numbers.
use Rattle.std.proofs.Common.{◌≡◌, ◌∙◌, ap, List, ℕ, ◌≤◌, arith, length}
use Rattle.bus.specs.Event.{Event}
use Rattle.text.specs.Lines.{lines_of, line_count}
use Rattle.script.specs.Run.{longest_script}
use Rattle.mend.specs.Mend.{clean_of, report_of}
use Rattle.mend.proofs.Numbers.{number_answered}
use Rattle.mendlaws.specs.Says.{AllSay}
use Rattle.mendlaws.specs.Promise.{Stays}
use Rattle.mendlaws.proofs.AllLines.{stays_so, clean_stays}
use Rattle.mendlaws.proofs.Calls.{clean_is, signs_are}
use Rattle.mendlaws.proofs.ByTests.{no_refusal}

pub stays : (text clean report : List ℕ) {es : List Event} → AllSay (lines_of text) es
    → length text ≤ longest_script → length text ≤ length clean → line_count text ≤ length report → Stays text clean report
unfolding clean_of report_of
stays text clean report say short room room' =
    let same : clean_of text ≡ text = clean_stays text say in
    let lengths = ap length same in
    let none = no_refusal text clean report short (omega (arith, lengths, short)) (omega (arith, lengths, room)) room' in
    record {
      accepted = number_answered text (length clean) (length report) ∙ none;
      same = clean_is text clean report none ∙ same;
      all_kept = signs_are text clean report none ∙ (stays_so say).1;
    }
