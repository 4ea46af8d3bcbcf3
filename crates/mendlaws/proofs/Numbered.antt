-- The number of every call, by what becomes of the lines of its text.
-- Rests on AllLines, Calls and ByTests, and on mend's Cleaning and Numbers.
use Rattle.std.proofs.Common.{◌≡◌, ◌∙◌, ap, List, ℕ, arith, ltb, length, lt-ltb}
use mathlib.Core.Bool.{or-true}
use lib.ListN.{length-map}
use Rattle.bus.specs.Event.{Event}
use Rattle.text.specs.Lines.{lines_of, line_count}
use Rattle.mend.specs.Line.{sign_of}
use Rattle.mend.specs.Mend.{clean_of}
use Rattle.mend.proofs.Cleaning.{one_longer_at_most}
use Rattle.mend.proofs.Numbers.{number_answered}
use Rattle.mendlaws.specs.Becomes.{AllBecome}
use Rattle.mendlaws.specs.Promise.{Numbered}
use Rattle.mendlaws.proofs.AllLines.{all_only}
use Rattle.mendlaws.proofs.Calls.{refused_with}
use Rattle.mendlaws.proofs.ByTests.{long_text, long_clean, by_room, no_refusal}

of_lines : (text : List ℕ) {ss cs : List ℕ} {es : List Event} → AllBecome (lines_of text) ss cs es
    → (length ss ≡ line_count text) × (cs ≡ clean_of text)
unfolding clean_of
of_lines text all = let k = all_only all in (ap length k.0 ∙ length-map (lines_of text) sign_of, k.1)

pub numbered : (text clean report : List ℕ) {ss cs : List ℕ} {es : List Event} → AllBecome (lines_of text) ss cs es
    → Numbered text clean report cs ss
numbered text clean report all =
    let signs = (of_lines text all).0 in
    let lengths = ap length (of_lines text all).1 in
    record {
      too_long = λ long. refused_with text clean report 6 (long_text text clean report long) (λ e. omega (arith, e));
      clean_too_long = λ long. refused_with text clean report 6 (long_clean text clean report (omega (arith, long, lengths))) (λ e. omega (arith, e));
      no_clean_room = λ short short_clean less.
          refused_with text clean report 7
          (by_room text clean report short (omega (arith, short_clean, lengths)) (rw (lt-ltb (length clean) (length (clean_of text)) (omega (arith, less, lengths)))))
          (λ e. omega (arith, e));
      no_report_room = λ short short_clean less.
          refused_with text clean report 7
          (by_room text clean report short (omega (arith, short_clean, lengths))
          (rw (lt-ltb (length report) (line_count text) (omega (arith, less, signs))) (or-true (ltb (length clean) (length (clean_of text))))))
          (λ e. omega (arith, e));
      accepted = λ short short_clean room room'.
          number_answered text (length clean) (length report)
          ∙ no_refusal text clean report short (omega (arith, short_clean, lengths)) (omega (arith, room, lengths)) (omega (arith, room', signs));
      one_more = omega (arith, one_longer_at_most text, lengths);
    }
