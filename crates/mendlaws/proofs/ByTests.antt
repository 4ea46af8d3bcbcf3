-- The number of a call, test by test.
-- Rests on Calls.
use Rattle.std.proofs.Common.{◌≡◌, true, ◌||◌, List, ℕ, ◌<◌, ◌≤◌, ltb, length, lt-ltb, le-ltb}
use mathlib.Core.Bool.{or-true}
use Rattle.text.specs.Lines.{line_count}
use Rattle.script.specs.Run.{longest_script, too_long}
use Rattle.mend.specs.Mend.{clean_of, mend_number}
use Rattle.mendlaws.proofs.Calls.{number}

module _ (text clean report : List ℕ) where
  pub long_text : longest_script < length text → number text clean report ≡ 6
  unfolding mend_number
  long_text long = rw (lt-ltb _ _ long)

  pub long_clean : longest_script < length (clean_of text) → number text clean report ≡ 6
  unfolding mend_number
  long_clean long = rw (lt-ltb longest_script (length (clean_of text)) long, or-true (too_long text))

  module _ (short : length text ≤ longest_script) (short_clean : length (clean_of text) ≤ longest_script) where
    pub by_room : (ltb (length clean) (length (clean_of text)) || ltb (length report) (line_count text)) ≡ true → number text clean report ≡ 7
    unfolding mend_number
    by_room less = rw (le-ltb _ _ short, le-ltb _ _ short_clean, less)

    pub no_refusal : length (clean_of text) ≤ length clean → line_count text ≤ length report → number text clean report ≡ 0
    unfolding mend_number
    no_refusal room room' = rw (le-ltb _ _ short, le-ltb _ _ short_clean, le-ltb _ _ room, le-ltb _ _ room')
