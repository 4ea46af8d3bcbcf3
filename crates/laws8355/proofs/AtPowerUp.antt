-- A run of a text that begins at power-up, by the account.
-- Rests on Script.
use Rattle.std.proofs.Common.{◌≡◌, List, ℕ, ◌*◌, ◌<◌, ◌≤◌, length, lt-ltb, le-ltb}
use Rattle.text.specs.Lines.{line_count}
use Rattle.script.specs.Run.{run_number}
use Rattle.laws8355.specs.Script.{RunsFromPowerUp}
use Rattle.laws8355.proofs.Script.{answered_by}

module _ (text out : List ℕ) where
  number_too_long : 4096 < length text → run_number 11 text (length out) ≡ 6
  unfolding run_number
  number_too_long long = rw (lt-ltb 4096 (length text) long)

  number_no_room : length text ≤ 4096 → length out < 11 * line_count text → run_number 11 text (length out) ≡ 7
  unfolding run_number
  number_no_room short less = rw (le-ltb 4096 (length text) short, lt-ltb (length out) (11 * line_count text) less)

  number_runs : length text ≤ 4096 → 11 * line_count text ≤ length out → run_number 11 text (length out) ≡ 0
  unfolding run_number
  number_runs short enough = rw (le-ltb 4096 (length text) short, le-ltb (length out) (11 * line_count text) enough)

  pub runs_from_power_up : RunsFromPowerUp text out
  runs_from_power_up = record {
    too_long = λ long. record { told = rw (number_too_long long); output = rw (number_too_long long) };
    no_room = λ short less. record { told = rw (number_no_room short less); output = rw (number_no_room short less) };
    runs = λ short enough. record { told = rw (number_runs short enough); output = rw (number_runs short enough, answered_by text) };
  }
