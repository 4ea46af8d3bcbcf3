-- A run of a text that begins at power-up, by the account.
-- Rests on RunNumbers and Script.
use Rattle.std.proofs.Common.{List, ℕ, length}
use Rattle.chip.specs.declared.Edition.{Edition}
use Rattle.account.specs.AtPowerUp.{RunsFromPowerUp}
use Rattle.account.proofs.RunNumbers.{lines_counted, number_too_long, number_no_room, number_runs, told_too_long, told_no_room, told_runs}
use Rattle.account.proofs.Script.{answered_by}

module _ (ed : Edition) (text out : List ℕ) where
  abbrev room : ℕ
  room = length out

  pub runs_from_power_up : RunsFromPowerUp ed text out
  runs_from_power_up = record {
    too_long = λ long. record { told = told_too_long 11 text room long; output = rw (number_too_long 11 text room long) };
    no_room = λ short less. record { told = told_no_room 11 text room short less; output = rw (number_no_room 11 text room short less) };
    runs = λ short enough. record {
      told = told_runs 11 text room short enough;
      output = rw (number_runs 11 text room short enough, answered_by ed text, lines_counted text);
    };
  }
