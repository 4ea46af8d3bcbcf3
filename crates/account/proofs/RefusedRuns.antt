-- Which runs are refused, and what they leave, whatever device answers.
-- Rests on RunNumbers.
use Rattle.std.proofs.Common.{◌≡◌, List, ℕ, length}
use Rattle.script.specs.Answers.{Answerer}
use Rattle.script.specs.Run.{run_number, width_of}
use Rattle.account.specs.AnyDevice.{LeavesAll, RefusedByLength}
use Rattle.account.proofs.RunNumbers.{number_too_long, number_no_room, told_too_long, told_no_room}

module _ {S : Type 0} (a : Answerer S) (s : S) (text out : List ℕ) where
  abbrev width : ℕ
  width = width_of a s

  left_at_6 : run_number width text (length out) ≡ 6 → LeavesAll a s text out
  left_at_6 e = record { output = rw e; subject = rw e }

  left_at_7 : run_number width text (length out) ≡ 7 → LeavesAll a s text out
  left_at_7 e = record { output = rw e; subject = rw e }

  pub refused_by_length : RefusedByLength a s text out
  refused_by_length = record {
    too_long = λ long. record {
      told = told_too_long width text (length out) long;
      leaves = left_at_6 (number_too_long width text (length out) long);
    };
    no_room = λ short less. record {
      told = told_no_room width text (length out) short less;
      leaves = left_at_7 (number_no_room width text (length out) short less);
    };
  }
