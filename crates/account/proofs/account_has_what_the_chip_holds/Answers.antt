-- The account has what the chip holds.
-- Rests on Holds.
use Rattle.std.proofs.Common.{ℕ}
use Rattle.control.specs.declared.Group.{Group}
use Rattle.account.specs.Account.{Account}
use Rattle.account.specs.Holds.{WriteRuns, PortTakes}
use Rattle.account.proofs.Holds.{holds_from_power_up, holds_from_chip, port_takes}
use Rattle.account.proofs.account_has_what_the_chip_holds.Goals as goal

writes : (a : Account) (g : Group) (b x d : ℕ) → WriteRuns a g b → PortTakes a g b x d
writes a g b x d = port_takes a b x d g

pub returns : goal.returns
returns c = record { power_up = holds_from_power_up; any_chip = holds_from_chip; writes = writes }
