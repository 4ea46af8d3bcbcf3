-- What is seen before and after levels on port C, computed by the account, without a chip.
-- Rests on the account.
use Rattle.std.proofs.Common.{◌≡◌, List, [], ◌∷◌, ◌++◌, ℕ}
use Rattle.bits.specs.Bit.{bit_of, value_of}
use Rattle.bus.specs.Event.{Event}
use Rattle.bus.specs.Histories.{levels}
use Rattle.chip.specs.declared.Edition.TheVariants.{Older}
use Rattle.chip.specs.State.{all_high}
use Rattle.account.specs.Account.{opened}
use Rattle.account.specs.Views.{levels_shown, mask_shown, read_answer}
use Rattle.account.specs.Promise.{over}
use Rattle.account.proofs.Account.{account}
use Rattle.groups.specs.Lines.{sight_after, at_work, LinesInNumbers}

-- What is seen of a port, by the account.
abbrev shown : List Event → ℕ → List ℕ
shown es p = let a = over (opened Older all_high) es in levels_shown a p ∷ mask_shown a p ∷ read_answer a p ∷ []

by_account : (es : List Event) → sight_after es ≡ record { port_a = shown es 0; port_b = shown es 1; port_c = shown es 2 }
by_account es =
    let k = account Older all_high es in
    cc (k.levels 0, k.driven 0, k.reads 0, k.levels 1, k.driven 1, k.reads 1, k.levels 2, k.driven 2, k.reads 2)

pub lines_in_numbers : LinesInNumbers
unfolding bit_of value_of
lines_in_numbers = record { first = by_account at_work; taken = by_account (at_work ++ levels 2 0xf8); strobed = by_account (at_work ++ levels 2 0x0f) }
