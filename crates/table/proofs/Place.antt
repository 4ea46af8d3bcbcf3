-- The table's place (word - 128) x 8 + pin has the number of the pin's role under the word, for each of the 128 words and 8 pins.
-- Rests on bits' Tabled.
use Rattle.std.proofs.Common.{◌≡◌, ℕ, ◌+◌, ◌-◌, ◌*◌, ◌/◌, ◌%◌, ◌<◌, ◌≤◌, get_or, ◌∙◌, arith}
use Rattle.bits.specs.Table.{table}
use Rattle.bits.proofs.Tabled.{table_at}
use Rattle.control.specs.Role.{number, role_of}
use Rattle.table.specs.Entry.{entry_at}

pub entry_of : (w n : ℕ) → 128 ≤ w → w < 256 → n < 8 → get_or (table entry_at 1024) ((w - 128) * 8 + n) 0 ≡ number (role_of w n)
unfolding entry_at
entry_of w n low high pin =
    let k = (w - 128) * 8 + n in
    let within : k < 1024 = omega arith in
    let word : 128 + k / 8 ≡ w = omega arith in
    let place : k % 8 ≡ n = omega arith in
    table_at entry_at 0 1024 k within ∙ rw (word, place)
