-- `first::base` meets its contract: fewer than four digits write no base, and four of them two bytes, if any.
-- Rests on text's Said and on RackLeading.
use Rattle.std.proofs.Common.{rules, ◌≡◌, ◌<◌, arith}
use Rattle.text.specs.Digits.{no_byte}
use Rattle.text.specs.Frames.{leading_byte}
use Rattle.text.proofs.Said.{byte_there, none_there}
use Rattle.script.proofs.RackLeading.{few, no_high, no_low, both_bytes}
use Rattle.script.proofs.racks.first.base.Goals as goal
use Rattle.script.proofs.racks.first.base.Goals.{In_ok-byte_at}

-- The first of the bytes, once it is read.
high : (c : goal.In_ok-byte_at) → (c.in_ok-byte_at.field-0 ≡ leading_byte c.args.digits.now) × (leading_byte c.args.digits.now < no_byte)
high c = byte_there _ c.in_ok-byte_at.ensures

pub returns-then-digits-lt-BASE_DIGITS : goal.returns-then-digits-lt-BASE_DIGITS
returns-then-digits-lt-BASE_DIGITS c = few c.args.digits.now (omega arith)

pub returns-in_err-byte_at : goal.returns-in_err-byte_at
returns-in_err-byte_at c =
    let none = no_high c.args.digits.now (omega arith) (none_there no_byte _ (search rules)) in
    search (rules, none)

pub returns-in_err-byte_at-2 : goal.returns-in_err-byte_at-2
returns-in_err-byte_at-2 c =
    let first = high (goal.at.returns-in_err-byte_at-2 c).In_ok-byte_at in
    let none = no_low c.args.digits.now (omega arith) first.1 (none_there no_byte _ (search rules)) in
    search (rules, none)

pub returns : goal.returns
returns c =
    let first = high (goal.at.returns c).In_ok-byte_at in
    let second = byte_there _ c.in_ok-byte_at-2.ensures in
    let both = both_bytes c.args.digits.now (omega arith) first.1 second.1 in
    omega (arith, c.from_be_bytes.ensures, first.0, second.0, both)
