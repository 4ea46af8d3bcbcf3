-- Two digits that write a byte are read as that byte.
-- Rests on bits' Tested.
use Rattle.std.proofs.Common.{◌≡◌, ℕ, ◌/◌, ◌<◌}
use Rattle.bits.proofs.Tested.{numbers}
use Rattle.text.specs.Digits.{no_byte, digit_value, digit_code, pair_value}

pub pair_written : (v : ℕ) → v < no_byte → pair_value (digit_code (v / 16)) (digit_code v) ≡ v
unfolding pair_value digit_code digit_value
pair_written v h = numbers no_byte (λ v. pair_value (digit_code (v / 16)) (digit_code v)) (λ v. v) tt v h
