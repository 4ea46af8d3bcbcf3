-- A byte as the sum of its bits, for those who say what a history shows apart from the devices.
use Rattle.std.specs.Prelude.{Bool, ℕ, ◌+◌, ◌*◌}
use Rattle.bits.specs.Bit.{num}

-- The byte of eight bits.
abbrev pub byte_by : (ℕ → Bool) → ℕ
byte_by f =
    num (f 0) + 2 * num (f 1) + 4 * num (f 2) + 8 * num (f 3) + 16 * num (f 4) + 32 * num (f 5) + 64 * num (f 6) + 128 * num (f 7)
