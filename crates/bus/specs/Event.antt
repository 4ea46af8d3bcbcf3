-- An event as a device takes it ("Events and numbers").
use Rattle.std.specs.Prelude.{ℕ}

-- A kind and two operands, whatever their numbers.
pub record Event : Type 0 where
  pub kind : ℕ
  pub first : ℕ
  pub second : ℕ

-- It, by its three numbers.
abbrev pub event : ℕ → ℕ → ℕ → Event
event k x d = record { kind = k; first = x; second = d }
