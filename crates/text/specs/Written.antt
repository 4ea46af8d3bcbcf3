-- An event written out as a line of a script ("Script and program").
use Rattle.std.specs.Prelude.{◌≡◌, true, List, [], ◌++◌, ℕ, zero, suc, ◌<◌}
use Rattle.bus.specs.Kinds.{is_kind, operands_of}
use Rattle.bus.specs.Event.{Event}
use Rattle.text.specs.Digits.{in_digits, no_byte}

-- The first n of two operands.
abbrev pub operands_out : ℕ → ℕ → ℕ → List ℕ
operands_out zero x d = []
operands_out (suc zero) x d = in_digits x
operands_out (suc (suc n)) x d = in_digits x ++ in_digits d

-- The kind, and just the operands that the kind has, two digits each. The LF is not part of it.
unfoldable pub written_out : Event → List ℕ
written_out e = in_digits e.kind ++ operands_out (operands_of e.kind) e.first e.second

-- An event that a line can say: there is such a kind, its operands are bytes, and those that the kind lacks are 0.
pub record Exact (e : Event) : Type 0 where
  pub known : is_kind e.kind ≡ true
  pub first_byte : e.first < no_byte
  pub second_byte : e.second < no_byte
  pub no_first : operands_of e.kind ≡ 0 → e.first ≡ 0
  pub no_second : operands_of e.kind < 2 → e.second ≡ 0
