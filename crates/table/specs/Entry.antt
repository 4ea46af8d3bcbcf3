-- The published table of roles ("Port C roles").
use Rattle.std.specs.Prelude.{ℕ, ◌+◌, ◌/◌, ◌%◌}
use Rattle.control.specs.Role.{number, role_of}

-- Entry (word - 128) x 8 + pin is the number of the pin's role under the word.
unfoldable pub entry_at : ℕ → ℕ
entry_at k = number (role_of (128 + k / 8) (k % 8))
