-- The numbers that the table lists are those of the rule, worked out at all 1,024 places.
-- Rests on nothing.
use Rattle.std.proofs.Common.{◌≡◌, refl}
use Rattle.bits.specs.Bit.{bit_of}
use Rattle.bits.specs.Table.{table}
use Rattle.control.specs.Mode.{mode_of, input_of, upper_input, lower_input}
use Rattle.control.specs.Role.{uses_of, free_role, role_of}
use Rattle.table.specs.declared.entries.TheConstants.{ROLES}
use Rattle.table.specs.Entry.{entry_at}

pub listed : ROLES ≡ table entry_at 1024
unfolding bit_of mode_of input_of upper_input lower_input uses_of free_role role_of entry_at
listed = refl
