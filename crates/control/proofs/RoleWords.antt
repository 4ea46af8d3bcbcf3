-- Mode words that say the same give each pin the same role.
-- Rests on SameWords and AsByte.
use Rattle.std.proofs.Common.{◌≡◌, ℕ, ◌%◌}
use Rattle.control.specs.declared.Group.TheVariants.{A, B}
use Rattle.control.proofs.SameWords.{SayTheSame}
use Rattle.control.proofs.AsByte.{as_byte}
use Rattle.control.specs.Role.{uses_of, free_role, role_of}

pub same_roles : {v w : ℕ} → SayTheSame v w → (n : ℕ) → role_of v n ≡ role_of w n
unfolding role_of uses_of free_role
same_roles same n = rw (same.mode A, same.mode B, same.input A, same.input B, same.upper, same.lower)

pub role_as_byte : (w n : ℕ) → role_of (w % 256) n ≡ role_of w n
role_as_byte w = same_roles (as_byte w)
