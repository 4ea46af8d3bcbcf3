-- The lookup of a role ("Port C roles").
use Rattle.std.specs.Prelude.{cond, ◌||◌, ℕ, ltb, Option, Some, None}
use Rattle.control.specs.Role.{Role, input, output, INTR, IBF, OBF, STB, ACK, number, role_of}
use Rattle.control.specs.declared.Role as roles
use Rattle.control.specs.declared.Role.TheVariants.{Input, Output, Intr, Ibf, Obf, Stb, Ack}

-- A lookup with a word below 128 or a pin above 7 answers 255, and any other the number of the pin's role.
unfoldable pub lookup_of : ℕ → ℕ → ℕ
lookup_of w n = cond (ltb w 128 || ltb 7 n) 255 (number (role_of w n))

-- What an answer tells: a role; and the number of the role that there may be, or 255.
abbrev pub role_told : roles.Role → Role
role_told Input = input
role_told Output = output
role_told Intr = INTR
role_told Ibf = IBF
role_told Obf = OBF
role_told Stb = STB
role_told Ack = ACK

abbrev pub number_told : Option roles.Role → ℕ
number_told None = 255
number_told (Some r) = number (role_told r)
