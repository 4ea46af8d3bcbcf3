-- The pins of port C that have certain roles, as a byte with a one at each ("Port C roles").
use Rattle.std.specs.Prelude.{Bool, true, false, cond, [], ◌∷◌, ℕ, get_or}
use Rattle.bits.specs.Bit.{assembled}
use Rattle.control.specs.Role.{Role, input, output, INTR, IBF, OBF, STB, ACK, role_of}

-- Roles of a handshake: all but free input and free output.
abbrev pub is_handshake : Role → Bool
is_handshake input = false
is_handshake output = false
is_handshake INTR = true
is_handshake IBF = true
is_handshake OBF = true
is_handshake STB = true
is_handshake ACK = true

-- The role of a free pin that is an output.
abbrev pub is_output : Role → Bool
is_output input = false
is_output output = true
is_output INTR = false
is_output IBF = false
is_output OBF = false
is_output STB = false
is_output ACK = false

-- The pins that handshakes use under the mode word w.
unfoldable pub handshake_pins : ℕ → ℕ
handshake_pins w = assembled (λ n. is_handshake (role_of w n))

-- The pins that are free outputs under the mode word w.
unfoldable pub output_pins : ℕ → ℕ
output_pins w = assembled (λ n. is_output (role_of w n))

-- The one role that a handshake can give to a pin; of pins 1 and 2, by whether port B is a strobed input.
abbrev pub handshake_role : Bool → ℕ → Role
handshake_role taking n = get_or (INTR ∷ cond taking IBF OBF ∷ cond taking STB ACK ∷ INTR ∷ STB ∷ IBF ∷ ACK ∷ OBF ∷ []) n input
