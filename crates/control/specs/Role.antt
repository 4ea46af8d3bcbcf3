-- The roles of the port C pins, by mode and pin ("Port C roles").
use Rattle.std.specs.Prelude.{Bool, cond, List, [], ◌∷◌, ◌++◌, ℕ, eqb, ltb, get_or}
use Rattle.control.specs.declared.Group.{Group}
use Rattle.control.specs.declared.Group.TheVariants.{A, B}
use Rattle.control.specs.Mode.{mode_of, input_of, upper_input, lower_input}

-- What a pin of port C can be.
pub data Role : Type 0 where
  input output INTR IBF OBF STB ACK : Role

-- The roles' numbers.
abbrev pub number : Role → ℕ
number input = 0
number output = 1
number INTR = 2
number IBF = 3
number OBF = 4
number STB = 5
number ACK = 6

-- A pin that a handshake uses, and the role it has there.
pub record Use : Type 0 where
  pub pin : ℕ
  pub role : Role

-- Pin n in role r.
infixl 70 ◌is◌
abbrev pub ◌is◌ : ℕ → Role → Use
n is r = record { pin = n; role = r }

-- The pins that a group's handshake uses, by its mode: none in mode 0, three in mode 1, by the direction of its port, and five
-- in mode 2, which group A alone has.
unfoldable pub uses_of : ℕ → Group → List Use
uses_of w A =
    get_or
    ([]
    ∷ cond (input_of w A) (3 is INTR ∷ 4 is STB ∷ 5 is IBF ∷ []) (3 is INTR ∷ 6 is ACK ∷ 7 is OBF ∷ [])
    ∷ (3 is INTR ∷ 4 is STB ∷ 5 is IBF ∷ 6 is ACK ∷ 7 is OBF ∷ [])
    ∷ [])
    (mode_of w A) []
uses_of w B =
    get_or
    ([]
    ∷ cond (input_of w B) (0 is INTR ∷ 1 is IBF ∷ 2 is STB ∷ []) (0 is INTR ∷ 1 is OBF ∷ 2 is ACK ∷ [])
    ∷ [])
    (mode_of w B) []

-- Pins 3 to 0 are the lower half of port C, and 7 to 4 the upper ("Mode words").
abbrev pub in_lower_half : ℕ → Bool
in_lower_half n = ltb n 4

-- Any other pin is free: the upper half follows bit 3, and the lower bit 0.
unfoldable pub free_role : ℕ → ℕ → Role
free_role w n = cond (cond (in_lower_half n) (lower_input w) (upper_input w)) input output

-- The role that a list of uses gives to pin n, or else the other.
abbrev pub role_among : List Use → ℕ → Role → Role
role_among [] n other = other
role_among (u ∷ us) n other = cond (eqb u.pin n) u.role (role_among us n other)

-- The role of pin n under the mode word w.
unfoldable pub role_of : ℕ → ℕ → Role
role_of w n = role_among (uses_of w A ++ uses_of w B) n (free_role w n)
