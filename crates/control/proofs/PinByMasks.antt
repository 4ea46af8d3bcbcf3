-- The role of a pin can be read off the two masks: what stands above need not ask for a role pin by pin ("Port C roles").
-- Rests on bits' Tested and BitLaws.
use Rattle.std.proofs.Common.{◌≡◌, ◌∙◌, refl, ap, sym, Bool, true, false, cond, ◌||◌, ltb, ltb-false, arith, [], ◌∷◌, ℕ, ◌<◌, get_or}
use Rattle.std.proofs.Math.Bool.{or-true}
use Rattle.bits.specs.Bit.{bit_of}
use Rattle.control.specs.Lookup.{lookup_of}
use Rattle.bits.proofs.Tested.{numbers_of_two}
use Rattle.bits.proofs.BitLaws.{bit_of_assembled}
use Rattle.control.specs.declared.Group.TheVariants.{B}
use Rattle.control.specs.Mode.{mode_of, input_of, upper_input, lower_input, strobed_input}
use Rattle.control.specs.Role.{Role, input, output, INTR, IBF, OBF, STB, ACK, number, uses_of, free_role, role_of}
use Rattle.control.specs.Pins.{is_handshake, is_output, handshake_pins, output_pins, handshake_role}

-- Two roles with one number are one role: a number has its role back.
abbrev numbered : ℕ → Role
numbered k = get_or (input ∷ output ∷ INTR ∷ IBF ∷ OBF ∷ STB ∷ ACK ∷ []) k input

numbered_back : (r : Role) → numbered (number r) ≡ r
numbered_back input = refl
numbered_back output = refl
numbered_back INTR = refl
numbered_back IBF = refl
numbered_back OBF = refl
numbered_back STB = refl
numbered_back ACK = refl

pub number_one : (r s : Role) → number r ≡ number s → r ≡ s
number_one r s e = sym (numbered_back r) ∙ ap numbered e ∙ numbered_back s

-- A pin in its handshake's role, or free.
abbrev pub sorted : Bool → Bool → Bool → ℕ → Role
sorted used out taking n = cond used (handshake_role taking n) (cond out output input)

sorted_by_role : (w n : ℕ) → w < 256 → n < 8 → role_of w n ≡ sorted (is_handshake (role_of w n)) (is_output (role_of w n)) (strobed_input w B) n
unfolding role_of uses_of free_role strobed_input mode_of input_of upper_input lower_input bit_of
sorted_by_role w n hw hn =
    number_one (role_of w n) (sorted (is_handshake (role_of w n)) (is_output (role_of w n)) (strobed_input w B) n)
    (numbers_of_two 256 8 (λ w n. number (role_of w n))
    (λ w n. number (sorted (is_handshake (role_of w n)) (is_output (role_of w n)) (strobed_input w B) n)) tt w n hw hn)

-- What the masks say of a pin.
pub bit_of_handshake : (w n : ℕ) → n < 8 → bit_of (handshake_pins w) n ≡ is_handshake (role_of w n)
unfolding handshake_pins
bit_of_handshake w = bit_of_assembled (λ n. is_handshake (role_of w n))

pub bit_of_outputs : (w n : ℕ) → n < 8 → bit_of (output_pins w) n ≡ is_output (role_of w n)
unfolding output_pins
bit_of_outputs w = bit_of_assembled (λ n. is_output (role_of w n))

pub role_by_masks : (w n : ℕ) → w < 256 → n < 8
    → role_of w n ≡ sorted (bit_of (handshake_pins w) n) (bit_of (output_pins w) n) (strobed_input w B) n
role_by_masks w n hw hn = rw (bit_of_handshake w n hn, bit_of_outputs w n hn) (sorted_by_role w n hw hn)

-- So a lookup is worked out from them.
number_of_sorted : (used out taking : Bool) (n : ℕ) → number (sorted used out taking n) ≡ cond used (number (handshake_role taking n)) (cond out 1 0)
number_of_sorted true out taking n = refl
number_of_sorted false true taking n = refl
number_of_sorted false false taking n = refl

abbrev by_masks : ℕ → ℕ → ℕ
by_masks w n = cond (bit_of (handshake_pins w) n) (number (handshake_role (strobed_input w B) n)) (cond (bit_of (output_pins w) n) 1 0)

pub lookup_by_masks : (w n : ℕ) → w < 256 → lookup_of w n ≡ cond (ltb w 128 || ltb 7 n) 255 (by_masks w n)
unfolding lookup_of
lookup_by_masks w n hw = go (ltb 7 n) refl
  where
    go : (t : Bool) → ltb 7 n ≡ t → lookup_of w n ≡ cond (ltb w 128 || ltb 7 n) 255 (by_masks w n)
    go true above = rw (above, or-true) refl
    go false below = rw (role_by_masks w n hw (omega (arith, ltb-false 7 n below)), number_of_sorted)
