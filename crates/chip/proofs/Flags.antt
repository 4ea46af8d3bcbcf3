-- The flags of the channels among the pins of port C: the role IBF or OBF is at the pin of a strobed channel, and nowhere else.
-- Rests on bits' Tested, control's RoleWords, StrobedWords and OneChannel.
use Rattle.std.proofs.Common.{◌≡◌, Bool, ◌&&◌, ℕ, ◌%◌, ◌<◌, arith, eqb}
use Rattle.bits.specs.Bit.{bit_of}
use Rattle.bits.proofs.Tested.{bits_of_two}
use Rattle.control.specs.declared.Group.{Group}
use Rattle.control.specs.declared.Group.TheVariants.{A, B}
use Rattle.control.specs.Mode.{mode_of, input_of, upper_input, lower_input, strobed_input, strobed_output}
use Rattle.control.specs.Role.{Role, IBF, OBF, number, uses_of, free_role, role_of}
use Rattle.control.proofs.RoleWords.{role_as_byte}
use Rattle.chip.specs.declared.channel.Side.{Side}
use Rattle.chip.specs.declared.channel.Side.TheVariants.{Input, Output}
use Rattle.chip.specs.Handshakes.{strobed, flag_pin, group_at}
use Rattle.chip.proofs.StrobedWords.{strobed_as_byte}
use Rattle.chip.proofs.OneChannel.{same_group}

-- The role of a channel's flag.
abbrev pub flag_role : Side → Role
flag_role Input = IBF
flag_role Output = OBF

-- A role at pin n is that of the flag of the channel.
abbrev pub is_flag_of : Group → Side → ℕ → Role → Bool
is_flag_of g s n r = eqb (number r) (number (flag_role s)) && same_group (group_at n) g

-- Under the mode word w, pin n is the flag of the channel.
abbrev pub flag_at_pin : ℕ → Group → Side → ℕ → Bool
flag_at_pin w g s n = strobed w g s && eqb n (flag_pin g s)

pub flag_by_role : (w n : ℕ) → n < 8 → (g : Group) (s : Side) → is_flag_of g s n (role_of w n) ≡ flag_at_pin w g s n
unfolding role_of uses_of free_role strobed_input strobed_output mode_of input_of upper_input lower_input bit_of
flag_by_role w n hn g s = rw (← role_as_byte w n, ← strobed_as_byte w g s) (of_byte_lem g s (w % 256) n (omega arith) hn)
  where
    of_byte_lem : (g : Group) (s : Side) (w n : ℕ) → w < 256 → n < 8 → is_flag_of g s n (role_of w n) ≡ flag_at_pin w g s n
    of_byte_lem A Input = bits_of_two 256 8 (λ w n. is_flag_of A Input n (role_of w n)) (λ w n. flag_at_pin w A Input n) tt
    of_byte_lem A Output = bits_of_two 256 8 (λ w n. is_flag_of A Output n (role_of w n)) (λ w n. flag_at_pin w A Output n) tt
    of_byte_lem B Input = bits_of_two 256 8 (λ w n. is_flag_of B Input n (role_of w n)) (λ w n. flag_at_pin w B Input n) tt
    of_byte_lem B Output = bits_of_two 256 8 (λ w n. is_flag_of B Output n (role_of w n)) (λ w n. flag_at_pin w B Output n) tt
