-- The contracts of the public functions leave no choice. Rests on bits' Determined.
use Rattle.std.proofs.Common.{◌≡◌, ◌∙◌, refl, ap, sym, [], ◌∷◌, ℕ, get_or, Option, Some, None}
use Rattle.bits.proofs.Determined.{Determines, equation_determines}
use Rattle.control.specs.declared.mode.Mode.{Mode}
use Rattle.control.specs.declared.mode.Mode.TheVariants.{Zero, One, Two}
use Rattle.control.specs.Mode.{mode_number}
use Rattle.control.specs.declared.Role.{Role}
use Rattle.control.specs.declared.Role.TheVariants.{Input, Output, Intr, Ibf, Obf, Stb, Ack}
use Rattle.control.specs.Lookup.{number_told}
use Rattle.control.specs.contracts as control_says
use Rattle.control.proofs as control

pub numbered_determined : Determines control_says.Group.numbered.ended control.Group.numbered.Reads.Learnt
numbered_determined c x y = equation_determines

-- Two modes with one number are one mode: a number has its mode back.
abbrev numbered : ℕ → Mode
numbered k = get_or (Zero ∷ One ∷ Two ∷ []) k Zero

numbered_back : (m : Mode) → numbered (mode_number m) ≡ m
numbered_back Zero = refl
numbered_back One = refl
numbered_back Two = refl

pub mode_one : (m n : Mode) → mode_number m ≡ mode_number n → m ≡ n
mode_one m n e = sym (numbered_back m) ∙ ap numbered e ∙ numbered_back n

pub of_determined : Determines control_says.mode.Mode.of.ended control.mode.Mode.of.Reads.Learnt
of_determined c x y p q = equation_determines (mode_one x.0 y.0 (p ∙ sym q)) refl

pub directions_determined : Determines control_says.mode.directions.ended control.mode.directions.Reads.Learnt
directions_determined c x y = equation_determines

pub strobed_input_determined : Determines control_says.mode.strobed_input.ended control.mode.strobed_input.Reads.Learnt
strobed_input_determined c x y = equation_determines

pub strobed_output_determined : Determines control_says.mode.strobed_output.ended control.mode.strobed_output.Reads.Learnt
strobed_output_determined c x y = equation_determines

pub output_determined : Determines control_says.mode.output.ended control.mode.output.Reads.Learnt
output_determined c x y = equation_determines

pub handshake_determined : Determines control_says.roles.handshake.ended control.roles.handshake.Reads.Learnt
handshake_determined c x y = equation_determines

pub outputs_determined : Determines control_says.roles.outputs.ended control.roles.outputs.Reads.Learnt
outputs_determined c x y = equation_determines

pub role_determined : Determines control_says.lookup.role.ended control.lookup.role.Reads.Learnt
role_determined c x y = equation_determines

-- The role that has a number, or none; and an answer is that of the number that it tells.
abbrev role_numbered : ℕ → Option Role
role_numbered n = get_or (Some Input ∷ Some Output ∷ Some Intr ∷ Some Ibf ∷ Some Obf ∷ Some Stb ∷ Some Ack ∷ []) n None

told_so : (r : Option Role) → r ≡ role_numbered (number_told r)
told_so None = refl
told_so (Some Input) = refl
told_so (Some Output) = refl
told_so (Some Intr) = refl
told_so (Some Ibf) = refl
told_so (Some Obf) = refl
told_so (Some Stb) = refl
told_so (Some Ack) = refl

pub role_of_determined : Determines control_says.Role.of.ended control.Role.of.Reads.Learnt
role_of_determined c x y p q =
    equation_determines (told_so x.0 ∙ ap role_numbered p) (told_so y.0 ∙ ap role_numbered q)

pub row_determined : Determines control_says.chart.row.ended control.chart.row.Reads.Learnt
row_determined c x y = equation_determines

pub control_determined : Determines control_says.word.Control.of.ended control.word.Control.of.Reads.Learnt
control_determined c x y = equation_determines
