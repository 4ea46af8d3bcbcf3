-- What a mode word and a reset leave.
-- Rests on ModeWords, and on chip's Ends.
use Rattle.std.proofs.Common.{◌≡◌, refl, Bool, true, false, cond, ℕ, eqb}
use Rattle.bits.specs.Bit.{bit_of, value_of}
use Rattle.bus.specs.Kinds.{is_kind}
use Rattle.bus.specs.Device.{step_in}
use Rattle.bus.specs.Refusals.{number_of}
use Rattle.bus.specs.declared.Phase.TheVariants.{Writing}
use Rattle.control.specs.declared.Group.{Group}
use Rattle.control.specs.declared.Group.TheVariants.{A, B}
use Rattle.control.specs.Mode.{mode_of, input_of, upper_input, lower_input, strobed_input, output_of}
use Rattle.control.specs.Role.{uses_of, free_role, role_of}
use Rattle.chip.specs.declared.Chip.{Chip}
use Rattle.chip.specs.State.{port_of}
use Rattle.chip.specs.ModeWord.{cleared_port, after_mode_word}
use Rattle.chip.specs.Reads.{read_port}
use Rattle.chip.specs.Pins.{drives_port, pins_of_port, pins_of_lines, pins_of}
use Rattle.chip.specs.Step.{step_of}
use Rattle.chip.proofs.Ends.{write_ends}
use Rattle.laws.specs.Anew.{Obeyed, AllInputs}
use Rattle.laws.proofs.ModeWords.{anew, mode_write, reset_roles}
use Rattle.laws.proofs.mode_words_and_resets_make_the_chip_anew.Goals as goal

mode_word_renews : (c : Chip) (w x d : ℕ) → c.phase ≡ Writing 3 w → bit_of w 7 ≡ true → Obeyed c w (step_of c 2 x d)
mode_word_renews c w x d phase set =
    rw (write_ends c 3 w x d phase, mode_write c.core w set)
    (record { bus = record { taken = refl; silent = refl; idle = refl }; core = anew c.core w })

-- A reset, in any phase.
reset_renews : (c : Chip) (x d : ℕ) → Obeyed c 0x9b (step_of c 0 x d)
unfolding step_of step_in number_of is_kind
reset_renews c x d = record { bus = record { taken = refl; silent = refl; idle = refl }; core = anew c.core 0x9b }

reset_drives_nothing : (c : Chip) (x d p : ℕ) → (pins_of (step_of c 0 x d).state p).driven ≡ 0
unfolding step_of step_in number_of is_kind after_mode_word pins_of pins_of_port pins_of_lines drives_port output_of mode_of input_of role_of uses_of free_role upper_input lower_input bit_of value_of
reset_drives_nothing c x d p = go (eqb p 0) (eqb p 1) (eqb p 2)
  where
    go : (a b l : Bool)
        → (cond a (pins_of_port (step_of c 0 x d).state.core.a (drives_port (step_of c 0 x d).state.core A))
        (cond b (pins_of_port (step_of c 0 x d).state.core.b (drives_port (step_of c 0 x d).state.core B))
        (cond l (pins_of_lines (step_of c 0 x d).state) (record { levels = 0; driven = 0 })))).driven ≡ 0
    go true b l = refl
    go false true l = refl
    go false false true = refl
    go false false false = refl

reset_reads_outside : (c : Chip) (x d : ℕ) (g : Group) → read_port 0x9b g (port_of (step_of c 0 x d).state.core g) ≡ (port_of c.core g).outside
unfolding step_of step_in number_of is_kind after_mode_word cleared_port read_port strobed_input output_of mode_of input_of bit_of
reset_reads_outside c x d A = refl
reset_reads_outside c x d B = refl

all_inputs : (c : Chip) (x d : ℕ) → AllInputs c (step_of c 0 x d).state
all_inputs c x d = record { roles = reset_roles; driven = reset_drives_nothing c x d; reads = reset_reads_outside c x d }

pub returns : goal.returns
returns c = record { mode_word = mode_word_renews; reset = reset_renews; inputs = all_inputs }
