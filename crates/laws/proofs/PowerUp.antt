-- The chip at power-up, of either edition and under any outside levels: what it shows, and how the lines of its handshakes start ("State").
-- Rests on ChannelPins and ModeWords.
use Rattle.std.proofs.Common.{◌≡◌, ◌∙◌, refl, ap, sym, subst, true, ◌++◌, ℕ}
use Rattle.bits.specs.Bit.{bit_of, value_of}
use Rattle.bus.specs.Kinds.{is_kind}
use Rattle.bus.specs.Histories.{levels, write}
use Rattle.bus.specs.Device.{step_in}
use Rattle.bus.specs.Refusals.{number_of}
use Rattle.bus.specs.declared.Phase.TheVariants.{Writing}
use Rattle.control.specs.declared.Group.{Group}
use Rattle.control.specs.declared.Group.TheVariants.{A, B}
use Rattle.control.specs.Mode.{mode_of, input_of, upper_input, lower_input, strobed_input, strobed_output, output_of}
use Rattle.control.specs.Role.{uses_of, free_role, role_of}
use Rattle.chip.specs.declared.channel.Side.{Side}
use Rattle.chip.specs.declared.channel.Side.TheVariants.{Input, Output}
use Rattle.chip.specs.Moves.{after_clear}
use Rattle.chip.specs.declared.Edition.{Edition}
use Rattle.chip.specs.declared.Chip.{Chip}
use Rattle.chip.specs.declared.Levels.{Levels}
use Rattle.chip.specs.State.{no_tally, no_byte, power_up_as, channel_of}
use Rattle.chip.specs.Handshakes.{strobed, line_pin}
use Rattle.chip.specs.ModeWord.{cleared_port, after_mode_word}
use Rattle.chip.specs.Levels.{edged, after_levels_on_c, port_after_levels, after_levels}
use Rattle.chip.specs.Pins.{level_as, drives_port, pins_of_port, pins_of_lines, pins_of}
use Rattle.chip.specs.Step.{accepted, step_of}
use Rattle.laws.specs.Anew.{Anew}
use Rattle.laws.specs.PowerUp.{AsNamed, Starts}
use Rattle.laws.specs.Marked.{after}
use Rattle.laws.proofs.ChannelPins.{pin_by_role, line_pin_lem}
use Rattle.laws.proofs.ModeWords.{word_renews, reset_roles}

-- Each port shows the levels that were named for it, and nothing is driven.
pub power_up_shows : (ed : Edition) (l : Levels) → AsNamed l (power_up_as ed l)
unfolding pins_of pins_of_port pins_of_lines drives_port output_of mode_of input_of role_of uses_of free_role upper_input lower_input bit_of value_of
power_up_shows ed l = record {
  a = refl;
  b = refl;
  lines = λ n small. pin_by_role (power_up_as ed l) n small ∙ ap (level_as (power_up_as ed l) n) (reset_roles n small);
  lines_driven = refl;
}

-- A reset right after a power-up changes nothing: it goes back to what the chip was then, in every field.
pub reset_as_power_up : (ed : Edition) (l : Levels) (x d : ℕ) → (step_of (power_up_as ed l) 0 x d).state ≡ power_up_as ed l
unfolding step_of step_in number_of is_kind after_mode_word cleared_port after_clear
reset_as_power_up ed l x d = refl

-- To name levels is to put them on the ports right after a power-up under any others: in mode 0 none of them is an edge, and none goes
-- through to a latch.
pub named_is_put : (ed : Edition) (k l : Levels)
    → (after (accepted (power_up_as ed k) 0) (levels 0 l.a ++ levels 1 l.b ++ levels 2 l.c)).state ≡ power_up_as ed l
unfolding step_of step_in number_of is_kind after_levels after_levels_on_c port_after_levels edged strobed_input strobed_output mode_of input_of bit_of
named_is_put ed k l = refl

-- A mode word finds the lines as they were named, and no byte.
no_byte_yet : (ed : Edition) (l : Levels) (g : Group) (s : Side) → channel_of (power_up_as ed l).core g s ≡ no_byte
no_byte_yet ed l A Input = refl
no_byte_yet ed l A Output = refl
no_byte_yet ed l B Input = refl
no_byte_yet ed l B Output = refl

starts_anew : (ed : Edition) (l : Levels) (w : ℕ) (c : Chip) → Anew (power_up_as ed l).core w c.core → Starts l w c
starts_anew ed l w c anew = record {
  line = λ g s on.
      line_pin_lem c g s (subst (λ (v : ℕ). strobed v g s ≡ true) (sym anew.word) on)
      ∙ ap (λ (d : ℕ). bit_of d (line_pin g s)) anew.lines_levels;
  none = λ g s.
      let tally : (channel_of c.core g s).tally ≡ no_tally = anew.tallies g s ∙ rw (no_byte_yet ed l g s) in
      λ i. record { fill = anew.empty g s i; latch = anew.latches g s i; tally = tally i };
}

pub starts : (ed : Edition) (l : Levels) (w : ℕ) → bit_of w 7 ≡ true → Starts l w (after (accepted (power_up_as ed l) 0) (write 3 w)).state
unfolding step_of step_in number_of is_kind
starts ed l w set =
    let writing : Chip = record { phase = Writing 3 w; edition = ed; core = (power_up_as ed l).core } in
    starts_anew ed l w (step_of writing 2 0 0).state (word_renews writing w 0 0 refl set)
