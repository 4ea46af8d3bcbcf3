-- The latches of ports A and B, IBF, the byte that a read was given, and OBF go on as the account says.
-- Rests on Columns, ByAct, Moves, bits' Logic, control's Strobed, chip's ConditionsLeft, OnPort, Flags, SettingsAfter,
-- ReadsAfter and LevelsAfter, and fates' PinNamed and Tables.
use Rattle.std.proofs.Common.{◌≡◌, refl, ap, sym, Bool, true, false, cond, not, ◌&&◌, ℕ, ◌/◌, ◌%◌, eqb, eqb-true}
use mathlib.Core.Bool.{and-false, and-true}
use Rattle.bits.specs.Bit.{bit_of}
use Rattle.bits.proofs.Logic.{turned}
use Rattle.bus.specs.Event.{Event}
use Rattle.control.specs.declared.Group.{Group}
use Rattle.control.specs.declared.Group.TheVariants.{A, B}
use Rattle.control.specs.Mode.{strobed_input, strobed_output, output_of}
use Rattle.control.proofs.Strobed.{giving_is_output}
use Rattle.chip.specs.declared.channel.Side.{Side}
use Rattle.chip.specs.declared.channel.Side.TheVariants.{Input, Output}
use Rattle.chip.specs.declared.channel.Fill.TheVariants.{Empty, Fetching}
use Rattle.chip.specs.Moves.{after_force}
use Rattle.chip.proofs.ConditionsLeft.{clear_empties, clear_zeroes}
use Rattle.chip.specs.declared.Port.{Port}
use Rattle.chip.specs.declared.Core.{Core}
use Rattle.chip.specs.declared.Chip.{Chip}
use Rattle.chip.specs.State.{port_of, channel_of}
use Rattle.chip.specs.Handshakes.{own_address, line_pin, flag_pin}
use Rattle.chip.proofs.OnPort.{lines_not_own, control_not_own, port_on}
use Rattle.chip.specs.ControlWord.{after_control_word}
use Rattle.chip.proofs.Flags.{flag_at_pin}
use Rattle.chip.proofs.SettingsAfter.{mode_word_channel, bit_put}
use Rattle.chip.proofs.ReadsAfter.{begun_input, begun_output, ended_input, ended_output}
use Rattle.chip.specs.Write.{stored_by}
use Rattle.chip.specs.Levels.{fallen, line_falls, lets_through}
use Rattle.chip.proofs.LevelsAfter.{levels_input, levels_output}
use Rattle.chip.specs.Step.{stepped}
use Rattle.fates.specs.Effects.{levels_on}
use Rattle.fates.proofs.PinNamed.{pin_same}
use Rattle.fates.proofs.Tables.{own_same, line_same, full_same}
use Rattle.account.specs.Acts.{act}
use Rattle.account.specs.Account.{strobed, forces, output_after, input_after, ibf_after, given_after, obf_after}
use Rattle.account.specs.Promise.{surroundings_here}
use Rattle.account.proofs.Columns.{takes_here, gives_here, keeps_here}
use Rattle.account.proofs.ByAct.{latched, by_act}
use Rattle.account.proofs.Moves.{full, vacant, given, written_input, written_latch, written_vacant, begun_full, ended_full, begun_given, ended_given, forced_full, forced_vacant, forced_given, forced_latch, handed_latch, ended_latch, under_latch, under_full, under_given, taken_vacant}

pub outside_here : (c : Chip) (g : Group) → levels_on g (surroundings_here c) ≡ (port_of c.core g).outside
outside_here c A = refl
outside_here c B = refl

latched_port : (c : Core) (d : ℕ) (g : Group) → port_of (latched c d) g ≡ port_of c g
latched_port c d A = refl
latched_port c d B = refl

module _ (c : Chip) (g : Group) where
  abbrev core : Core
  core = c.core

  abbrev w : ℕ
  w = core.word

  -- Bit set/reset forces the flag that it names.
  abbrev named : Side → ℕ → Bool
  named s d = flag_at_pin w g s (d / 2 % 8)

  put : (s : Side) (d : ℕ) → bit_of d 7 ≡ false
      → channel_of (after_control_word core d) g s ≡ cond (named s d) (after_force s (bit_of d 0) (channel_of core g s)) (channel_of core g s)
  put s d seven = (bit_put core d seven).channel g s

  -- In the account's words.
  named_same : (s : Side) (x d : ℕ) → eqb x 3 ≡ true → forces (surroundings_here c) g s x d ≡ named s d
  named_same Input x d three = rw (takes_here w g, three, pin_same d, full_same g Input, turned (flag_pin g Input) (d / 2 % 8))
  named_same Output x d three = rw (gives_here w g, three, pin_same d, full_same g Output, turned (flag_pin g Output) (d / 2 % 8))

  -- No other write forces a flag.
  unforced : (s : Side) (x d : ℕ) → eqb x 3 ≡ false → forces (surroundings_here c) g s x d ≡ false
  unforced s x d other = rw (other) (and-false (strobed (surroundings_here c) g s))

  two_not_three : (x : ℕ) → eqb x 2 ≡ true → eqb x 3 ≡ false
  two_not_three x two = rw (eqb-true x 2 two)

  abbrev storing : ℕ → Group → Port → Port
  storing d g p = stored_by p w g d

  pub output_next : (e : Event)
      → (channel_of (stepped c e).state.core g Output).latch ≡ output_after (surroundings_here c) g (channel_of core g Output).latch (act (surroundings_here c) e)
  unfolding stored_by
  output_next =
      by_act (λ c' t. (channel_of c' g Output).latch ≡ output_after (surroundings_here c) g (channel_of core g Output).latch t) c (record {
        at_rest = refl;
        made_anew = λ v. rw (mode_word_channel core v g Output) (clear_zeroes (channel_of core g Output));
        read_starts = λ x. rw (begun_output core x g);
        read_over = λ x. rw (ended_output core x g);
        write_starts = λ x. refl;
        pin_put = λ x d three seven. rw (put Output d seven, own_same x g, control_not_own x three g) (forced_latch (channel_of core g Output) Output (named Output d) (bit_of d 0));
        lines_written = λ x d two. rw (latched_port core d g, own_same x g, lines_not_own x two g);
        port_written = λ x d two three. rw (port_on core x (storing d) g, own_same x g, keeps_here w g)
            (written_latch (port_of core g) d (own_address x g) (output_of w g) (strobed_output w g));
        levels_put = λ x d. rw (levels_output core x d g) (handed_latch (channel_of core g Output) Empty (eqb x 2 && line_falls core d g Output));
      })

  pub obf_next : (e : Event)
      → vacant (channel_of (stepped c e).state.core g Output) ≡ obf_after (surroundings_here c) g (vacant (channel_of core g Output)) (act (surroundings_here c) e)
  unfolding stored_by fallen
  obf_next =
      by_act (λ c' t. vacant (channel_of c' g Output) ≡ obf_after (surroundings_here c) g (vacant (channel_of core g Output)) t) c (record {
        at_rest = refl;
        made_anew = λ v. rw (mode_word_channel core v g Output, clear_empties (channel_of core g Output));
        read_starts = λ x. rw (begun_output core x g);
        read_over = λ x. rw (ended_output core x g);
        write_starts = λ x. refl;
        pin_put = λ x d three seven. rw (put Output d seven, named_same Output x d three, own_same x g, control_not_own x three g, and-true (vacant (channel_of core g Output)))
            (forced_vacant (channel_of core g Output) (named Output d) (bit_of d 0));
        lines_written = λ x d two. rw (unforced Output x d (two_not_three x two), latched_port core d g, own_same x g, lines_not_own x two g) (sym (and-true (vacant (channel_of core g Output))));
        port_written = λ x d two three. rw (unforced Output x d three, port_on core x (storing d) g, own_same x g, gives_here w g)
            (written_vacant (port_of core g) d (own_address x g) (output_of w g) (strobed_output w g) (giving_is_output w g));
        levels_put = λ x d. rw (levels_output core x d g, gives_here w g, line_same g Output)
            (taken_vacant (channel_of core g Output) (eqb x 2) (strobed_output w g) (fallen core.c.outside d (line_pin g Output)));
      })

  pub input_next : (e : Event)
      → (channel_of (stepped c e).state.core g Input).latch ≡ input_after (surroundings_here c) g (channel_of core g Input).latch (act (surroundings_here c) e)
  unfolding stored_by fallen
  input_next =
      by_act (λ c' t. (channel_of c' g Input).latch ≡ input_after (surroundings_here c) g (channel_of core g Input).latch t) c (record {
        at_rest = refl;
        made_anew = λ v. rw (mode_word_channel core v g Input) (clear_zeroes (channel_of core g Input));
        read_starts = λ x. rw (begun_input core x g) (handed_latch (channel_of core g Input) Fetching (strobed_input w g && own_address x g));
        read_over = λ x. rw (ended_input core x g) (ended_latch (channel_of core g Input) (strobed_input w g && own_address x g));
        write_starts = λ x. refl;
        pin_put = λ x d three seven. rw (put Input d seven) (forced_latch (channel_of core g Input) Input (named Input d) (bit_of d 0));
        lines_written = λ x d two. rw (latched_port core d g);
        port_written = λ x d two three. rw (port_on core x (storing d) g)
            (ap (λ ch. ch.latch) (written_input (port_of core g) d (own_address x g) (output_of w g) (strobed_output w g)));
        levels_put = λ x d. rw (levels_input core x d g, takes_here w g, line_same g Input, own_same x g, outside_here c g)
            (under_latch (channel_of core g Input) (port_of core g).outside d (eqb x 2) (strobed_input w g) (fallen core.c.outside d (line_pin g Input))
            (own_address x g) (not (bit_of core.c.outside (line_pin g Input))));
      })

  pub ibf_next : (e : Event)
      → full (channel_of (stepped c e).state.core g Input)
      ≡ ibf_after (surroundings_here c) g (full (channel_of core g Input)) (given (channel_of core g Input)) (act (surroundings_here c) e)
  unfolding stored_by fallen
  ibf_next =
      by_act (λ c' t. full (channel_of c' g Input) ≡ ibf_after (surroundings_here c) g (full (channel_of core g Input)) (given (channel_of core g Input)) t) c (record {
        at_rest = refl;
        made_anew = λ v. rw (mode_word_channel core v g Input, clear_empties (channel_of core g Input));
        read_starts = λ x. rw (begun_input core x g) (begun_full (channel_of core g Input) (strobed_input w g && own_address x g));
        read_over = λ x. rw (ended_input core x g, takes_here w g, own_same x g) (ended_full (channel_of core g Input) (strobed_input w g) (own_address x g));
        write_starts = λ x. refl;
        pin_put = λ x d three seven. rw (put Input d seven, named_same Input x d three) (forced_full (channel_of core g Input) (named Input d) (bit_of d 0));
        lines_written = λ x d two. rw (unforced Input x d (two_not_three x two), latched_port core d g);
        port_written = λ x d two three. rw (unforced Input x d three, port_on core x (storing d) g)
            (ap full (written_input (port_of core g) d (own_address x g) (output_of w g) (strobed_output w g)));
        levels_put = λ x d. rw (levels_input core x d g, takes_here w g, line_same g Input)
            (under_full (channel_of core g Input) (port_of core g).outside d (eqb x 2) (strobed_input w g) (fallen core.c.outside d (line_pin g Input))
            (own_address x g && lets_through core g));
      })

  -- Event by event the channel is the one that `ibf_next` finds. What follows of it is by other laws, and no row can be left out.
  pub given_next : (e : Event)
      → given (channel_of (stepped c e).state.core g Input)
      ≡ given_after (surroundings_here c) g (full (channel_of core g Input)) (given (channel_of core g Input)) (act (surroundings_here c) e)
  unfolding stored_by fallen
  given_next =
      by_act (λ c' t. given (channel_of c' g Input) ≡ given_after (surroundings_here c) g (full (channel_of core g Input)) (given (channel_of core g Input)) t) c (record {
        at_rest = refl;
        made_anew = λ v. rw (mode_word_channel core v g Input, clear_empties (channel_of core g Input));
        read_starts = λ x. rw (begun_input core x g, takes_here w g, own_same x g) (begun_given (channel_of core g Input) (strobed_input w g) (own_address x g));
        read_over = λ x. rw (ended_input core x g, takes_here w g, own_same x g) (ended_given (channel_of core g Input) (strobed_input w g) (own_address x g));
        write_starts = λ x. refl;
        pin_put = λ x d three seven. rw (put Input d seven) (forced_given (channel_of core g Input) (named Input d) (bit_of d 0));
        lines_written = λ x d two. rw (latched_port core d g);
        port_written = λ x d two three. rw (port_on core x (storing d) g)
            (ap given (written_input (port_of core g) d (own_address x g) (output_of w g) (strobed_output w g)));
        levels_put = λ x d. rw (levels_input core x d g, takes_here w g, line_same g Input)
            (under_given (channel_of core g Input) (port_of core g).outside d (eqb x 2) (strobed_input w g) (fallen core.c.outside d (line_pin g Input))
            (own_address x g && lets_through core g));
      })
