-- IBF as the sheet has it, in every state: set by the fall of STB, reset by the end of the read, forced by bit set/reset, and moved by nothing
-- else but a mode word and a reset ("Handshake", "Forcing the flags").
-- Rests on ChannelPins, FillAfter, Forcing, ReadBegins, FlagAfter, bits' Logic, chip's ConditionsLeft, ReadsAfter, LevelsAfter, Ends
-- and Outcome.
use Rattle.std.proofs.Common.{◌≡◌, ◌∙◌, refl, sym, subst, Bool, true, false, ℕ}
use mathlib.Core.Bool.{or-true}
use Rattle.bits.specs.Bit.{bit_of}
use Rattle.bits.proofs.Logic.{contrary}
use Rattle.bus.specs.declared.Phase.TheVariants.{Reading}
use Rattle.control.specs.declared.Group.{Group}
use Rattle.control.specs.Mode.{strobed_input}
use Rattle.chip.specs.declared.channel.Side.TheVariants.{Input}
use Rattle.chip.specs.declared.channel.Fill.{Fill}
use Rattle.chip.specs.declared.channel.Fill.TheVariants.{Empty, Waiting, Fetching}
use Rattle.chip.specs.Channel.{flag_of}
use Rattle.chip.proofs.ConditionsLeft.{forced_to, offer_waits, end_read_empties}
use Rattle.chip.specs.declared.Core.{Core}
use Rattle.chip.specs.declared.Chip.{Chip}
use Rattle.chip.specs.State.{port_of, channel_of}
use Rattle.chip.specs.Handshakes.{strobed, line_pin, own_address, reading, flag_pin}
use Rattle.chip.specs.Status.{flag_at}
use Rattle.chip.specs.Read.{after_read_ends}
use Rattle.chip.proofs.ReadsAfter.{ended_input, ended_surrounded}
use Rattle.chip.specs.Levels.{line_falls, after_levels}
use Rattle.chip.proofs.LevelsAfter.{levels_input, levels_word}
use Rattle.chip.specs.Step.{step_of}
use Rattle.chip.proofs.Ends.{read_ends_lem}
use Rattle.chip.proofs.Outcome.{step_accepts}
use Rattle.laws.specs.Seen.{pin, makes_anew, puts}
use Rattle.laws.specs.Flags.{moves_ibf}
use Rattle.laws.proofs.ChannelPins.{flag_pin_lem}
use Rattle.laws.proofs.FillAfter.{fill_by_event}
use Rattle.laws.proofs.Forcing.{forced_flag}
use Rattle.laws.proofs.ReadBegins.{fetching}
use Rattle.laws.proofs.FlagAfter.{flag_under, line_falls_lem, seen_falls, levels_accepted}

strobe_sets : (c : Core) (d : ℕ) (g : Group) → line_falls c d g Input ≡ true → flag_at (after_levels c 2 d) g Input ≡ true
unfolding flag_of
strobe_sets c d g fell = rw (levels_input c 2 d g, fell, offer_waits (channel_of c g Input) (port_of c g).outside)

done_resets : (c : Core) (x : ℕ) (g : Group) → strobed_input c.word g ≡ true → own_address x g ≡ true → flag_at (after_read_ends c x) g Input ≡ false
unfolding flag_of
done_resets c x g on own = rw (ended_input c x g, on, own, end_read_empties (channel_of c g Input))

-- IBF forced high is high, and so it is where it was high and is not forced low; low it stays where it is not forced high.
forced_high : (f : Fill) (v : Bool) → (v ≡ false → ⊥) → flag_of Input (forced_to Input v f) ≡ true
forced_high f true none = forced_flag Input true f
forced_high f false none = absurd (none refl)

forced_low : (f : Fill) (v : Bool) → flag_of Input f ≡ false → (v ≡ true → ⊥) → flag_of Input (forced_to Input v f) ≡ false
unfolding flag_of
forced_low f true low none = absurd (none refl)
forced_low Empty false low none = refl
forced_low Waiting false low none = refl
forced_low Fetching false low none = low

module _ (c : Chip) (g : Group) (on : strobed c.core.word g Input ≡ true) where
  -- The fall of STB sets IBF.
  pub strobe_sets_ibf : (d : ℕ) → pin c (line_pin g Input) ≡ true → bit_of d (line_pin g Input) ≡ false → pin (step_of c 5 2 d).state (flag_pin g Input) ≡ true
  strobe_sets_ibf d high low =
      rw (step_accepts c 5 2 d (levels_accepted c.edition c.phase))
      (flag_under c _ g Input on (levels_word c.core 2 d) ∙ strobe_sets c.core d g (line_falls_lem c g Input d on high low))

  -- The end of the read resets IBF.
  pub end_resets_ibf : (p x d : ℕ) → c.phase ≡ Reading p → own_address p g ≡ true → pin (step_of c 2 x d).state (flag_pin g Input) ≡ false
  end_resets_ibf p x d phase own =
      rw (read_ends_lem c p x d phase) (flag_under c _ g Input on (ended_surrounded c.core p).word ∙ done_resets c.core p g on own)

  -- As long as the word strobes the channel, IBF stays as it is through every event but those that are named to move it.
  pub ibf_held : (v : Bool) → pin c (flag_pin g Input) ≡ v → (k x d : ℕ) → moves_ibf c g v k x d ≡ false
      → strobed (step_of c k x d).state.core.word g Input ≡ true → pin (step_of c k x d).state (flag_pin g Input) ≡ v
  unfolding flag_of
  ibf_held true set k x d none still =
      let unmoved = contrary (moves_ibf c g true k x d) none in
      let here = sym (flag_pin_lem c g Input on) ∙ set in
      flag_pin_lem _ g Input still ∙ fill_by_event (λ f. flag_of Input f ≡ true) c g Input k x d (record {
        stays = here;
        reset = λ zero. absurd (unmoved (rw (zero)));
        renewal = λ two anew. absurd (unmoved (rw (two, anew)));
        begins = λ one own. fetching (channel_of c.core g Input).fill ∙ here;
        ends = λ two runs. absurd (unmoved (rw (two, runs) (or-true (makes_anew c.phase))));
        forced = λ two v said. forced_high (channel_of c.core g Input).fill v (λ low.
            let reset = subst (λ (v : Bool). puts c.phase (flag_pin g Input) v ≡ true) low said in
            unmoved (rw (two, reset, or-true (reading c.phase g)) (or-true (makes_anew c.phase))));
        falls = λ five fell. refl;
      })
  ibf_held false low k x d none still =
      let unmoved = contrary (moves_ibf c g false k x d) none in
      let here = sym (flag_pin_lem c g Input on) ∙ low in
      flag_pin_lem _ g Input still ∙ fill_by_event (λ f. flag_of Input f ≡ false) c g Input k x d (record {
        stays = here;
        reset = λ zero. refl;
        renewal = λ two anew. refl;
        begins = λ one own. fetching (channel_of c.core g Input).fill ∙ here;
        ends = λ two runs. refl;
        forced = λ two v said. forced_low (channel_of c.core g Input).fill v here (λ high.
            let set = subst (λ (v : Bool). puts c.phase (flag_pin g Input) v ≡ true) high said in
            unmoved (rw (two, set)));
        falls = λ five fell. absurd (unmoved (rw (five, ← seen_falls c g Input x d on, fell)));
      })
