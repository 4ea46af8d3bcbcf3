-- OBF as the sheet has it, in every state: lowered by the end of the write, raised by the fall of ACK, forced by bit set/reset, and moved by
-- nothing else but a mode word and a reset ("Handshake", "Forcing the flags").
-- Rests on ChannelPins, FillAfter, Forcing, FlagAfter, bits' Logic, control's Strobed, chip's ConditionsLeft,
-- WritesAfter, LevelsAfter, Ends and Outcome.
use Rattle.std.proofs.Common.{◌≡◌, ◌∙◌, refl, sym, subst, Bool, true, false, not, ℕ}
use mathlib.Core.Bool.{or-true}
use Rattle.bits.specs.Bit.{bit_of}
use Rattle.bits.proofs.Logic.{contrary}
use Rattle.bus.specs.declared.Phase.TheVariants.{Writing}
use Rattle.control.specs.declared.Group.{Group}
use Rattle.control.specs.Mode.{strobed_output}
use Rattle.control.proofs.Strobed.{giving_is_output}
use Rattle.chip.specs.declared.channel.Side.TheVariants.{Output}
use Rattle.chip.specs.declared.channel.Fill.{Fill}
use Rattle.chip.specs.declared.channel.Fill.TheVariants.{Empty, Waiting, Fetching}
use Rattle.chip.specs.Channel.{flag_of}
use Rattle.chip.proofs.ConditionsLeft.{leaves, forced_to, offer_waits, hand_over_leaves}
use Rattle.chip.specs.declared.Core.{Core}
use Rattle.chip.specs.declared.Chip.{Chip}
use Rattle.chip.specs.State.{channel_of}
use Rattle.chip.specs.Handshakes.{own_address, strobed, line_pin, flag_pin, writing}
use Rattle.chip.specs.Status.{flag_at}
use Rattle.chip.specs.Write.{after_write_ends}
use Rattle.chip.proofs.WritesAfter.{own_stored}
use Rattle.chip.specs.Levels.{line_falls, after_levels}
use Rattle.chip.proofs.LevelsAfter.{levels_output, levels_word}
use Rattle.chip.specs.Step.{step_of}
use Rattle.chip.proofs.Ends.{write_ends}
use Rattle.chip.proofs.Outcome.{step_accepts}
use Rattle.laws.specs.Seen.{pin, makes_anew, puts}
use Rattle.laws.specs.Flags.{moves_obf}
use Rattle.laws.proofs.ChannelPins.{flag_pin_lem}
use Rattle.laws.proofs.FillAfter.{fill_by_event}
use Rattle.laws.proofs.Forcing.{forced_flag}
use Rattle.laws.proofs.FlagAfter.{flag_under, line_falls_lem, seen_falls, levels_accepted}

write_lowers : (c : Core) (a b : ℕ) (g : Group) → strobed_output c.word g ≡ true → own_address a g ≡ true → flag_at (after_write_ends c a b) g Output ≡ false
unfolding flag_of
write_lowers c a b g on own =
    rw ((own_stored c a b g own).output g, own, giving_is_output c.word g on, on, offer_waits (channel_of c g Output) b)

-- Whatever the channel held, the fall of ACK leaves none that waits.
taken : (f : Fill) → flag_of Output (leaves f Empty) ≡ true
unfolding flag_of
taken Empty = refl
taken Waiting = refl
taken Fetching = refl

ack_raises : (c : Core) (d : ℕ) (g : Group) → line_falls c d g Output ≡ true → flag_at (after_levels c 2 d) g Output ≡ true
ack_raises c d g fell = rw (levels_output c 2 d g, fell, hand_over_leaves (channel_of c g Output) Empty) (taken (channel_of c g Output).fill)

-- OBF forced is at the level to which it was put.
forced_to_lem : (f : Fill) (v w : Bool) → (v ≡ not w → ⊥) → flag_of Output (forced_to Output v f) ≡ w
forced_to_lem f true true other = forced_flag Output true f
forced_to_lem f false false other = forced_flag Output false f
forced_to_lem f true false other = absurd (other refl)
forced_to_lem f false true other = absurd (other refl)

module _ (c : Chip) (g : Group) (on : strobed c.core.word g Output ≡ true) where
  -- The end of the write lowers OBF.
  pub end_lowers_obf : (a b x d : ℕ) → c.phase ≡ Writing a b → own_address a g ≡ true → pin (step_of c 2 x d).state (flag_pin g Output) ≡ false
  end_lowers_obf a b x d phase own =
      rw (write_ends c a b x d phase) (flag_under c _ g Output on (own_stored c.core a b g own).surroundings.word ∙ write_lowers c.core a b g on own)

  -- The fall of ACK raises it.
  pub ack_raises_obf : (d : ℕ) → pin c (line_pin g Output) ≡ true → bit_of d (line_pin g Output) ≡ false → pin (step_of c 5 2 d).state (flag_pin g Output) ≡ true
  ack_raises_obf d high low =
      rw (step_accepts c 5 2 d (levels_accepted c.edition c.phase))
      (flag_under c _ g Output on (levels_word c.core 2 d) ∙ ack_raises c.core d g (line_falls_lem c g Output d on high low))

  -- As long as the word strobes the channel, OBF stays as it is through every event but those that are named to move it.
  pub obf_held : (v : Bool) → pin c (flag_pin g Output) ≡ v → (k x d : ℕ) → moves_obf c g v k x d ≡ false
      → strobed (step_of c k x d).state.core.word g Output ≡ true → pin (step_of c k x d).state (flag_pin g Output) ≡ v
  unfolding flag_of
  obf_held true high k x d none still =
      let unmoved = contrary (moves_obf c g true k x d) none in
      let here = sym (flag_pin_lem c g Output on) ∙ high in
      flag_pin_lem _ g Output still ∙ fill_by_event (λ f. flag_of Output f ≡ true) c g Output k x d (record {
        stays = here;
        reset = λ zero. refl;
        renewal = λ two anew. refl;
        begins = λ one own. here;
        ends = λ two runs. absurd (unmoved (rw (two, runs)));
        forced = λ two v said. forced_to_lem (channel_of c.core g Output).fill v true (λ low.
            let reset = subst (λ (v : Bool). puts c.phase (flag_pin g Output) v ≡ true) low said in
            unmoved (rw (two, reset) (or-true (writing c.phase g))));
        falls = λ five fell. taken (channel_of c.core g Output).fill;
      })
  obf_held false low k x d none still =
      let unmoved = contrary (moves_obf c g false k x d) none in
      let here = sym (flag_pin_lem c g Output on) ∙ low in
      flag_pin_lem _ g Output still ∙ fill_by_event (λ f. flag_of Output f ≡ false) c g Output k x d (record {
        stays = here;
        reset = λ zero. absurd (unmoved (rw (zero)));
        renewal = λ two anew. absurd (unmoved (rw (two, anew)));
        begins = λ one own. here;
        ends = λ two runs. refl;
        forced = λ two v said. forced_to_lem (channel_of c.core g Output).fill v false (λ high.
            let set = subst (λ (v : Bool). puts c.phase (flag_pin g Output) v ≡ true) high said in
            unmoved (rw (two, set, or-true (makes_anew c.phase))));
        falls = λ five fell. absurd (unmoved (rw (five, ← seen_falls c g Output x d on, fell)));
      })
