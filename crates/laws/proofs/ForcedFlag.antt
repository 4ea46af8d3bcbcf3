-- A flag that is forced, in every state: the pin shows the level to which it was put, but for IBF while a byte is fetched; and what it said
-- before and says now is counted ("Writes and bit set/reset", "Forcing the flags").
-- Rests on ChannelPins, FlagAfter, Forcing, bits' Logic, and chip's ConditionsLeft, SettingsAfter and Ends.
use Rattle.std.proofs.Common.{◌≡◌, ◌∙◌, refl, ap, subst, Bool, true, false, cond, not, ℕ, ◌/◌, ◌%◌, eqb, eqb-true}
use borrow.Author.Tests.{not-true}
use Rattle.bits.specs.Bit.{bit_of}
use Rattle.bits.proofs.Logic.{contrary, both}
use Rattle.bus.specs.declared.Phase.{Phase}
use Rattle.bus.specs.declared.Phase.TheVariants.{Idle, Reading, Writing}
use Rattle.control.specs.declared.Group.{Group}
use Rattle.chip.specs.declared.channel.Side.{Side}
use Rattle.chip.specs.declared.channel.Side.TheVariants.{Input, Output}
use Rattle.chip.specs.declared.channel.Fill.{Fill}
use Rattle.chip.specs.declared.channel.Fill.TheVariants.{Empty, Waiting, Fetching}
use Rattle.chip.specs.declared.channel.Channel.{Channel}
use Rattle.chip.specs.Channel.{flag_of, has_room}
use Rattle.chip.specs.Moves.{after_plant, after_strike, after_force}
use Rattle.chip.proofs.ConditionsLeft.{force_leaves, force_keeps}
use Rattle.chip.specs.declared.Chip.{Chip}
use Rattle.chip.specs.State.{channel_of}
use Rattle.chip.specs.Handshakes.{strobed, flag_pin}
use Rattle.chip.specs.ControlWord.{after_control_word}
use Rattle.chip.proofs.SettingsAfter.{bit_put}
use Rattle.chip.specs.Write.{after_write_ends}
use Rattle.chip.specs.Step.{step_of}
use Rattle.chip.proofs.Ends.{write_ends}
use Rattle.laws.specs.Seen.{puts}
use Rattle.laws.specs.Forcing.{counted_by_flag, Forced}
use Rattle.laws.proofs.ChannelPins.{flag_pin_lem}
use Rattle.laws.proofs.FlagAfter.{flag_under}
use Rattle.laws.proofs.Forcing.{forced_flag}

-- What a channel that is forced counts.
forced_counts : (s : Side) (v : Bool) (ch : Channel) → (after_force s v ch).tally ≡ counted_by_flag s (flag_of s ch.fill) (flag_of s (after_force s v ch).fill) ch.tally
unfolding after_force after_plant after_strike has_room flag_of
forced_counts s v ch = go s v ch.fill refl
  where
    Counts : Side → Bool → Type 0
    Counts s v = (after_force s v ch).tally ≡ counted_by_flag s (flag_of s ch.fill) (flag_of s (after_force s v ch).fill) ch.tally

    go : (s : Side) (v : Bool) (f : Fill) → ch.fill ≡ f → Counts s v
    go Input true Empty e = rw (e)
    go Input true Waiting e = rw (e)
    go Input true Fetching e = rw (e)
    go Input false Empty e = rw (e)
    go Input false Waiting e = rw (e)
    go Input false Fetching e = rw (e)
    go Output true Empty e = rw (e)
    go Output true Waiting e = rw (e)
    go Output true Fetching e = rw (e)
    go Output false Empty e = rw (e)
    go Output false Waiting e = rw (e)
    go Output false Fetching e = rw (e)

module _ (c : Chip) (g : Group) (s : Side) (on : strobed c.core.word g s ≡ true) where
  abbrev channel : Channel
  channel = channel_of c.core g s

  -- The end of a write of bit set/reset that names the pin of the channel's flag.
  forced : (b x d : ℕ) → c.phase ≡ Writing 3 b → bit_of b 7 ≡ false → eqb (b / 2 % 8) (flag_pin g s) ≡ true
      → Forced c (step_of c 2 x d).state g s (bit_of b 0)
  unfolding after_write_ends
  forced b x d phase seven named =
      let k = bit_put c.core b seven in
      let here : channel_of (after_control_word c.core b) g s ≡ after_force s (bit_of b 0) channel = k.channel g s ∙ rw (on, named) in
      let shown = flag_under c _ g s on k.surroundings.word ∙ ap (λ (ch : Channel). flag_of s ch.fill) here in
      rw (write_ends c 3 b x d phase) (record {
        shows = shown ∙ ap (flag_of s) (force_leaves s (bit_of b 0) channel) ∙ forced_flag s (bit_of b 0) channel.fill;
        counts = rw (shown, flag_pin_lem c g s on) (ap (λ (ch : Channel). ch.tally) here ∙ forced_counts s (bit_of b 0) channel);
        latch = ap (λ (ch : Channel). ch.latch) here ∙ force_keeps s (bit_of b 0) channel;
      })

value_put : (v b : Bool) → cond v b (not b) ≡ true → b ≡ v
value_put true b set = set
value_put false b clear = not-true b clear

-- So the end of a write that puts this pin.
pub flag_forced : (c : Chip) (g : Group) (s : Side) (v : Bool) (x d : ℕ) → strobed c.core.word g s ≡ true
    → puts c.phase (flag_pin g s) v ≡ true → Forced c (step_of c 2 x d).state g s v
flag_forced c g s v x d on = go c.phase refl
  where
    go : (ph : Phase) → c.phase ≡ ph → puts ph (flag_pin g s) v ≡ true → Forced c (step_of c 2 x d).state g s v
    go Idle phase said = absurd (contrary false refl said)
    go (Reading p) phase said = absurd (contrary false refl said)
    go (Writing a b) phase said =
        let control = both (eqb a 3) _ said in
        let bit = both (not (bit_of b 7)) _ control.1 in
        let named = both (eqb (b / 2 % 8) (flag_pin g s)) _ bit.1 in
        subst (λ (v : Bool). Forced c (step_of c 2 x d).state g s v) (value_put v (bit_of b 0) named.1)
        (forced c g s on b x d (phase ∙ ap (λ (a : ℕ). Writing a b) (eqb-true a 3 control.0)) (not-true (bit_of b 7) bit.0) named.0)
