-- What each event can leave of a channel's condition, in every state: the ground of the theorems on the flags and on INTR.
-- Rests on ByEvent, bits' Logic, chip's ConditionsLeft, Surrounded, Flags, SettingsAfter, ReadsAfter, WritesAfter and
-- LevelsAfter.
use Rattle.std.proofs.Common.{◌≡◌, ◌∙◌, refl, ap, Bool, true, false, cond, not, ◌&&◌, ℕ, ◌/◌, ◌%◌, eqb}
use Rattle.bits.specs.Bit.{bit_of}
use Rattle.bits.proofs.Logic.{both}
use Rattle.bus.specs.declared.Phase.{Phase}
use Rattle.bus.specs.declared.Phase.TheVariants.{Reading, Writing}
use Rattle.control.specs.declared.Group.{Group}
use Rattle.control.specs.Mode.{strobed_input, strobed_output, output_of}
use Rattle.chip.specs.declared.channel.Side.{Side}
use Rattle.chip.specs.declared.channel.Side.TheVariants.{Input, Output}
use Rattle.chip.specs.declared.channel.Fill.{Fill}
use Rattle.chip.specs.declared.channel.Fill.TheVariants.{Empty, Waiting, Fetching}
use Rattle.chip.specs.declared.channel.Channel.{Channel}
use Rattle.chip.specs.Moves.{after_offer, after_follow, after_hand_over, after_end_read, after_force}
use Rattle.chip.proofs.ConditionsLeft.{leaves, forced_to, offer_waits, follow_stays, hand_over_leaves, end_read_empties, clear_empties, force_leaves}
use Rattle.chip.specs.declared.Core.{Core}
use Rattle.chip.specs.declared.Chip.{Chip}
use Rattle.chip.specs.State.{power_up_word, port_of, channel_of}
use Rattle.chip.specs.Handshakes.{own_address, strobed, flag_pin, running}
use Rattle.chip.proofs.Surrounded.{Spared, latch_spares, spared_channel}
use Rattle.chip.specs.ModeWord.{after_mode_word}
use Rattle.chip.specs.ControlWord.{after_control_word}
use Rattle.chip.proofs.Flags.{flag_at_pin}
use Rattle.chip.proofs.SettingsAfter.{mode_word_channel, bit_put}
use Rattle.chip.specs.Read.{after_read_begins, after_read_ends}
use Rattle.chip.proofs.ReadsAfter.{begun_input, begun_output, ended_input, ended_output}
use Rattle.chip.specs.Write.{stored_in, latch_written}
use Rattle.chip.proofs.WritesAfter.{Stored}
use Rattle.chip.specs.Levels.{line_falls, lets_through, after_levels}
use Rattle.chip.proofs.LevelsAfter.{levels_input, levels_output}
use Rattle.chip.specs.Step.{step_of}
use Rattle.laws.specs.Seen.{makes_anew, puts}
use Rattle.laws.proofs.ByEvent.{by_event}

-- What the beginning of the port's read, the end of the channel's own cycle, and the fall of its line leave.
abbrev pub begun : Side → Fill → Fill
begun Input f = leaves f Fetching
begun Output f = f

abbrev pub done : Side → Fill
done Input = Empty
done Output = Waiting

abbrev pub fell : Side → Fill → Fill
fell Input f = Waiting
fell Output f = leaves f Empty

-- What is so of the condition as it is, and of what each event that concerns the channel leaves.
pub record FillThrough (P : Fill → Type 0) (c : Chip) (g : Group) (s : Side) (k x d : ℕ) : Type 0 where
  pub stays : P (channel_of c.core g s).fill
  pub reset : k ≡ 0 → P Empty
  pub renewal : k ≡ 2 → makes_anew c.phase ≡ true → P Empty
  pub begins : k ≡ 1 → own_address x g ≡ true → P (begun s (channel_of c.core g s).fill)
  pub ends : k ≡ 2 → running c.phase g s ≡ true → P (done s)
  pub forced : k ≡ 2 → (v : Bool) → puts c.phase (flag_pin g s) v ≡ true → P (forced_to s v (channel_of c.core g s).fill)
  pub falls : k ≡ 5 → (eqb x 2 && line_falls c.core d g s) ≡ true → P (fell s (channel_of c.core g s).fill)

-- It is so of what each kind of event leaves.
module _ (P : Fill → Type 0) where
  one_of : (b : Bool) (moved still : Channel) → (b ≡ true → P moved.fill) → P still.fill → P (cond b moved still).fill
  one_of true moved still m s = m refl
  one_of false moved still m s = s

  module _ (c : Core) (g : Group) where
    abbrev input : Channel
    input = channel_of c g Input

    abbrev output : Channel
    output = channel_of c g Output

    after_mode_word_lem : (s : Side) (w : ℕ) → P Empty → P (channel_of (after_mode_word c w) g s).fill
    after_mode_word_lem s w empty = rw (mode_word_channel c w g s, clear_empties (channel_of c g s)) (empty)

    pub after_begin_lem : (s : Side) (x : ℕ) → P (channel_of c g s).fill → (own_address x g ≡ true → P (begun s (channel_of c g s).fill))
        → P (channel_of (after_read_begins c x) g s).fill
    after_begin_lem Input x stays begins =
        rw (begun_input c x g)
        (one_of (strobed_input c.word g && own_address x g) (after_hand_over input Fetching) input
        (λ on. rw (hand_over_leaves input Fetching) (begins (both (strobed_input c.word g) (own_address x g) on).1)) stays)
    after_begin_lem Output x stays begins = rw (begun_output c x g) (stays)

    pub after_read : (s : Side) (x : ℕ) → P (channel_of c g s).fill → (running (Reading x) g s ≡ true → P (done s)) → P (channel_of (after_read_ends c x) g s).fill
    after_read Input x stays ends =
        rw (ended_input c x g)
        (one_of (strobed_input c.word g && own_address x g) (after_end_read input) input
        (λ on. rw (end_read_empties input) (ends (both (strobed_input c.word g) (own_address x g) on).1)) stays)
    after_read Output x stays ends = rw (ended_output c x g) (stays)

    pub after_store : (s : Side) (x d : ℕ) (c' : Core) → Stored c' c x d → P (channel_of c g s).fill → (running (Writing x d) g s ≡ true → P (done s))
        → P (channel_of c' g s).fill
    after_store Input x d c' k stays ends = rw (k.input g) (stays)
    after_store Output x d c' k stays ends =
        let stored = stored_in output (strobed_output c.word g) d in
        rw (k.output g)
        (one_of (own_address x g) (cond (output_of c.word g) stored output) output
        (λ own. one_of (output_of c.word g) stored output
        (λ out. one_of (strobed_output c.word g) (after_offer output d) _ (λ on. rw (offer_waits output d) (ends own)) stays) stays) stays)

    after_spared : (s : Side) (c' : Core) → Spared c' c → P (channel_of c g s).fill → P (channel_of c' g s).fill
    after_spared s c' k stays = rw (spared_channel k g s) (stays)

    after_put : (s : Side) (w : ℕ) → bit_of w 7 ≡ false → P (channel_of c g s).fill
        → (eqb (w / 2 % 8) (flag_pin g s) ≡ true → P (forced_to s (bit_of w 0) (channel_of c g s).fill)) → P (channel_of (after_control_word c w) g s).fill
    after_put s w seven stays forced =
        let n = w / 2 % 8 in
        rw ((bit_put c w seven).channel g s)
        (one_of (flag_at_pin c.word g s n) (after_force s (bit_of w 0) (channel_of c g s)) (channel_of c g s)
        (λ on. rw (force_leaves s (bit_of w 0) (channel_of c g s)) (forced (both (strobed c.word g s) (eqb n (flag_pin g s)) on).1)) stays)

    after_levels_lem : (s : Side) (x d : ℕ) → P (channel_of c g s).fill → ((eqb x 2 && line_falls c d g s) ≡ true → P (fell s (channel_of c g s).fill))
        → P (channel_of (after_levels c x d) g s).fill
    after_levels_lem Input x d stays falls =
        let levels = (port_of c g).outside in
        rw (levels_input c x d g)
        (one_of (eqb x 2 && line_falls c d g Input) (after_offer input levels) _ (λ on. rw (offer_waits input levels) (falls on))
        (one_of (own_address x g && lets_through c g) (after_follow input d) input (λ on. rw (follow_stays input d) (stays)) stays))
    after_levels_lem Output x d stays falls =
        rw (levels_output c x d g)
        (one_of (eqb x 2 && line_falls c d g Output) (after_hand_over output Empty) output (λ on. rw (hand_over_leaves output Empty) (falls on)) stays)

-- A write of bit set/reset runs that names the pin.
pub puts_here : (ph : Phase) (w : ℕ) → ph ≡ Writing 3 w → bit_of w 7 ≡ false → (n : ℕ) → eqb (w / 2 % 8) n ≡ true → puts ph n (bit_of w 0) ≡ true
puts_here ph w phase seven n named = rw (phase, seven, named) (same (bit_of w 0))
  where
    same : (b : Bool) → cond b b (not b) ≡ true
    same true = refl
    same false = refl

-- So it is so after any event.
pub fill_by_event : (P : Fill → Type 0) (c : Chip) (g : Group) (s : Side) (k x d : ℕ) → FillThrough P c g s k x d
    → P (channel_of (step_of c k x d).state.core g s).fill
fill_by_event P c g s k x d t = by_event (λ c'. P (channel_of c'.core g s).fill) c k x d (record {
  stays = t.stays;
  reset = λ zero. after_mode_word_lem P c.core g s power_up_word (t.reset zero);
  read_begins = λ one ok. after_begin_lem P c.core g s x t.stays (t.begins one);
  ends = λ two. record {
    read = λ p phase. after_read P c.core g s p t.stays (λ own. t.ends two (ap (λ ph. running ph g s) phase ∙ own));
    mode_word = λ w phase seven. after_mode_word_lem P c.core g s w (t.renewal two (ap makes_anew phase ∙ seven));
    bit_word = λ w phase seven. after_put P c.core g s w seven t.stays (λ named. t.forced two (bit_of w 0) (puts_here c.phase w phase seven (flag_pin g s) named));
    lines = λ b phase. after_spared P c.core g s _ (latch_spares c.core (latch_written c.core.word c.core.c.latch b)) t.stays;
    port = λ a b phase c' stored. after_store P c.core g s a b c' stored t.stays (λ own. t.ends two (ap (λ ph. running ph g s) phase ∙ own));
  };
  write_begins = λ three ok. t.stays;
  levels = λ five ok. after_levels_lem P c.core g s x d t.stays (t.falls five);
})
