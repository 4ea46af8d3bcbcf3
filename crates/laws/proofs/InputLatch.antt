-- What loads an input latch, in every state: the fall of STB, and levels on the port's own lines while STB is low. Nothing else but a mode
-- word and a reset touches it ("Handshake").
-- Rests on ByEvent, ChannelPins, FlagAfter, OwnPort, bits' Logic, chip's ConditionsLeft, OnPort, Surrounded, Flags,
-- SettingsAfter, ReadsAfter, LevelsAfter, Strobed and Outcome.
use Rattle.std.proofs.Common.{◌≡◌, ◌∙◌, refl, ap, sym, subst, Bool, true, false, cond, not, ◌&&◌, ◌||◌, ℕ, ◌/◌, ◌%◌, T, eqb}
use mathlib.Core.Bool.{and-false}
use Rattle.bits.specs.Bit.{bit_of}
use Rattle.bits.proofs.Logic.{contrary, either_way}
use Rattle.control.specs.declared.Group.{Group}
use Rattle.control.specs.Mode.{strobed_input}
use Rattle.chip.specs.declared.channel.Side.TheVariants.{Input}
use Rattle.chip.specs.declared.channel.Fill.TheVariants.{Fetching}
use Rattle.chip.specs.declared.channel.Channel.{Channel}
use Rattle.chip.specs.Moves.{after_offer, after_follow, after_hand_over, after_end_read, after_force}
use Rattle.chip.proofs.ConditionsLeft.{offer_latches, follow_latches, hand_over_keeps, end_read_keeps, force_keeps}
use Rattle.chip.specs.declared.Core.{Core}
use Rattle.chip.specs.declared.Chip.{Chip}
use Rattle.chip.specs.State.{port_of, channel_of}
use Rattle.chip.specs.Write.{latch_written}
use Rattle.chip.specs.Handshakes.{strobed, line_pin, own_address}
use Rattle.chip.proofs.OnPort.{lines_not_own}
use Rattle.chip.proofs.Surrounded.{Spared, latch_spares, spared_channel}
use Rattle.chip.specs.ControlWord.{after_control_word}
use Rattle.chip.proofs.Flags.{flag_at_pin}
use Rattle.chip.proofs.SettingsAfter.{bit_put}
use Rattle.chip.specs.Read.{after_read_begins, after_read_ends}
use Rattle.chip.proofs.ReadsAfter.{begun_input, ended_input}
use Rattle.chip.specs.Levels.{fallen, line_falls, lets_through, after_levels}
use Rattle.chip.proofs.LevelsAfter.{levels_input, levels_word}
use Rattle.chip.specs.Reads.{read_of}
use Rattle.chip.proofs.Strobed.{strobed_reads}
use Rattle.chip.specs.Step.{step_of}
use Rattle.chip.proofs.Outcome.{step_accepts}
use Rattle.laws.specs.Seen.{pin, lowers, makes_anew}
use Rattle.laws.specs.Loads.{comes_under_low, loads}
use Rattle.laws.proofs.ByEvent.{not_anew, by_event}
use Rattle.laws.proofs.ChannelPins.{line_pin_lem}
use Rattle.laws.proofs.FlagAfter.{line_falls_lem, levels_accepted}
use Rattle.laws.proofs.OwnPort.{own_accepted, own_read}

module _ (c : Core) (g : Group) where
  abbrev channel : Channel
  channel = channel_of c g Input

  -- The latch in another core is the one in this.
  abbrev Same : Core → Type 0
  Same c' = (channel_of c' g Input).latch ≡ channel.latch

  -- A cycle moves the channel only where it takes part.
  taking_part : (x : ℕ) (moved : Channel) → moved.latch ≡ channel.latch
      → (cond (strobed_input c.word g && own_address x g) moved channel).latch ≡ channel.latch
  taking_part x moved e = either_way (λ ch. ch.latch) channel.latch (strobed_input c.word g && own_address x g) moved channel e refl

  begun : (x : ℕ) → Same (after_read_begins c x)
  begun x =
      ap (λ ch. ch.latch) (begun_input c x g)
      ∙ taking_part x (after_hand_over channel Fetching) (hand_over_keeps channel Fetching)

  ended : (x : ℕ) → Same (after_read_ends c x)
  ended x =
      ap (λ ch. ch.latch) (ended_input c x g)
      ∙ taking_part x (after_end_read channel) (end_read_keeps channel)

  -- A flag that is forced leaves the latch.
  put : (w : ℕ) → bit_of w 7 ≡ false → Same (after_control_word c w)
  put w seven =
      ap (λ ch. ch.latch) ((bit_put c w seven).channel g Input)
      ∙ either_way (λ ch. ch.latch) channel.latch (flag_at_pin c.word g Input (w / 2 % 8)) (after_force Input (bit_of w 0) channel) channel
      (force_keeps Input (bit_of w 0) channel) refl

  spared : {c' : Core} → Spared c' c → Same c'
  spared k = ap (λ ch. ch.latch) (spared_channel k g Input)

  through_latch : (x d : ℕ) → own_address x g ≡ true → lets_through c g ≡ true → (channel_of (after_levels c x d) g Input).latch ≡ d
  through_latch x d own through = ap (λ ch. ch.latch) (levels_input c x d g) ∙ go (eqb x 2) refl
    where
      go : (two : Bool) → eqb x 2 ≡ two
          → (cond (two && line_falls c d g Input) (after_offer channel (port_of c g).outside)
          (cond (own_address x g && lets_through c g) (after_follow channel d) channel)).latch ≡ d
      go true two = absurd (contrary (own_address x g) (lines_not_own x two g) own)
      go false two = rw (own, through, follow_latches channel d)

  fallen_latch : (d : ℕ) → line_falls c d g Input ≡ true → (channel_of (after_levels c 2 d) g Input).latch ≡ (port_of c g).outside
  fallen_latch d fell = ap (λ ch. ch.latch) (levels_input c 2 d g) ∙ rw (fell, offer_latches channel (port_of c g).outside)

-- Levels that neither lower STB nor come while it is low move nothing.
unmoved : (ch offered followed : Channel) (fell through : Bool) → (fell || through) ≡ false
    → (cond fell offered (cond through followed ch)).latch ≡ ch.latch
unmoved ch offered followed true through none = absurd (subst T none tt)
unmoved ch offered followed false true none = absurd (subst T none tt)
unmoved ch offered followed false false none = refl

module _ (c : Chip) (g : Group) where
  -- The line of STB, as the pins show it where the input is strobed.
  abbrev seen : Bool
  seen = pin c (line_pin g Input)

  unloaded : (x d : ℕ) → loads c g x d ≡ false → Same c.core g (after_levels c.core x d)
  unfolding fallen
  unloaded x d none = ap (λ ch. ch.latch) (levels_input c.core x d g) ∙ go (strobed c.core.word g Input) refl none
    where
      ch : Channel
      ch = channel_of c.core g Input

      was : Bool
      was = bit_of c.core.c.outside (line_pin g Input)

      low : Bool
      low = not (bit_of d (line_pin g Input))

      go : (on : Bool) → strobed c.core.word g Input ≡ on → (on && (lowers c g Input x d || comes_under_low c g x)) ≡ false
          → (cond (eqb x 2 && (strobed c.core.word g Input && (was && low))) (after_offer ch (port_of c.core g).outside)
          (cond (own_address x g && (strobed c.core.word g Input && not was)) (after_follow ch d) ch)).latch ≡ ch.latch
      go true on none =
          rw (on)
          (unmoved ch (after_offer ch (port_of c.core g).outside) (after_follow ch d) (eqb x 2 && (was && low)) (own_address x g && not was)
          (subst (λ (b : Bool). ((eqb x 2 && (b && low)) || (own_address x g && not b)) ≡ false) (line_pin_lem c g Input on) none))
      go false off none = rw (off, and-false (eqb x 2), and-false (own_address x g))

  -- A port that the mode word strobes reads as its input latch, in every core that has this word.
  latch_read : (x : ℕ) (c' : Core) → strobed c.core.word g Input ≡ true → c'.word ≡ c.core.word → own_address x g ≡ true
      → read_of (record { phase = c.phase; edition = c.edition; core = c' }) x ≡ (channel_of c' g Input).latch
  latch_read x c' on same own = own_read _ x g own ∙ strobed_reads _ g _ (rw (same) (on))

  -- Levels that come onto the port's own lines while the pins show STB low are what a read of the port then answers, whatever the channel's
  -- condition and whatever runs on the bus.
  pub low_follows : (x d : ℕ) → strobed c.core.word g Input ≡ true → seen ≡ false → own_address x g ≡ true
      → read_of (step_of c 5 x d).state x ≡ d
  low_follows x d on low own =
      let through : lets_through c.core g ≡ true = rw (on, sym (line_pin_lem c g Input on) ∙ low) in
      rw (step_accepts c 5 x d (own_accepted c.edition c.phase x g own))
      (latch_read x (after_levels c.core x d) on (levels_word c.core x d) own ∙ through_latch c.core g x d own through)

  -- A fall of STB brings in what stands on the port's lines.
  pub fall_loads : (x d : ℕ) → strobed c.core.word g Input ≡ true → seen ≡ true → bit_of d (line_pin g Input) ≡ false → own_address x g ≡ true
      → read_of (step_of c 5 2 d).state x ≡ (port_of c.core g).outside
  fall_loads x d on high low own =
      rw (step_accepts c 5 2 d (levels_accepted c.edition c.phase))
      (latch_read x (after_levels c.core 2 d) on (levels_word c.core 2 d) own
      ∙ fallen_latch c.core g d (line_falls_lem c g Input d on high low))

  -- Whatever is not said to load the latch leaves it, but for a mode word and a reset. So levels leave it while STB is high, and wherever the
  -- port is no strobed input; a rise of STB loads nothing; and a latch that a mode word zeroed while STB was low is 00 until the next levels
  -- or the next fall.
  pub latch_stays : (k x d : ℕ) → ¬ (k ≡ 0) → (k ≡ 2 → makes_anew c.phase ≡ false) → (k ≡ 5 → loads c g x d ≡ false)
      → Same c.core g (step_of c k x d).state.core
  latch_stays k x d reset renewal load = by_event (λ c'. Same c.core g c'.core) c k x d (record {
    stays = refl;
    reset = λ zero. absurd (reset zero);
    read_begins = λ one ok. begun c.core g x;
    ends = λ two. record {
      read = λ p phase. ended c.core g p;
      mode_word = λ w phase seven. not_anew (renewal two) phase seven;
      bit_word = λ w phase seven. put c.core g w seven;
      lines = λ b phase. spared c.core g (latch_spares c.core (latch_written c.core.word c.core.c.latch b));
      port = λ a b phase c' stored. ap (λ ch. ch.latch) (stored.input g);
    };
    write_begins = λ three ok. refl;
    levels = λ five ok. unloaded x d (load five);
  })
