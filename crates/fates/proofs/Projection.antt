-- Each channel of the chip moves as its own history says: what an event is to the channel, in the history's words, is what the step
-- does to it. One lemma over the four channels.
-- Rests on PinNamed, Tables, Accepted, Moving, the bus's ByKind, control's Strobed, and chip's OnPort, Surrounded, SettingsAfter,
-- ReadsAfter, WritesAfter and LevelsAfter.
use Rattle.std.proofs.Common.{◌≡◌, ◌∙◌, refl, ap, sym, Bool, true, false, not, ◌&&◌, ◌||◌, ℕ, ◌/◌, ◌%◌, eqb}
use mathlib.Core.Bool.{or-false}
use Rattle.bits.specs.Bit.{bit_of}
use Rattle.bus.proofs.ByKind.{by_kind}
use Rattle.bus.specs.Event.{Event, event}
use Rattle.bus.specs.Device.{after_in}
use Rattle.bus.specs.declared.Phase.{Phase}
use Rattle.bus.specs.declared.Phase.TheVariants.{Idle, Reading, Writing}
use Rattle.control.specs.declared.Group.{Group}
use Rattle.control.specs.declared.Group.TheVariants.{A, B}
use Rattle.control.specs.Mode.{strobed_input, strobed_output, output_of}
use Rattle.control.proofs.Strobed.{giving_is_output}
use Rattle.chip.specs.declared.channel.Side.{Side}
use Rattle.chip.specs.declared.channel.Side.TheVariants.{Input, Output}
use Rattle.chip.specs.declared.channel.Channel.{Channel}
use Rattle.chip.specs.declared.Edition.{Edition}
use Rattle.chip.specs.declared.Core.{Core}
use Rattle.chip.specs.declared.Chip.{Chip}
use Rattle.chip.specs.State.{port_of, channel_of}
use Rattle.chip.specs.Handshakes.{own_address, strobed, line_pin, flag_pin}
use Rattle.chip.proofs.OnPort.{lines_not_own, control_not_own}
use Rattle.chip.proofs.Surrounded.{Spared, spared_port}
use Rattle.chip.proofs.SettingsAfter.{PinPut, mode_word_channel}
use Rattle.chip.specs.Read.{after_read_begins}
use Rattle.chip.proofs.ReadsAfter.{begun_input, begun_output, ended_input, ended_output}
use Rattle.chip.proofs.WritesAfter.{Stored, by_address}
use Rattle.chip.specs.Levels.{fallen, after_levels}
use Rattle.chip.proofs.LevelsAfter.{levels_input, levels_output}
use Rattle.chip.specs.Step.{device, on_bus, after_end, stepped}
use Rattle.fates.specs.Kinds.{Kind, read_begun, cycle_ended, new_levels, kind_of, accepts}
use Rattle.fates.specs.Effects.{offered, followed, taken, ended, nothing, levels_on, strobes, when, own_effect, clears, effect_of, effect}
use Rattle.fates.specs.Promise.{surroundings_of, handshake_alone}
use Rattle.fates.specs.Follows.{moved, clears_now}
use Rattle.fates.proofs.PinNamed.{pin_same}
use Rattle.fates.proofs.Tables.{own_same, line_same, full_same, strobes_same}
use Rattle.fates.proofs.Accepted.{no_kind_accepted, by_outcome}
use Rattle.fates.proofs.Moving.{Goes, goes, at_rest, moves, forcing, levelling, writing}

module _ (ed : Edition) (c : Core) (g : Group) where
  abbrev on : Side → Bool
  on s = strobes c.word g s

  -- The handshake alone fills the latch, or the event clears it.
  abbrev known : Phase → Side → Kind → Bool
  known ph s e = handshake_alone c.word g s || clears ph e

  -- The channel after an accepted event is what the event, in the history's words, makes of it.
  abbrev After : Phase → Side → Kind → Core → Type 0
  After ph s e c' = Goes (known ph s e) (channel_of c' g s) (moved s (channel_of c g s) (effect_of g s (surroundings_of (on_bus ph ed c)) e))

  -- Nothing happens to the channel.
  rests : (s : Side) {sure : Bool} → Goes sure (channel_of c g s) (moved s (channel_of c g s) (when (on s) nothing))
  rests s = goes (at_rest s (channel_of c g s) (on s))

  begun : (ph : Phase) (s : Side) (x : ℕ) → After ph s (read_begun x) (after_read_begins c x)
  begun ph Input x =
      rw (begun_input c x g, strobes_same c.word g Input, own_same x g)
      (goes (moves Input (channel_of c g Input) taken (strobed_input c.word g) (own_address x g)))
  begun ph Output x = rw (begun_output c x g) (rests Output)

  -- The channel after the end of a write of d at the address x that is no mode word.
  abbrev AfterWrite : Side → ℕ → ℕ → Core → Type 0
  AfterWrite s x d c' =
      Goes (handshake_alone c.word g s || false) (channel_of c' g s)
      (moved s (channel_of c g s) (when (on s) (own_effect g s (surroundings_of (on_bus (Writing x d) ed c)) cycle_ended)))

  stored : (s : Side) (x d : ℕ) → eqb x 3 ≡ false → (c' : Core) → Stored c' c x d → AfterWrite s x d c'
  stored Input x d elsewhere c' k = rw (k.input g, elsewhere) (rests Input)
  stored Output x d elsewhere c' k =
      rw (k.output g, elsewhere, strobes_same c.word g Output, own_same x g, or-false (strobed_output c.word g))
      (writing (channel_of c g Output) d (output_of c.word g) (strobed_output c.word g) (own_address x g) (giving_is_output c.word g))

  -- A write to port C is for no channel.
  spared : (s : Side) (x d : ℕ) → x ≡ 2 → (c' : Core) → Spared c' c → AfterWrite s x d c'
  spared Input x d two c' k = rw (spared_port k g, two) (rests Input)
  spared Output x d two c' k = rw (spared_port k g, two, own_same 2 g, lines_not_own 2 refl g) (rests Output)

  -- Bit set/reset forces the flag that it names.
  put : (s : Side) (x d : ℕ) → x ≡ 3 → bit_of d 7 ≡ false → (c' : Core) → PinPut c' c (d / 2 % 8) (bit_of d 0) → AfterWrite s x d c'
  put Input x d three seven c' k =
      rw (k.channel g Input, three, seven, strobes_same c.word g Input, pin_same d, full_same g Input) (goes (forcing Input (channel_of c g Input) (bit_of d 0) (strobed c.word g Input) (eqb (d / 2 % 8) (flag_pin g Input))))
  put Output x d three seven c' k =
      rw (k.channel g Output, three, seven, own_same 3 g, control_not_own 3 refl g, strobes_same c.word g Output, pin_same d, full_same g Output)
      (goes (forcing Output (channel_of c g Output) (bit_of d 0) (strobed c.word g Output) (eqb (d / 2 % 8) (flag_pin g Output))))

  -- The end of a cycle, in each phase.
  cycle_ended_lem : (ph : Phase) (s : Side) → After ph s cycle_ended (after_end c ph)
  cycle_ended_lem Idle Input = rests Input
  cycle_ended_lem Idle Output = rests Output
  cycle_ended_lem (Reading p) Input =
      rw (ended_input c p g, strobes_same c.word g Input, own_same p g)
      (goes (moves Input (channel_of c g Input) ended (strobed_input c.word g) (own_address p g)))
  cycle_ended_lem (Reading p) Output = rw (ended_output c p g) (rests Output)
  cycle_ended_lem (Writing x d) s =
      by_address (After (Writing x d) s cycle_ended) c x d
      (λ mode. rw (mode) (goes (mode_word_channel c d g s)))
      (λ mode three c' k. rw (mode) (put s x d three (seven mode three) c' k))
      (λ mode two c' k. rw (mode) (spared s x d two c' k))
      (λ mode elsewhere c' k. rw (mode) (stored s x d elsewhere c' k))
    where
      seven : (eqb x 3 && bit_of d 7) ≡ false → x ≡ 3 → bit_of d 7 ≡ false
      seven mode three = sym (ap (λ (x : ℕ). eqb x 3 && bit_of d 7) three) ∙ mode

  -- The port's levels, in the chip and in the history.
  levels_same : (ph : Phase) → (port_of c g).outside ≡ levels_on g (surroundings_of (on_bus ph ed c))
  levels_same ph = go g
    where
      go : (g : Group) → (port_of c g).outside ≡ levels_on g (surroundings_of (on_bus ph ed c))
      go A = refl
      go B = refl

  -- No levels go through to an output.
  levels_set : (ph : Phase) (s : Side) (x d : ℕ) → After ph s (new_levels x d) (after_levels c x d)
  unfolding fallen
  levels_set ph Input x d =
      rw (levels_input c x d g, strobes_same c.word g Input, line_same g Input, own_same x g, ← levels_same ph)
      (goes
      (levelling Input (channel_of c g Input) (offered (port_of c g).outside) (followed d) (eqb x 2) (strobed_input c.word g)
      (fallen c.c.outside d (line_pin g Input)) (own_address x g) (not (bit_of c.c.outside (line_pin g Input)))))
  levels_set ph Output x d =
      rw (levels_output c x d g, strobes_same c.word g Output, line_same g Output)
      (goes
      (levelling Output (channel_of c g Output) taken nothing (eqb x 2) (strobed_output c.word g) (fallen c.c.outside d (line_pin g Output))
      false false))

module _ (c : Chip) (g : Group) (s : Side) where
  abbrev Follows : Event → Type 0
  Follows e = accepts c.edition c.phase (kind_of e) ≡ true → After c.edition c.core g c.phase s (kind_of e) (after_in device c e.kind e.first e.second).core

  follows_accepted : (k x d : ℕ) → Follows (event k x d)
  follows_accepted k x d =
      by_kind (λ k. Follows (event k x d))
      (λ ok. goes (mode_word_channel c.core 0x9b g s))
      (λ ok. begun c.edition c.core g c.phase s x)
      (λ ok. cycle_ended_lem c.edition c.core g c.phase s)
      (λ ok. rests c.edition c.core g s)
      (λ ok. levels_set c.edition c.core g c.phase s x d)
      (λ k none ok. absurd (no_kind_accepted c.edition c.phase k x d none ok))
      k

  abbrev channel : Channel
  channel = channel_of c.core g s

  -- The same of every event, accepted or refused.
  pub follows : (e : Event)
      → Goes (handshake_alone c.core.word g s || clears_now (surroundings_of c) e) (channel_of (stepped c e).state.core g s)
      (moved s channel (effect g s (surroundings_of c) e))
  follows e =
      by_outcome
      (λ c' ok. Goes (handshake_alone c.core.word g s || (ok && clears c.phase (kind_of e))) (channel_of c'.core g s)
      (moved s channel (when ok (effect_of g s (surroundings_of c) (kind_of e)))))
      c e (follows_accepted e.kind e.first e.second) (goes refl)
