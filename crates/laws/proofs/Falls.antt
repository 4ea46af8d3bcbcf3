-- What levels leave that make no line of a channel fall: its condition and its tallies. No levels at all touch an output's latch ("Handshake").
-- Rests on bits' Logic, chip's ConditionsLeft, LevelsAfter and Outcome.
use Rattle.std.proofs.Common.{◌≡◌, ◌∙◌, refl, ap, Bool, true, false, cond, ◌&&◌, ℕ, eqb}
use Rattle.bits.proofs.Logic.{either_way}
use Rattle.control.specs.declared.Group.{Group}
use Rattle.chip.specs.declared.channel.Side.{Side}
use Rattle.chip.specs.declared.channel.Side.TheVariants.{Input, Output}
use Rattle.chip.specs.declared.channel.Fill.TheVariants.{Empty}
use Rattle.chip.specs.declared.channel.Channel.{Channel}
use Rattle.chip.specs.Moves.{after_follow, after_hand_over}
use Rattle.chip.proofs.ConditionsLeft.{follow_stays, follow_counts, hand_over_keeps}
use Rattle.chip.specs.declared.Core.{Core}
use Rattle.chip.specs.declared.Chip.{Chip}
use Rattle.chip.specs.State.{channel_of}
use Rattle.chip.specs.Handshakes.{own_address}
use Rattle.chip.specs.Levels.{line_falls, lets_through, after_levels}
use Rattle.chip.proofs.LevelsAfter.{levels_input, levels_output}
use Rattle.chip.specs.Step.{step_of}
use Rattle.chip.proofs.Outcome.{step_either}
use Rattle.laws.specs.Kept.{Kept}

-- A channel that is the same is kept.
pub kept : {before after : Channel} → after ≡ before → Kept before after
kept same = record { fill = ap (λ ch. ch.fill) same; tally = ap (λ ch. ch.tally) same }

-- So is one whose line does not fall, whether or not its latch follows.
pub levels_kept : (c : Core) (g : Group) (s : Side) (x d : ℕ) → (eqb x 2 && line_falls c d g s) ≡ false
    → Kept (channel_of c g s) (channel_of (after_levels c x d) g s)
levels_kept c g Input x d still = rw (levels_input c x d g, still) (go (own_address x g && lets_through c g))
  where
    channel : Channel
    channel = channel_of c g Input

    go : (through : Bool) → Kept channel (cond through (after_follow channel d) channel)
    go true = record { fill = follow_stays channel d; tally = follow_counts channel d }
    go false = kept refl
levels_kept c g Output x d still = kept (levels_output c x d g ∙ rw (still))

-- No levels touch an output's latch, nor does the fall of ACK.
pub given_latch : (c : Core) (g : Group) (x d : ℕ) → (channel_of (after_levels c x d) g Output).latch ≡ (channel_of c g Output).latch
given_latch c g x d =
    let channel = channel_of c g Output in
    ap (λ ch. ch.latch) (levels_output c x d g)
    ∙ either_way (λ ch. ch.latch) channel.latch (eqb x 2 && line_falls c d g Output) (after_hand_over channel Empty) channel
    (hand_over_keeps channel Empty) refl

pub output_latch_stays : (c : Chip) (g : Group) (x d : ℕ)
    → (channel_of (step_of c 5 x d).state.core g Output).latch ≡ (channel_of c.core g Output).latch
output_latch_stays c g x d =
    step_either (λ c'. (channel_of c'.core g Output).latch ≡ (channel_of c.core g Output).latch) c 5 x d refl
    (λ ok. given_latch c.core g x d)
