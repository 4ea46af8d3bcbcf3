-- The beginning of a read leaves IBF set, in every state: a byte that waited is fetched from then on ("Handshake").
-- Rests on ChannelPins, FillAfter, FlagAfter, and chip's ConditionsLeft, ReadsAfter and Outcome.
use Rattle.std.proofs.Common.{◌≡◌, ◌∙◌, refl, sym, true, ℕ}
use Rattle.control.specs.declared.Group.{Group}
use Rattle.chip.specs.declared.channel.Side.TheVariants.{Input}
use Rattle.chip.specs.declared.channel.Fill.{Fill}
use Rattle.chip.specs.declared.channel.Fill.TheVariants.{Empty, Waiting, Fetching}
use Rattle.chip.specs.Channel.{flag_of}
use Rattle.chip.proofs.ConditionsLeft.{leaves}
use Rattle.chip.specs.declared.Chip.{Chip}
use Rattle.chip.specs.State.{channel_of}
use Rattle.chip.specs.Handshakes.{strobed, flag_pin}
use Rattle.chip.proofs.ReadsAfter.{begun_surrounded}
use Rattle.chip.specs.Step.{step_of}
use Rattle.chip.proofs.Outcome.{step_either}
use Rattle.laws.specs.Seen.{pin}
use Rattle.laws.proofs.ChannelPins.{flag_pin_lem}
use Rattle.laws.proofs.FillAfter.{after_begin_lem}
use Rattle.laws.proofs.FlagAfter.{flag_under}

-- A read that begins leaves IBF as it was: a byte that waited is fetched from now on.
pub fetching : (f : Fill) → flag_of Input (leaves f Fetching) ≡ flag_of Input f
unfolding flag_of
fetching Empty = refl
fetching Waiting = refl
fetching Fetching = refl

-- Of this port or any other.
pub begin_keeps_ibf : (c : Chip) (g : Group) → strobed c.core.word g Input ≡ true → (x d : ℕ)
    → pin c (flag_pin g Input) ≡ true → pin (step_of c 1 x d).state (flag_pin g Input) ≡ true
unfolding flag_of
begin_keeps_ibf c g on x d set =
    let here = sym (flag_pin_lem c g Input on) ∙ set in
    step_either (λ c'. pin c' (flag_pin g Input) ≡ true) c 1 x d set
    (λ ok. flag_under c _ g Input on (begun_surrounded c.core x).word
    ∙ after_begin_lem (λ f. flag_of Input f ≡ true) c.core g Input x here (λ own. fetching (channel_of c.core g Input).fill ∙ here))
