-- What becomes of every byte: the promise of specs/Promise.antt, from any chip and from every power-up.
-- Rests on Ordered, Counted, SameByte and InTheLatch.
use Rattle.std.proofs.Common.{◌≡◌, refl, Bool, true, false, List, ℕ, ◌≤◌, arith}
use Rattle.bits.specs.Bit.{num}
use Rattle.bus.specs.Event.{Event}
use Rattle.control.specs.declared.Group.{Group}
use Rattle.control.specs.declared.Group.TheVariants.{A, B}
use Rattle.chip.specs.declared.channel.Side.{Side}
use Rattle.chip.specs.declared.channel.Side.TheVariants.{Input, Output}
use Rattle.chip.specs.Channel.{is_waiting}
use Rattle.chip.specs.declared.Edition.{Edition}
use Rattle.chip.specs.declared.Chip.{Chip}
use Rattle.chip.specs.declared.Levels.{Levels}
use Rattle.chip.specs.State.{power_up_as, channel_of, tally_of}
use Rattle.fates.specs.Effects.{effects}
use Rattle.fates.specs.Bytes.{handed_over, overwritten, swallowed, cleared, struck, offered_at}
use Rattle.fates.specs.Promise.{run, surroundings_of, new_bytes, all_bytes, FatesFrom, FatesFromPowerUp, SixteenBits}
use Rattle.fates.proofs.Ordered.{story_in_order}
use Rattle.fates.proofs.Counted.{none_counted, one_fate_each_lem, offered_or_planted_lem, tally_counts, offered_counts, planted_counts, waits_there}
use Rattle.fates.proofs.SameByte.{as_offered_lem}
use Rattle.fates.proofs.InTheLatch.{new_held}

-- What is one or none is at most one.
at_most : (n : ℕ) (waits : Bool) → n ≡ num waits → n ≤ 1
at_most n true e = omega (arith, e)
at_most n false e = omega (arith, e)

-- From any chip whose tallies have sixteen bits.
pub fates_from : (g : Group) (s : Side) (c : Chip) → SixteenBits (tally_of c g s) → (es : List Event)
    → FatesFrom g s c es
fates_from g s c small es =
    let h = offered_at 0 (channel_of c.core g s).latch in
    let waits = waits_there g s c h 1 es in
    record {
      one_fate_each = one_fate_each_lem (all_bytes g s c es);
      at_most_one_waits = at_most _ (is_waiting (channel_of (run c es).core g s).fill) waits;
      waits_in_the_chip = waits;
      held_in_the_latch = new_held g s c es;
      as_offered = as_offered_lem g s c es;
      in_order = story_in_order s (channel_of c.core g s).fill h 1 (effects g s (surroundings_of c) es) (omega arith);
      offered_or_planted = offered_or_planted_lem (new_bytes g s c es);
      tally_offered = offered_counts g s c h 1 es small.offered;
      tally_handed = tally_counts g s handed_over refl c h 1 es small.handed;
      tally_overwritten = tally_counts g s overwritten refl c h 1 es small.overwritten;
      tally_swallowed = tally_counts g s swallowed refl c h 1 es small.swallowed;
      tally_cleared = tally_counts g s cleared refl c h 1 es small.cleared;
      tally_planted = planted_counts g s c h 1 es small.planted;
      tally_struck = tally_counts g s struck refl c h 1 es small.struck;
    }

-- From power-up, whatever the edition and the levels: no byte waits there and nothing has been counted.
pub fates : (g : Group) (s : Side) (ed : Edition) (l : Levels) (es : List Event)
    → FatesFromPowerUp g s ed l es
fates A Input ed l es = fates_from A Input (power_up_as ed l) none_counted es
fates A Output ed l es = fates_from A Output (power_up_as ed l) none_counted es
fates B Input ed l es = fates_from B Input (power_up_as ed l) none_counted es
fates B Output ed l es = fates_from B Output (power_up_as ed l) none_counted es
