-- What a channel's tallies of bytes offered and handed over count from a power-up on.
-- Rests on Counted.
use Rattle.std.proofs.Common.{◌≡◌, refl, List, ◌+◌, ◌%◌}
use Rattle.bus.specs.Event.{Event}
use Rattle.control.specs.declared.Group.{Group}
use Rattle.control.specs.declared.Group.TheVariants.{A, B}
use Rattle.chip.specs.declared.channel.Side.{Side}
use Rattle.chip.specs.declared.channel.Side.TheVariants.{Input, Output}
use Rattle.chip.specs.declared.Edition.{Edition}
use Rattle.chip.specs.declared.Levels.{Levels}
use Rattle.chip.specs.State.{power_up_as}
use Rattle.fates.specs.Bytes.{handed_over, offered_at, bytes_of, offered_among, count}
use Rattle.fates.specs.Promise.{tallies}
use Rattle.fates.proofs.Counted.{none_counted, tally_counts, offered_counts}

module _ (ed : Edition) (l : Levels) (es : List Event) where
  pub offered_since : (g : Group) (s : Side) → (tallies g s (power_up_as ed l) es).offered ≡ (0 + offered_among (bytes_of g s ed l es)) % 65536
  offered_since A Input = offered_counts A Input (power_up_as ed l) (offered_at 0 0) 1 es none_counted.offered
  offered_since A Output = offered_counts A Output (power_up_as ed l) (offered_at 0 0) 1 es none_counted.offered
  offered_since B Input = offered_counts B Input (power_up_as ed l) (offered_at 0 0) 1 es none_counted.offered
  offered_since B Output = offered_counts B Output (power_up_as ed l) (offered_at 0 0) 1 es none_counted.offered

  pub handed_since : (g : Group) (s : Side) → (tallies g s (power_up_as ed l) es).handed ≡ (0 + count handed_over (bytes_of g s ed l es)) % 65536
  handed_since A Input = tally_counts A Input handed_over refl (power_up_as ed l) (offered_at 0 0) 1 es none_counted.handed
  handed_since A Output = tally_counts A Output handed_over refl (power_up_as ed l) (offered_at 0 0) 1 es none_counted.handed
  handed_since B Input = tally_counts B Input handed_over refl (power_up_as ed l) (offered_at 0 0) 1 es none_counted.handed
  handed_since B Output = tally_counts B Output handed_over refl (power_up_as ed l) (offered_at 0 0) 1 es none_counted.handed
