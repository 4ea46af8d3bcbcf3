-- What the chip counts and shows in some of the examples.
-- Rests on Answered.
use Rattle.fates.proofs.Answered.{bale_counted, not_before, ack_shows, late_levels_read, zero_at_first, same_levels_go_through}
use Rattle.fates.proofs.chip_counts_and_shows_examples.Goals as goal

pub returns : goal.returns
returns c = record {
  bale = bale_counted;
  not_before_ack = not_before;
  as_ack_falls = ack_shows;
  late_levels = late_levels_read;
  zero_at_first = zero_at_first;
  same_levels = same_levels_go_through;
}
