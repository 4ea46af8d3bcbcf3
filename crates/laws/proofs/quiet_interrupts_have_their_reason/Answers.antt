-- Why an interrupt is quiet.
-- Rests on Quiet and Altered.
use Rattle.laws.proofs.Quiet.{explained_true, half_named, high_as_shown, refused_above_1}
use Rattle.laws.proofs.Altered.{would_be_high}
use Rattle.laws.proofs.quiet_interrupts_have_their_reason.Goals as goal

pub returns : goal.returns
returns c = record {
  is_so = explained_true;
  would_be_high = would_be_high;
  group_high = high_as_shown;
  half_high = half_named;
  no_group = refused_above_1;
}
