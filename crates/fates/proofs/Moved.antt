-- What an effect does to the chip's channel is what the table of Shapes says: to its condition, its latch and its tallies.
-- Rests on Shapes and on chip's ConditionsLeft.
use Rattle.std.proofs.Common.{◌≡◌, ◌∙◌, refl, false, ℕ}
use Rattle.chip.specs.declared.channel.Side.{Side}
use Rattle.chip.specs.declared.channel.Side.TheVariants.{Input, Output}
use Rattle.chip.specs.declared.channel.Fill.{Fill}
use Rattle.chip.specs.declared.channel.Fill.TheVariants.{Empty, Waiting, Fetching}
use Rattle.chip.specs.declared.channel.Tally.{Tally}
use Rattle.chip.specs.declared.channel.Channel.{Channel}
use Rattle.chip.specs.Channel.{has_room, next}
use Rattle.chip.specs.Moves.{after_offer, after_follow, after_end_read, after_clear}
use Rattle.chip.proofs.ConditionsLeft.{leaves, hand_over_leaves, hand_over_keeps, hand_over_counts, plants, planted_so, struck_so}
use Rattle.fates.specs.Effects.{Effect, offered, followed, taken, ended, cleared_away, forced_full, forced_empty, nothing}
use Rattle.fates.specs.Left.{room_in, after_taken, after_forced_full, after_forced_empty}
use Rattle.fates.specs.Bytes.{Fate, handed_over, overwritten, swallowed, cleared, struck, waiting, same}
use Rattle.fates.specs.Follows.{emptied, moved}
use Rattle.fates.proofs.Shapes.{Shape, shape_of, fill_after, latch_after, is_offer, is_plant, gives}

-- The tallies after an effect: that of the fate that it gives has gone on, and those of the offers and of what is planted where it brings a byte.
abbrev pub tally_after : Side → Fill → Shape → Tally → Tally
tally_after s f d t = record {
  offered = next (is_offer d) t.offered;
  handed = next (gives handed_over f d) t.handed;
  overwritten = next (gives overwritten f d) t.overwritten;
  swallowed = next (gives swallowed f d) t.swallowed;
  cleared = next (gives cleared f d) t.cleared;
  planted = next (is_plant s f d) t.planted;
  struck = next (gives struck f d) t.struck;
}

-- The channel after an effect of that shape.
abbrev pub channel_after : Side → Channel → Shape → Channel
channel_after s ch d = record {
  fill = fill_after s ch.fill d;
  latch = latch_after ch.latch d;
  tally = tally_after s ch.fill d ch.tally;
}

-- A channel is its condition, its latch and its tallies.
of_parts : (ch : Channel) (f : Fill) (l : ℕ) (t : Tally) → ch.fill ≡ f → ch.latch ≡ l → ch.tally ≡ t → ch ≡ record { fill = f; latch = l; tally = t }
of_parts ch f l t fills latches counts = rw (← fills, ← latches, ← counts)

-- What the channel's moves leave of a condition is what the history's words say.
taken_left : (s : Side) (f : Fill) → leaves f (emptied s) ≡ after_taken s f
taken_left s Empty = refl
taken_left Input Waiting = refl
taken_left Output Waiting = refl
taken_left s Fetching = refl

planted_left : (s : Side) (f : Fill) → plants s f ≡ after_forced_full s f
planted_left s Empty = refl
planted_left s Waiting = refl
planted_left Input Fetching = refl
planted_left Output Fetching = refl

struck_left : (f : Fill) → leaves f Empty ≡ after_forced_empty f
struck_left Empty = refl
struck_left Waiting = refl
struck_left Fetching = refl

room_same : (s : Side) (f : Fill) → has_room s f ≡ room_in s f
unfolding has_room
room_same Input Empty = refl
room_same Input Waiting = refl
room_same Input Fetching = refl
room_same Output Empty = refl
room_same Output Waiting = refl
room_same Output Fetching = refl

-- The chip's channel moves as the table says.
pub moved_so : (s : Side) (ch : Channel) (d : Effect) → moved s ch d ≡ channel_after s ch (shape_of d)
unfolding after_offer after_follow after_end_read after_clear
moved_so s ch (offered v) = refl
moved_so s ch (followed v) = refl
moved_so s ch taken =
    of_parts _ _ _ _ (hand_over_leaves ch (emptied s) ∙ taken_left s ch.fill) (hand_over_keeps ch (emptied s)) (hand_over_counts ch (emptied s))
moved_so s ch ended = refl
moved_so s ch cleared_away = refl
moved_so s ch forced_full = rw (planted_so s ch, planted_left s ch.fill, room_same s ch.fill)
moved_so s ch forced_empty = rw (struck_so ch, struck_left ch.fill)
moved_so s ch nothing = refl

-- The tally of a fate; bytes that wait are not counted in one.
abbrev pub tally_for : Fate → Tally → ℕ
tally_for handed_over t = t.handed
tally_for overwritten t = t.overwritten
tally_for swallowed t = t.swallowed
tally_for cleared t = t.cleared
tally_for struck t = t.struck
tally_for waiting t = 0

-- Each goes on where the effect gives its fate.
pub tally_gives : (x : Fate) → same x waiting ≡ false → (s : Side) (f : Fill) (d : Shape) (t : Tally)
    → tally_for x (tally_after s f d t) ≡ next (gives x f d) (tally_for x t)
tally_gives handed_over tallied s f d t = refl
tally_gives overwritten tallied s f d t = refl
tally_gives swallowed tallied s f d t = refl
tally_gives cleared tallied s f d t = refl
tally_gives struck tallied s f d t = refl
tally_gives waiting tallied s f d t = cc
