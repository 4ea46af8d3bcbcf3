-- What each move leaves of a channel's condition, latch and tallies, for those who stand above ("Handshake").
-- Rests on nothing.
use Rattle.std.proofs.Common.{◌≡◌, ℕ, Bool, true, false, cond, refl, ap}
use Rattle.chip.specs.declared.channel.Side.{Side}
use Rattle.chip.specs.declared.channel.Side.TheVariants.{Input, Output}
use Rattle.chip.specs.declared.channel.Fill.{Fill}
use Rattle.chip.specs.declared.channel.Fill.TheVariants.{Empty, Waiting, Fetching}
use Rattle.chip.specs.declared.channel.Channel.{Channel}
use Rattle.chip.specs.Channel.{is_waiting, has_room, handed, cleared, planted, struck, counted}
use Rattle.chip.specs.Moves.{after_offer, after_follow, after_hand_over, after_end_read, after_clear, after_plant, after_strike, after_force, tells_of_a_byte}

-- A byte offered waits in the latch.
pub offer_waits : (ch : Channel) (b : ℕ) → (after_offer ch b).fill ≡ Waiting
unfolding after_offer
offer_waits ch b = refl

pub offer_latches : (ch : Channel) (b : ℕ) → (after_offer ch b).latch ≡ b
unfolding after_offer
offer_latches ch b = refl

-- Levels that follow stand in the latch, and are all that changes.
pub follow_stays : (ch : Channel) (b : ℕ) → (after_follow ch b).fill ≡ ch.fill
unfolding after_follow
follow_stays ch b = refl

pub follow_latches : (ch : Channel) (b : ℕ) → (after_follow ch b).latch ≡ b
unfolding after_follow
follow_latches ch b = refl

pub follow_counts : (ch : Channel) (b : ℕ) → (after_follow ch b).tally ≡ ch.tally
unfolding after_follow
follow_counts ch b = refl

-- What is so in each of the three conditions is so.
by_fill : (f : Fill) {P : Type 0} → (f ≡ Empty → P) → (f ≡ Waiting → P) → (f ≡ Fetching → P) → P
by_fill Empty empty waiting fetching = empty refl
by_fill Waiting empty waiting fetching = waiting refl
by_fill Fetching empty waiting fetching = fetching refl

-- What handing over leaves of a condition.
abbrev pub leaves : Fill → Fill → Fill
leaves Empty left = Empty
leaves Waiting left = left
leaves Fetching left = Fetching

-- A channel after handing over, whether or not a byte was there.
hand_over_lem : (ch : Channel) (left : Fill)
    → after_hand_over ch left
    ≡ record { fill = leaves ch.fill left; latch = ch.latch; tally = counted handed (is_waiting ch.fill) ch.tally }
unfolding after_hand_over
hand_over_lem ch left = by_fill ch.fill (λ e. rw (e)) (λ e. rw (e)) (λ e. rw (e))

module _ (ch : Channel) (left : Fill) where
  pub hand_over_leaves : (after_hand_over ch left).fill ≡ leaves ch.fill left
  hand_over_leaves = ap (λ (r : Channel). r.fill) (hand_over_lem ch left)

  pub hand_over_keeps : (after_hand_over ch left).latch ≡ ch.latch
  hand_over_keeps = ap (λ (r : Channel). r.latch) (hand_over_lem ch left)

  pub hand_over_counts : (after_hand_over ch left).tally ≡ counted handed (is_waiting ch.fill) ch.tally
  hand_over_counts = ap (λ (r : Channel). r.tally) (hand_over_lem ch left)

-- The end of a read leaves the latch, and a mode word or reset nothing.
module _ (ch : Channel) where
  pub end_read_empties : (after_end_read ch).fill ≡ Empty
  unfolding after_end_read
  end_read_empties = refl

  pub end_read_keeps : (after_end_read ch).latch ≡ ch.latch
  unfolding after_end_read
  end_read_keeps = refl

  pub clear_empties : (after_clear ch).fill ≡ Empty
  unfolding after_clear
  clear_empties = refl

  pub clear_zeroes : (after_clear ch).latch ≡ 0
  unfolding after_clear
  clear_zeroes = refl

  pub clear_counts : (after_clear ch).tally ≡ counted cleared (is_waiting ch.fill) ch.tally
  unfolding after_clear
  clear_counts = refl

-- What a byte planted leaves of a condition.
abbrev pub plants : Side → Fill → Fill
plants s Empty = Waiting
plants s Waiting = Waiting
plants Input Fetching = Fetching
plants Output Fetching = Waiting

pub planted_so : (s : Side) (ch : Channel)
    → after_plant s ch ≡ record { fill = plants s ch.fill; latch = ch.latch; tally = counted planted (has_room s ch.fill) ch.tally }
unfolding after_plant has_room
planted_so Input ch = by_fill ch.fill (λ e. rw (e)) (λ e. rw (e)) (λ e. rw (e))
planted_so Output ch = by_fill ch.fill (λ e. rw (e)) (λ e. rw (e)) (λ e. rw (e))

-- What a byte struck leaves of it: what handing over to a reader that is done at once would.
pub struck_so : (ch : Channel)
    → after_strike ch ≡ record { fill = leaves ch.fill Empty; latch = ch.latch; tally = counted struck (is_waiting ch.fill) ch.tally }
unfolding after_strike
struck_so ch = by_fill ch.fill (λ e. rw (e)) (λ e. rw (e)) (λ e. rw (e))

-- What a flag forced to a level leaves of it, and that it leaves the latch.
abbrev pub forced_to : Side → Bool → Fill → Fill
forced_to s level f = cond (tells_of_a_byte s level) (plants s f) (leaves f Empty)

module _ (s : Side) (level : Bool) (ch : Channel) where
  pub force_leaves : (after_force s level ch).fill ≡ forced_to s level ch.fill
  unfolding after_force
  force_leaves = go (tells_of_a_byte s level)
    where
      go : (tells : Bool) → (cond tells (after_plant s ch) (after_strike ch)).fill ≡ cond tells (plants s ch.fill) (leaves ch.fill Empty)
      go true = ap (λ (r : Channel). r.fill) (planted_so s ch)
      go false = ap (λ (r : Channel). r.fill) (struck_so ch)

  pub force_keeps : (after_force s level ch).latch ≡ ch.latch
  unfolding after_force
  force_keeps = go (tells_of_a_byte s level)
    where
      go : (tells : Bool) → (cond tells (after_plant s ch) (after_strike ch)).latch ≡ ch.latch
      go true = ap (λ (r : Channel). r.latch) (planted_so s ch)
      go false = ap (λ (r : Channel). r.latch) (struck_so ch)
