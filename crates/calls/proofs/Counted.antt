-- A tally by C's numbers of its channel and of itself: they tell where an image has its two bytes.
-- Rests on nothing.
use Rattle.std.proofs.Common.{◌≡◌, ◌∙◌, refl, ap, List, ℕ, zero, suc, ◌+◌, ◌*◌, ◌≤◌, arith}
use Rattle.chip.specs.State.{tally_of}
use Rattle.image.specs.Places as places
use Rattle.image.specs.Loaded.{wide_at, tally_at, channel_tally, state_of}
use Rattle.calls.specs.Calls.{last_channel, last_tally, group_numbered, side_numbered, counter_numbered}

by_number : (l : List ℕ) (i n : ℕ) → n ≤ last_tally → counter_numbered (tally_at l i) n ≡ wide_at l (i + 2 * n)
unfolding counter_numbered
by_number l i n h = grind arith

by_channel : (l : List ℕ) (k : ℕ) → k ≤ last_channel → tally_of (state_of l) (group_numbered k) (side_numbered k) ≡ channel_tally l k
unfolding state_of
by_channel l zero h = refl
by_channel l (suc zero) h = refl
by_channel l (suc (suc zero)) h = refl
by_channel l (suc (suc (suc zero))) h = refl
by_channel l (suc (suc (suc (suc k)))) h = absurd (omega (arith, h))

pub counted : (l : List ℕ) (k n : ℕ) → k ≤ last_channel → n ≤ last_tally
    → counter_numbered (tally_of (state_of l) (group_numbered k) (side_numbered k)) n
    ≡ wide_at l (places.tallies + places.channel_tallies * k + 2 * n)
counted l k n channel number =
    ap (λ t. counter_numbered t n) (by_channel l k channel) ∙ by_number l (places.tallies + places.channel_tallies * k) n number
