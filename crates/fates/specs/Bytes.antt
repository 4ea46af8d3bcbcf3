-- The bytes of a channel and the fate of each, by what the events were to the channel ("Handshake", "Forcing the flags"). Events are counted from 1,
-- refused ones too. Nothing here, nor in Kinds, Surroundings, Effects and Left, asks a chip.
use Rattle.std.specs.Prelude.{Bool, true, false, cond, not, List, [], ◌∷◌, ◌++◌, ℕ, suc, ◌+◌, eqb}
use Rattle.bits.specs.Bit.{num}
use Rattle.bus.specs.Event.{Event}
use Rattle.control.specs.declared.Group.{Group}
use Rattle.chip.specs.declared.channel.Side.{Side}
use Rattle.chip.specs.declared.channel.Fill.TheVariants.{Empty}
use Rattle.chip.specs.declared.Edition.{Edition}
use Rattle.chip.specs.declared.Levels.{Levels}
use Rattle.fates.specs.Surroundings.{at_power_up}
use Rattle.fates.specs.Effects.{Effect, offered, followed, taken, ended, cleared_away, forced_full, forced_empty, nothing, effects}
use Rattle.fates.specs.Left.{Left, left, room_in, left_after}

-- What becomes of a byte.
pub data Fate : Type 0 where
  handed_over overwritten swallowed cleared struck waiting : Fate

-- A byte by itself: the place in the history of the event that offers or plants it, which of the two that event does, and its value.
pub record Offer : Type 0 where
  pub place : ℕ
  pub planted : Bool
  pub value : ℕ

-- Its fate, and the place of the event that decided it.
pub record Outcome : Type 0 where
  pub fate : Fate
  pub place : ℕ

-- A byte with what became of it.
pub record Byte : Type 0 where
  pub offer : Offer
  pub outcome : Outcome

-- A byte of value v, offered or planted at place n.
abbrev pub offered_at : ℕ → ℕ → Offer
offered_at n v = record { place = n; planted = false; value = v }

abbrev pub planted_at : ℕ → ℕ → Offer
planted_at n v = record { place = n; planted = true; value = v }

-- The fate f decided at place n.
abbrev pub decided_at : ℕ → Fate → Outcome
decided_at n f = record { fate = f; place = n }

-- What becomes of a byte that waits before these effects, the first of which is at place n: the first decides that is neither `nothing` nor
-- `followed` nor `forced_full`, for which there is no room. Where there is none the byte goes on waiting, and the place is the one after the last
-- event.
abbrev pub outcome_of : ℕ → List Effect → Outcome
outcome_of n [] = decided_at n waiting
outcome_of n (offered v ∷ later) = decided_at n overwritten
outcome_of n (followed v ∷ later) = outcome_of (suc n) later
outcome_of n (taken ∷ later) = decided_at n handed_over
outcome_of n (ended ∷ later) = decided_at n swallowed
outcome_of n (cleared_away ∷ later) = decided_at n cleared
outcome_of n (forced_full ∷ later) = outcome_of (suc n) later
outcome_of n (forced_empty ∷ later) = decided_at n struck
outcome_of n (nothing ∷ later) = outcome_of (suc n) later

-- The value that a byte of value v has in the end: the levels that last came while it waited and STB was low, where any did. Levels that
-- come once its fate is decided are not its own.
abbrev pub settled : ℕ → List Effect → ℕ
settled v [] = v
settled v (offered u ∷ later) = v
settled v (followed u ∷ later) = settled u later
settled v (taken ∷ later) = v
settled v (ended ∷ later) = v
settled v (cleared_away ∷ later) = v
settled v (forced_full ∷ later) = settled v later
settled v (forced_empty ∷ later) = v
settled v (nothing ∷ later) = settled v later

-- A byte that waits before the effects that begin at place n.
abbrev pub with_fate : Offer → ℕ → List Effect → Byte
with_fate o n later = record { offer = record { place = o.place; planted = o.planted; value = settled o.value later }; outcome = outcome_of n later }

-- The byte, if any, that an effect at place n brings to a channel in which h was left: one that is offered, or one that is planted, where there
-- is room, with the latch's value. The later effects decide its fate.
abbrev pub new_byte : Side → Left → ℕ → Effect → List Effect → List Byte
new_byte s h n (offered v) later = with_fate (offered_at n v) (suc n) later ∷ []
new_byte s h n (followed v) later = []
new_byte s h n taken later = []
new_byte s h n ended later = []
new_byte s h n cleared_away later = []
new_byte s h n forced_full later = cond (room_in s h.fill) (with_fate (planted_at n h.latch) (suc n) later ∷ []) []
new_byte s h n forced_empty later = []
new_byte s h n nothing later = []

-- The bytes that the effects from place n on bring, in their order.
abbrev pub bytes : Side → Left → ℕ → List Effect → List Byte
bytes s h n [] = []
bytes s h n (d ∷ later) = new_byte s h n d later ++ bytes s (left_after s h d) (suc n) later

-- The bytes of a channel in a history from a power-up of this edition under these levels: there is nothing in it then.
abbrev pub bytes_of : Group → Side → Edition → Levels → List Event → List Byte
bytes_of g s ed l es = bytes s (left Empty 0) 1 (effects g s (at_power_up ed l) es)

-- How many of the bytes were planted, and how many offered.
abbrev pub planted_among : List Byte → ℕ
planted_among [] = 0
planted_among (b ∷ bs) = num b.offer.planted + planted_among bs

abbrev pub offered_among : List Byte → ℕ
offered_among [] = 0
offered_among (b ∷ bs) = num (not b.offer.planted) + offered_among bs

-- Fates are told apart by numbers.
abbrev pub rank : Fate → ℕ
rank handed_over = 0
rank overwritten = 1
rank swallowed = 2
rank cleared = 3
rank waiting = 4
rank struck = 5

-- Two fates are one.
abbrev pub same : Fate → Fate → Bool
same f g = eqb (rank f) (rank g)

-- How many of the bytes have a fate.
abbrev pub count : Fate → List Byte → ℕ
count f [] = 0
count f (b ∷ bs) = num (same f b.outcome.fate) + count f bs

-- A byte, its places aside: whether it was planted, its value and its fate.
pub record ValueAndFate : Type 0 where
  pub planted : Bool
  pub value : ℕ
  pub fate : Fate

abbrev pub value_and_fate : Byte → ValueAndFate
value_and_fate b = record { planted = b.offer.planted; value = b.offer.value; fate = b.outcome.fate }

-- So of all the bytes of a channel, in their order.
abbrev pub values_and_fates : List Byte → List ValueAndFate
values_and_fates [] = []
values_and_fates (b ∷ bs) = value_and_fate b ∷ values_and_fates bs
