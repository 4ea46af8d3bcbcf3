-- What an effect does, in one table: the fate that it gives a byte that waits, the byte that it brings, and what it leaves of the channel's
-- condition and latch. An effect has one of four shapes, and the theorems go by the shape: one more effect is one more row.
-- Rests on bits' Logic.
use Rattle.std.proofs.Common.{◌≡◌, refl, subst, Bool, true, false, cond, ◌&&◌, ℕ}
use Rattle.bits.proofs.Logic.{either_way}
use Rattle.chip.specs.declared.channel.Side.{Side}
use Rattle.chip.specs.declared.channel.Side.TheVariants.{Input, Output}
use Rattle.chip.specs.declared.channel.Fill.{Fill}
use Rattle.chip.specs.declared.channel.Fill.TheVariants.{Empty, Waiting, Fetching}
use Rattle.chip.specs.Channel.{is_waiting}
use Rattle.fates.specs.Effects.{Effect, offered, followed, taken, ended, cleared_away, forced_full, forced_empty, nothing}
use Rattle.fates.specs.Left.{room_in, after_taken, after_forced_full, after_forced_empty}
use Rattle.fates.specs.Bytes.{Fate, handed_over, overwritten, swallowed, cleared, struck, waiting, Offer, offered_at, planted_at, same}

-- What may be left of a channel in the condition f once its byte is gone: none waits, and no output is fetched from that was not.
abbrev pub Gone : Side → Fill → Fill → Type 0
Gone s f Empty = Unit {0}
Gone s f Waiting = ⊥
Gone Input f Fetching = Unit {0}
Gone Output f Fetching = f ≡ Fetching

-- The end of a byte's waiting: its fate, which is another than to wait; and what is left of the condition and of the latch.
pub record Decision : Type 0 where
  pub fate : Fate
  pub decisive : same waiting fate ≡ false
  pub left : Side → Fill → Fill
  pub gone : (s : Side) (f : Fill) → Gone s f (left s f)
  pub latch : ℕ → ℕ

-- An effect passes: a byte that waits goes on waiting, and its value is what becomes of the latch's. Or it offers a byte, under which one
-- that waits is lost. Or it plants one, where there is room, and leaves one that waits. Or it decides.
pub data Shape : Type 0 where
  passes : (ℕ → ℕ) → Shape
  offers : ℕ → Shape
  plants : Shape
  decides : Decision → Shape

-- What is left where a byte is taken or struck.
pub taken_gone : (s : Side) (f : Fill) → Gone s f (after_taken s f)
taken_gone s Empty = tt
taken_gone Input Waiting = tt
taken_gone Output Waiting = tt
taken_gone Input Fetching = tt
taken_gone Output Fetching = refl

pub struck_gone : (s : Side) (f : Fill) → Gone s f (after_forced_empty f)
struck_gone s Empty = tt
struck_gone s Waiting = tt
struck_gone Input Fetching = tt
struck_gone Output Fetching = refl

-- The table. Story's story_step holds it to the words of Bytes, and Moved's moved_so to the chip's channel.
abbrev pub shape_of : Effect → Shape
shape_of (offered v) = offers v
shape_of (followed v) = passes (λ l. v)
shape_of taken = decides (record { fate = handed_over; decisive = refl; left = after_taken; gone = taken_gone; latch = λ l. l })
shape_of ended = decides (record { fate = swallowed; decisive = refl; left = λ s f. Empty; gone = λ s f. tt; latch = λ l. l })
shape_of cleared_away = decides (record { fate = cleared; decisive = refl; left = λ s f. Empty; gone = λ s f. tt; latch = λ l. 0 })
shape_of forced_full = plants
shape_of forced_empty = decides (record { fate = struck; decisive = refl; left = λ s f. after_forced_empty f; gone = struck_gone; latch = λ l. l })
shape_of nothing = passes (λ l. l)

-- The columns, by shape: the fate of a byte that waits,
abbrev pub fate_by : Shape → Fate
fate_by (passes to) = waiting
fate_by (offers v) = overwritten
fate_by plants = waiting
fate_by (decides x) = x.fate

-- the channel's condition,
abbrev pub fill_after : Side → Fill → Shape → Fill
fill_after s f (passes to) = f
fill_after s f (offers v) = Waiting
fill_after s f plants = after_forced_full s f
fill_after s f (decides x) = x.left s f

-- its latch,
abbrev pub latch_after : ℕ → Shape → ℕ
latch_after l (passes to) = to l
latch_after l (offers v) = v
latch_after l plants = l
latch_after l (decides x) = x.latch l

-- whether a byte is offered,
abbrev pub is_offer : Shape → Bool
is_offer (passes to) = false
is_offer (offers v) = true
is_offer plants = false
is_offer (decides x) = false

-- and whether one is planted in a channel of that condition.
abbrev pub is_plant : Side → Fill → Shape → Bool
is_plant s f (passes to) = false
is_plant s f (offers v) = false
is_plant s f plants = room_in s f
is_plant s f (decides x) = false

-- A byte that waits is given the fate f.
abbrev pub gives : Fate → Fill → Shape → Bool
gives f fill d = same f (fate_by d) && is_waiting fill

-- The byte that the channel holds after an effect at place n, where it waits: the one that it held, if that goes on, with the latch's value, or
-- the one that has come. Its value is the latch's where none waits too.
abbrev pub held_after : Side → Fill → Offer → ℕ → Shape → Offer
held_after s f h n (passes to) = record { place = h.place; planted = h.planted; value = to h.value }
held_after s f h n (offers v) = offered_at n v
held_after s f h n plants = cond (room_in s f) (planted_at n h.value) h
held_after s f h n (decides x) = offered_at n (x.latch h.value)

pub held_latch : (s : Side) (f : Fill) (h : Offer) (n : ℕ) (d : Shape) → (held_after s f h n d).value ≡ latch_after h.value d
held_latch s f h n (passes to) = refl
held_latch s f h n (offers v) = refl
held_latch s f h n plants = either_way (λ (o : Offer). o.value) h.value (room_in s f) _ _ refl refl
held_latch s f h n (decides x) = refl

-- Where the byte is gone none waits.
pub none_waits : (s : Side) (f left : Fill) → Gone s f left → left ≡ Waiting → ⊥
none_waits s f left gone waits = subst (Gone s f) waits gone
