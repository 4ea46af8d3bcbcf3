-- The bytes of a channel come one after the other: none is decided before it is offered, or after the next one is.
-- Rests on Shapes and Story, and on bits' Logic.
use Rattle.std.proofs.Common.{◌≡◌, refl, Bool, true, false, cond, List, [], ◌∷◌, ◌++◌, ℕ, suc, ◌<◌, ◌≤◌, arith}
use Rattle.bits.proofs.Logic.{contrary}
use Rattle.chip.specs.declared.channel.Side.{Side}
use Rattle.chip.specs.declared.channel.Fill.{Fill}
use Rattle.chip.specs.declared.channel.Fill.TheVariants.{Empty, Waiting, Fetching}
use Rattle.fates.specs.Effects.{Effect}
use Rattle.fates.specs.Left.{room_in}
use Rattle.fates.specs.Bytes.{waiting, Offer, Byte, planted_at, same}
use Rattle.fates.specs.Promise.{InOrder}
use Rattle.fates.proofs.Shapes.{Shape, passes, offers, plants, decides, shape_of, fate_by, fill_after, held_after}
use Rattle.fates.proofs.Story.{story, fated, decided, by_decided, story_step}

-- The byte that is held after an effect at place n came there or before, and no earlier than the one that was held.
held_between : (s : Side) (f : Fill) (h : Offer) (n : ℕ) (d : Shape) (m : ℕ) → m ≤ h.place → h.place < n
    → (m ≤ (held_after s f h n d).place) × ((held_after s f h n d).place < suc n)
held_between s f h n (passes to) m low high = omega arith
held_between s f h n (offers v) m low high = omega arith
held_between s f h n plants m low high = go (room_in s f)
  where
    go : (room : Bool) → (m ≤ (cond room (planted_at n h.value) h).place) × ((cond room (planted_at n h.value) h).place < suc n)
    go true = omega arith
    go false = omega arith
held_between s f h n (decides x) m low high = omega arith

-- Where a byte is decided, the next one comes no earlier.
held_behind : (s : Side) (f : Fill) (h : Offer) (n : ℕ) (d : Shape) → same waiting (fate_by d) ≡ false → n ≤ (held_after s f h n d).place
held_behind s f h n (passes to) decisive = absurd (contrary _ decisive refl)
held_behind s f h n (offers v) decisive = omega arith
held_behind s f h n plants decisive = absurd (contrary _ decisive refl)
held_behind s f h n (decides x) decisive = omega arith

decided_in_order : (s : Side) (m : ℕ) (f : Fill) (h : Offer) (n : ℕ) (d : Shape) (bs : List Byte) → m ≤ h.place → h.place < n
    → ((k : ℕ) → k ≤ (held_after s f h n d).place → InOrder k bs) → InOrder m (decided f h n d ++ bs)
unfolding fated
decided_in_order s m f h n d bs low high rest =
    by_decided (λ f d l. ((k : ℕ) → k ≤ (held_after s f h n d).place → InOrder k bs) → InOrder m (l ++ bs)) h n
    (λ f d none rest. rest m (held_between s f h n d m low high).0)
    (λ d decisive rest. (low, high, rest n (held_behind s Waiting h n d decisive))) f d rest

in_order_lem : (s : Side) (m : ℕ) (f : Fill) (h : Offer) (n : ℕ) (later : List Effect) → m ≤ h.place → h.place < n → InOrder m (story s f h n later)
in_order_lem s m Empty h n [] low high = tt
in_order_lem s m Waiting h n [] low high = (low, high, tt)
in_order_lem s m Fetching h n [] low high = tt
in_order_lem s m f h n (d ∷ later) low high =
    let held = held_after s f h n (shape_of d) in
    rw (story_step s f h n d later)
    (decided_in_order s m f h n (shape_of d) (story s (fill_after s f (shape_of d)) held (suc n) later) low high
    (λ k after. in_order_lem s k (fill_after s f (shape_of d)) held (suc n) later after (held_between s f h n (shape_of d) m low high).1))

-- With the byte that waits at the start, offered before place n.
pub story_in_order : (s : Side) (f : Fill) (h : Offer) (n : ℕ) (later : List Effect) → h.place < n → InOrder 0 (story s f h n later)
story_in_order s f h n later before = in_order_lem s 0 f h n later (omega arith) before
