-- A channel's condition and the byte that it holds, followed from effect to effect, beside the fates, which look ahead in the list.
-- Rests on Shapes.
use Rattle.std.proofs.Common.{◌≡◌, refl, false, cond, ◌||◌, List, [], ◌∷◌, ◌++◌, ℕ, suc, ◌+◌, arith, length}
use mathlib.Core.Bool.{and-false}
use Rattle.bits.specs.Bit.{num}
use Rattle.chip.specs.declared.channel.Side.{Side}
use Rattle.chip.specs.declared.channel.Side.TheVariants.{Input, Output}
use Rattle.chip.specs.declared.channel.Fill.{Fill}
use Rattle.chip.specs.declared.channel.Fill.TheVariants.{Empty, Waiting, Fetching}
use Rattle.chip.specs.Channel.{is_waiting}
use Rattle.fates.specs.Effects.{Effect, offered, followed, taken, ended, cleared_away, forced_full, forced_empty, nothing}
use Rattle.fates.specs.Left.{left}
use Rattle.fates.specs.Bytes.{Fate, overwritten, waiting, Offer, Byte, decided_at, bytes, planted_among, offered_among, same}
use Rattle.fates.specs.Promise.{held_byte, Each}
use Rattle.fates.proofs.Shapes.{Shape, passes, offers, plants, decides, shape_of, fate_by, fill_after, held_after, is_offer, is_plant, gives}

-- The bytes of a channel in the condition f, whose latch has the value of h; where it waits, h is the byte that it holds.
abbrev pub story : Side → Fill → Offer → ℕ → List Effect → List Byte
story s f h n later = held_byte f h n later ++ bytes s (left f h.value) n later

-- One byte, with its fate.
unfoldable pub fated : Offer → ℕ → Fate → List Byte
fated h n f = record { offer = h; outcome = decided_at n f } ∷ []

-- The byte, if any, that an effect at place n decides.
unfoldable pub decided : Fill → Offer → ℕ → Shape → List Byte
decided Empty h n d = []
decided Waiting h n (passes to) = []
decided Waiting h n (offers v) = fated h n overwritten
decided Waiting h n plants = []
decided Waiting h n (decides x) = fated h n x.fate
decided Fetching h n d = []

-- The step on which all theorems go: what an effect decides stands first, and the rest is the story from there. Here alone the words of
-- Bytes, which look ahead, are held to the table.
pub story_step : (s : Side) (f : Fill) (h : Offer) (n : ℕ) (d : Effect) (later : List Effect)
    → story s f h n (d ∷ later) ≡ decided f h n (shape_of d) ++ story s (fill_after s f (shape_of d)) (held_after s f h n (shape_of d)) (suc n) later
unfolding decided fated
story_step s Empty h n (offered v) later = refl
story_step s Waiting h n (offered v) later = refl
story_step s Fetching h n (offered v) later = refl
story_step s Empty h n (followed v) later = refl
story_step s Waiting h n (followed v) later = refl
story_step s Fetching h n (followed v) later = refl
story_step Input Empty h n taken later = refl
story_step Input Waiting h n taken later = refl
story_step Input Fetching h n taken later = refl
story_step Output Empty h n taken later = refl
story_step Output Waiting h n taken later = refl
story_step Output Fetching h n taken later = refl
story_step s Empty h n ended later = refl
story_step s Waiting h n ended later = refl
story_step s Fetching h n ended later = refl
story_step s Empty h n cleared_away later = refl
story_step s Waiting h n cleared_away later = refl
story_step s Fetching h n cleared_away later = refl
story_step Input Empty h n forced_full later = refl
story_step Input Waiting h n forced_full later = refl
story_step Input Fetching h n forced_full later = refl
story_step Output Empty h n forced_full later = refl
story_step Output Waiting h n forced_full later = refl
story_step Output Fetching h n forced_full later = refl
story_step s Empty h n forced_empty later = refl
story_step s Waiting h n forced_empty later = refl
story_step s Fetching h n forced_empty later = refl
story_step s Empty h n nothing later = refl
story_step s Waiting h n nothing later = refl
story_step s Fetching h n nothing later = refl

-- The same of the bytes that come from place n on, without the one that is held: where one comes, the story goes on with it.
pub bytes_step : (s : Side) (f : Fill) (h : Offer) (n : ℕ) (d : Effect) (later : List Effect)
    → bytes s (left f h.value) n (d ∷ later)
    ≡ cond (is_offer (shape_of d) || is_plant s f (shape_of d))
    (story s (fill_after s f (shape_of d)) (held_after s f h n (shape_of d)) (suc n) later)
    (bytes s (left (fill_after s f (shape_of d)) (held_after s f h n (shape_of d)).value) (suc n) later)
bytes_step s f h n (offered v) later = refl
bytes_step s f h n (followed v) later = refl
bytes_step s f h n taken later = refl
bytes_step s f h n ended later = refl
bytes_step s f h n cleared_away later = refl
bytes_step Input Empty h n forced_full later = refl
bytes_step Input Waiting h n forced_full later = refl
bytes_step Input Fetching h n forced_full later = refl
bytes_step Output Empty h n forced_full later = refl
bytes_step Output Waiting h n forced_full later = refl
bytes_step Output Fetching h n forced_full later = refl
bytes_step s f h n forced_empty later = refl
bytes_step s f h n nothing later = refl

-- An effect decides no byte, and then it gives none of the fates that have a tally; or it decides the one that waits.
pub by_decided : (P : Fill → Shape → List Byte → Type 0) (h : Offer) (n : ℕ)
    → ((f : Fill) (d : Shape) → ((x : Fate) → same x waiting ≡ false → gives x f d ≡ false) → P f d [])
    → ((d : Shape) → same waiting (fate_by d) ≡ false → P Waiting d (fated h n (fate_by d)))
    → (f : Fill) (d : Shape) → P f d (decided f h n d)
unfolding decided
by_decided P h n none one Empty d = none Empty d (λ x tallied. and-false (same x (fate_by d)))
by_decided P h n none one Waiting (passes to) = none Waiting (passes to) (λ x tallied. rw (tallied))
by_decided P h n none one Waiting (offers v) = one (offers v) refl
by_decided P h n none one Waiting plants = none Waiting plants (λ x tallied. rw (tallied))
by_decided P h n none one Waiting (decides x) = one (decides x) x.decisive
by_decided P h n none one Fetching d = none Fetching d (λ x tallied. and-false (same x (fate_by d)))

-- What holds of the byte, if any, that an effect decides, and of each that comes after it, holds of them all.
pub decided_each : (P : Byte → Type 0) (f : Fill) (h : Offer) (n : ℕ) (d : Shape) (bs : List Byte)
    → (f ≡ Waiting → same waiting (fate_by d) ≡ false → P (record { offer = h; outcome = decided_at n (fate_by d) })) → Each P bs
    → Each P (decided f h n d ++ bs)
unfolding fated
decided_each P f h n d bs here rest =
    by_decided (λ f d l. (f ≡ Waiting → same waiting (fate_by d) ≡ false → P (record { offer = h; outcome = decided_at n (fate_by d) })) → Each P (l ++ bs)) h n
    (λ f d none here. rest) (λ d decisive here. (here refl decisive, rest)) f d here

-- The bytes of a channel are those that come from here on, and the one that may wait.
pub with_held : (f : Fill) (h : Offer) (n : ℕ) (later : List Effect) (new : List Byte) → length (held_byte f h n later ++ new) ≡ num (is_waiting f) + length new
with_held Empty h n later new = omega arith
with_held Waiting h n later new = omega arith
with_held Fetching h n later new = omega arith

-- Those that come are counted as offered and as planted, by what each effect brings.
pub offers_counted : (s : Side) (f : Fill) (h : Offer) (n : ℕ) (d : Effect) (later : List Effect)
    → offered_among (bytes s (left f h.value) n (d ∷ later))
    ≡ num (is_offer (shape_of d)) + offered_among (bytes s (left (fill_after s f (shape_of d)) (held_after s f h n (shape_of d)).value) (suc n) later)
offers_counted s f h n (offered v) later = refl
offers_counted s f h n (followed v) later = omega arith
offers_counted s f h n taken later = omega arith
offers_counted s f h n ended later = omega arith
offers_counted s f h n cleared_away later = omega arith
offers_counted Input Empty h n forced_full later = refl
offers_counted Input Waiting h n forced_full later = omega arith
offers_counted Input Fetching h n forced_full later = omega arith
offers_counted Output Empty h n forced_full later = refl
offers_counted Output Waiting h n forced_full later = omega arith
offers_counted Output Fetching h n forced_full later = refl
offers_counted s f h n forced_empty later = omega arith
offers_counted s f h n nothing later = omega arith

pub plants_counted : (s : Side) (f : Fill) (h : Offer) (n : ℕ) (d : Effect) (later : List Effect)
    → planted_among (bytes s (left f h.value) n (d ∷ later))
    ≡ num (is_plant s f (shape_of d)) + planted_among (bytes s (left (fill_after s f (shape_of d)) (held_after s f h n (shape_of d)).value) (suc n) later)
plants_counted s f h n (offered v) later = refl
plants_counted s f h n (followed v) later = omega arith
plants_counted s f h n taken later = omega arith
plants_counted s f h n ended later = omega arith
plants_counted s f h n cleared_away later = omega arith
plants_counted Input Empty h n forced_full later = refl
plants_counted Input Waiting h n forced_full later = omega arith
plants_counted Input Fetching h n forced_full later = omega arith
plants_counted Output Empty h n forced_full later = refl
plants_counted Output Waiting h n forced_full later = omega arith
plants_counted Output Fetching h n forced_full later = refl
plants_counted s f h n forced_empty later = omega arith
plants_counted s f h n nothing later = omega arith
