-- The bytes of a channel, their places aside, by the effects that are something to it.
-- Rests on nothing.
use Rattle.std.proofs.Common.{◌≡◌, ◌∙◌, refl, sym, Bool, true, false, cond, List, [], ◌∷◌, ◌++◌, ℕ, suc}
use Rattle.chip.specs.declared.channel.Side.{Side}
use Rattle.chip.specs.declared.channel.Fill.{Fill}
use Rattle.chip.specs.declared.channel.Fill.TheVariants.{Empty, Waiting, Fetching}
use Rattle.fates.specs.Effects.{Effect, offered, followed, taken, ended, cleared_away, forced_full, forced_empty, nothing}
use Rattle.fates.specs.Left.{Left, left, room_in, left_after}
use Rattle.fates.specs.Bytes.{Offer, Byte, planted_at, outcome_of, settled, with_fate, bytes, values_and_fates}
use Rattle.fates.specs.Promise.{held_byte}

-- An effect before others, unless it is `nothing`.
abbrev pub hearing : Effect → List Effect → List Effect
hearing (offered v) later = offered v ∷ later
hearing (followed v) later = followed v ∷ later
hearing taken later = taken ∷ later
hearing ended later = ended ∷ later
hearing cleared_away later = cleared_away ∷ later
hearing forced_full later = forced_full ∷ later
hearing forced_empty later = forced_empty ∷ later
hearing nothing later = later

-- The effects but `nothing`.
abbrev pub heard : List Effect → List Effect
heard [] = []
heard (d ∷ later) = hearing d (heard later)

fate_heard : (n m : ℕ) (later : List Effect) → (outcome_of n later).fate ≡ (outcome_of m (heard later)).fate
fate_heard n m [] = refl
fate_heard n m (offered v ∷ later) = refl
fate_heard n m (followed v ∷ later) = fate_heard (suc n) (suc m) later
fate_heard n m (taken ∷ later) = refl
fate_heard n m (ended ∷ later) = refl
fate_heard n m (cleared_away ∷ later) = refl
fate_heard n m (forced_full ∷ later) = fate_heard (suc n) (suc m) later
fate_heard n m (forced_empty ∷ later) = refl
fate_heard n m (nothing ∷ later) = fate_heard (suc n) m later

value_heard : (v : ℕ) (later : List Effect) → settled v later ≡ settled v (heard later)
value_heard v [] = refl
value_heard v (offered u ∷ later) = refl
value_heard v (followed u ∷ later) = value_heard u later
value_heard v (taken ∷ later) = refl
value_heard v (ended ∷ later) = refl
value_heard v (cleared_away ∷ later) = refl
value_heard v (forced_full ∷ later) = value_heard v later
value_heard v (forced_empty ∷ later) = refl
value_heard v (nothing ∷ later) = value_heard v later

-- A byte that is planted where there is room, before others.
planted_heard : (room : Bool) (n m l : ℕ) (later : List Effect) (rest rest' : List Byte) → values_and_fates rest ≡ values_and_fates rest'
    → values_and_fates (cond room (with_fate (planted_at n l) (suc n) later ∷ []) [] ++ rest)
    ≡ values_and_fates (cond room (with_fate (planted_at m l) (suc m) (heard later) ∷ []) [] ++ rest')
planted_heard true n m l later rest rest' same = cc (value_heard l later, fate_heard (suc n) (suc m) later, same)
planted_heard false n m l later rest rest' same = same

bytes_heard : (s : Side) (h : Left) (n m : ℕ) (later : List Effect) → values_and_fates (bytes s h n later) ≡ values_and_fates (bytes s h m (heard later))
bytes_heard s h n m [] = refl
bytes_heard s h n m (offered v ∷ later) =
    cc (value_heard v later, fate_heard (suc n) (suc m) later, bytes_heard s (left Waiting v) (suc n) (suc m) later)
bytes_heard s h n m (followed v ∷ later) = bytes_heard s (left_after s h (followed v)) (suc n) (suc m) later
bytes_heard s h n m (taken ∷ later) = bytes_heard s (left_after s h taken) (suc n) (suc m) later
bytes_heard s h n m (ended ∷ later) = bytes_heard s (left_after s h ended) (suc n) (suc m) later
bytes_heard s h n m (cleared_away ∷ later) = bytes_heard s (left_after s h cleared_away) (suc n) (suc m) later
bytes_heard s h n m (forced_full ∷ later) =
    planted_heard (room_in s h.fill) n m h.latch later _ _ (bytes_heard s (left_after s h forced_full) (suc n) (suc m) later)
bytes_heard s h n m (forced_empty ∷ later) = bytes_heard s (left_after s h forced_empty) (suc n) (suc m) later
bytes_heard s h n m (nothing ∷ later) = bytes_heard s h (suc n) m later

-- The same with the byte that may wait where the effects begin.
abbrev story : Side → Fill → Offer → List Effect → List Byte
story s f o later = held_byte f o 1 later ++ bytes s (left f o.value) 1 later

story_heard : (s : Side) (f : Fill) (o : Offer) (later : List Effect) → values_and_fates (story s f o later) ≡ values_and_fates (story s f o (heard later))
story_heard s Empty o later = bytes_heard s (left Empty o.value) 1 1 later
story_heard s Waiting o later = cc (value_heard o.value later, fate_heard 1 1 later, bytes_heard s (left Waiting o.value) 1 1 later)
story_heard s Fetching o later = bytes_heard s (left Fetching o.value) 1 1 later

-- Effects of which the same are heard make the same bytes.
pub same_heard : (s : Side) (f : Fill) (o : Offer) (later' later : List Effect) → heard later' ≡ heard later
    → values_and_fates (story s f o later') ≡ values_and_fates (story s f o later)
same_heard s f o later' later same = story_heard s f o later' ∙ rw (same) (sym (story_heard s f o later))
