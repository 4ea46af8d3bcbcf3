-- The mode word that is read back at control: the last that the history brought, in its own words ("The 82C55A").
use Rattle.std.specs.Prelude.{◌≡◌, true, List, [], ◌∷◌, ◌++◌, ◌⊎◌, ℕ}
use Rattle.bits.specs.Bit.{bit_of}
use Rattle.bits.specs.Sum.{byte_by}
use Rattle.bus.specs.Event.{Event, event}
use Rattle.bus.specs.declared.Phase.TheVariants.{Writing}
use Rattle.chip.specs.declared.Chip.{Chip}
use Rattle.chip.specs.Step.{stepped}
use Rattle.fates.specs.Kinds.{reset, cycle_ended, kind_of}
use Rattle.fates.specs.Surroundings.{Surroundings, surroundings_next, surroundings_over}
use Rattle.fates.specs.Promise.{run}

-- An event brings the mode word w: a reset brings 9B, and the end of a write to control brings the word written, where it has bit 7 set. So bit
-- set/reset brings none.
abbrev pub Brings : Surroundings → Event → ℕ → Type 0
Brings a e w =
    ((kind_of e ≡ reset) × (w ≡ 0x9b))
    ⊎ ((kind_of e ≡ cycle_ended) × (a.phase ≡ Writing 3 w) × (bit_of w 7 ≡ true))

-- No event of a history brings one.
abbrev pub NoneBrings : Surroundings → List Event → Type 0
NoneBrings a [] = Unit {0}
NoneBrings a (e ∷ es) = ((w : ℕ) → ¬ Brings a e w) × NoneBrings (surroundings_next a e) es

-- Among the events es one brings the word w, and none after it brings one.
pub record BroughtBy (a : Surroundings) (es : List Event) (w : ℕ) : Type 0 where
  pub before : List Event
  pub bringing : Event
  pub after : List Event
  pub among : es ≡ before ++ bringing ∷ after
  pub brings : Brings (surroundings_over a before) bringing w
  pub last : NoneBrings (surroundings_next (surroundings_over a before) bringing) after

-- The last word of a history: one that it brought so, or that of its beginning, where it brought none. At power-up that is 9B.
abbrev pub LastWord : Surroundings → List Event → ℕ → Type 0
LastWord a es w = BroughtBy a es w ⊎ ((w ≡ a.word) × NoneBrings a es)

-- What is promised of a read of control after the events es from the chip c, where a surrounds their beginning: if it is accepted, its byte has the
-- bits of the history's last word. That word has bit 7 set.
pub record ReadsBack (c : Chip) (a : Surroundings) (es : List Event) : Type 0 where
  pub word : ℕ
  pub is_last : LastWord a es word
  pub mode_bit : bit_of word 7 ≡ true
  pub answered : (d : ℕ) → (stepped (run c es) (event 1 3 d)).number ≡ 0 → (stepped (run c es) (event 1 3 d)).byte ≡ byte_by (bit_of word)
