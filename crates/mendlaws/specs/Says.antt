-- Which line of a script says which event, in plain codes ("Script and program", "Mending captured scripts").
use Rattle.std.specs.Prelude.{◌≡◌, List, [], ◌∷◌, ℕ, ◌+◌, ◌*◌, ◌<◌, ◌≤◌}
use Rattle.bus.specs.Event.{Event, event}
use Rattle.text.specs.Lines.{Line, ended}

-- The digit that is worth n: 0 to 9 have the codes from 48 on, and A to F those from 65 on.
pub data Digit (code n : ℕ) : Type 0 where
  figure : n < 10 → code ≡ 48 + n → Digit code n
  letter : 10 ≤ n → n < 16 → code ≡ 55 + n → Digit code n

-- Two digits write a byte.
pub record Byte (high low b : ℕ) : Type 0 where
  pub sixteens : ℕ
  pub ones : ℕ
  pub first : Digit high sixteens
  pub second : Digit low ones
  pub worth : b ≡ 16 * sixteens + ones

-- A line, without its LF, says an event where it is 00; 01 and an address; 02; 03, an address and a byte; or 05, a port and levels. No other
-- line says one: not 04, and not one with an operand more or less.
pub data Says : List ℕ → Event → Type 0 where
  reset : Says (48 ∷ 48 ∷ []) (event 0 0 0)
  begin_read : {h l a : ℕ} → Byte h l a → Says (48 ∷ 49 ∷ h ∷ l ∷ []) (event 1 a 0)
  end_cycle : Says (48 ∷ 50 ∷ []) (event 2 0 0)
  begin_write : {h l h' l' a d : ℕ} → Byte h l a → Byte h' l' d → Says (48 ∷ 51 ∷ h ∷ l ∷ h' ∷ l' ∷ []) (event 3 a d)
  levels : {h l h' l' p d : ℕ} → Byte h l p → Byte h' l' d → Says (48 ∷ 53 ∷ h ∷ l ∷ h' ∷ l' ∷ []) (event 5 p d)

-- A line says some event.
abbrev pub SaysAnEvent : List ℕ → Type 0
SaysAnEvent bytes = (e : Event) × Says bytes e

-- Lines of which each says an event and has its LF, and these events: none of the lines is malformed.
pub data AllSay : List Line → List Event → Type 0 where
  none : AllSay [] []
  next : {bytes : List ℕ} {e : Event} {ls : List Line} {es : List Event} → Says bytes e → AllSay ls es → AllSay (ended bytes ∷ ls) (e ∷ es)
