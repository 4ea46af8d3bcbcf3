-- What is promised of the 8355's numbers, bytes and pins, by the account of a history.
use Rattle.std.specs.Prelude.{◌≡◌, List, [], ◌∷◌, ℕ, get_or}
use Rattle.bus.specs.Event.{Event}
use Rattle.bus.specs.Device.{run_in}
use Rattle.i8355.specs.declared.Chip8355.{Chip8355}
use Rattle.i8355.specs.Views.{pins_of}
use Rattle.i8355.specs.Step.{device, stepped}
use Rattle.laws8355.specs.Account.{Account, account_next, levels_shown, mask_shown, number_by, byte_answered}

-- The device after a history.
abbrev pub run : Chip8355 → List Event → Chip8355
run c es = run_in device c es

-- The account after it.
abbrev pub over : Account → List Event → Account
over a [] = a
over a (e ∷ es) = over (account_next a e) es

-- The account with which a history begins from a device as it stands, reached by a history or not.
abbrev pub account_of : Chip8355 → Account
account_of c = record {
  phase = c.phase;
  register = λ x. get_or (c.ports.a.latch ∷ c.ports.b.latch ∷ c.ports.a.direction ∷ c.ports.b.direction ∷ []) x 0;
  lines = λ p. get_or (c.ports.a.outside ∷ c.ports.b.outside ∷ []) p 0;
}

-- What is promised after the events es from the device c, where a is the account of their beginning: the number and the byte of whatever event comes
-- next, and of each port the levels and the mask of the pins that the device drives.
pub record Accounted (c : Chip8355) (a : Account) (es : List Event) : Type 0 where
  pub number : (e : Event) → (stepped (run c es) e).number ≡ number_by (over a es) e
  pub byte : (e : Event) → (stepped (run c es) e).byte ≡ byte_answered (over a es) e
  pub levels : (p : ℕ) → (pins_of (run c es) p).levels ≡ levels_shown (over a es) p
  pub driven : (p : ℕ) → (pins_of (run c es) p).driven ≡ mask_shown (over a es) p
