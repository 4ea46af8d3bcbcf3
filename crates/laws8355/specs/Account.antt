-- The account of the 8355: four registers by their addresses, the lines of two ports, and the document's figure of one pin, worked out from the
-- events alone ("The 8355 ports").
use Rattle.std.specs.Prelude.{Bool, cond, ◌&&◌, [], ◌∷◌, ℕ, ◌+◌, eqb, ltb, get_or}
use Rattle.bits.specs.Bit.{bit_of}
use Rattle.bits.specs.Sum.{byte_by}
use Rattle.bus.specs.Event.{Event}
use Rattle.bus.specs.declared.Phase.{Phase}
use Rattle.bus.specs.declared.Phase.TheVariants.{Idle}
use Rattle.laws8355.specs.Table.{Act, nothing, reset, written, levels, row_of}

-- What runs on the bus; what the register at each address holds, the output latches of A and B at 0 and 1 and their direction registers at 2 and
-- 3; and the levels that the outside puts on each port.
pub record Account : Type 0 where
  pub phase : Phase
  pub register : ℕ → ℕ
  pub lines : ℕ → ℕ

-- The register at x, which holds v. The byte of a write goes whole into the register that it is for. A reset clears those from 2 on, and no latch.
abbrev pub register_after : ℕ → ℕ → Act → ℕ
register_after x v nothing = v
register_after x v reset = cond (ltb x 2) v 0
register_after x v (written y d) = cond (eqb y x) d v
register_after x v (levels y d) = v

-- The lines of port p, at the levels v, which the outside alone changes.
abbrev pub lines_after : ℕ → ℕ → Act → ℕ
lines_after p v nothing = v
lines_after p v reset = v
lines_after p v (written y d) = v
lines_after p v (levels y d) = cond (eqb y p) d v

-- All of it after an act that leaves the phase ph.
abbrev pub account_after : Account → Phase → Act → Account
account_after a ph t = record {
  phase = ph;
  register = λ x. register_after x (a.register x) t;
  lines = λ p. lines_after p (a.lines p) t;
}

-- After an event: a refused one changes nothing.
abbrev pub account_next : Account → Event → Account
account_next a e = let r = row_of a.phase e in cond (eqb r.number 0) (account_after a r.leaves r.act) a

-- At power-up every register holds 00, and every line is high.
abbrev pub opened : Account
opened = record { phase = Idle; register = λ x. 0; lines = λ p. 0xff }

-- Pin n of port p: where the direction register has a one, its buffer is enabled, and it shows the latch; else it shows the line.
abbrev pub pin : Account → ℕ → ℕ → Bool
pin a p n = cond (bit_of (a.register (p + 2)) n) (bit_of (a.register p) n) (bit_of (a.lines p) n)

-- Ports A and B: the levels of the pins, and the mask of those whose buffer is enabled. There is no other port.
abbrev pub levels_shown : Account → ℕ → ℕ
levels_shown a p = get_or (byte_by (pin a 0) ∷ byte_by (pin a 1) ∷ []) p 0

abbrev pub mask_shown : Account → ℕ → ℕ
mask_shown a p = get_or (a.register 2 ∷ a.register 3 ∷ []) p 0

-- The number and the byte of an event. Only a read that is accepted has a byte: what the pins show, inputs and outputs.
abbrev pub number_by : Account → Event → ℕ
number_by a e = (row_of a.phase e).number

abbrev pub byte_answered : Account → Event → ℕ
byte_answered a e = cond (eqb e.kind 1 && eqb (number_by a e) 0) (levels_shown a e.first) 0
