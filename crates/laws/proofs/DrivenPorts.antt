-- Which of ports A and B the chip drives, by plain bits: an output of mode 0 or 1, and no input of either ("Reads and pins").
-- Rests on PlainBits, OwnPort and bits' Logic.
use Rattle.std.proofs.Common.{◌≡◌, ◌∙◌, refl, Bool, true, false, not, ◌&&◌, ◌||◌, ℕ}
use borrow.Author.Tests.{not-true}
use Rattle.bits.proofs.Logic.{both}
use Rattle.control.specs.declared.Group.{Group}
use Rattle.control.specs.declared.Group.TheVariants.{A, B}
use Rattle.control.specs.Mode.{output_of}
use Rattle.chip.specs.declared.Core.{Core}
use Rattle.chip.specs.declared.Chip.{Chip}
use Rattle.chip.specs.State.{port_of}
use Rattle.chip.specs.Handshakes.{own_address}
use Rattle.chip.specs.Pins.{drives_port, pins_of_port, pins_of}
use Rattle.laws.specs.PlainBits.{goes_both_ways, into, output_only, input_only}
use Rattle.laws.proofs.PlainBits.{two_by_bit, direction_by_bit}
use Rattle.laws.proofs.OwnPort.{own_pins}

-- A port that is not in mode 2, and has a direction.
pub record OneWay (w : ℕ) (g : Group) (inward : Bool) : Type 0 where
  pub not_two : goes_both_ways w g ≡ false
  pub way : into w g ≡ inward

pub goes_out : (w : ℕ) (g : Group) → output_only w g ≡ true → OneWay w g false
goes_out w g out =
    let e = both (not (goes_both_ways w g)) (not (into w g)) out in record { not_two = not-true (goes_both_ways w g) e.0; way = not-true (into w g) e.1 }

pub goes_in : (w : ℕ) (g : Group) → input_only w g ≡ true → OneWay w g true
goes_in w g taking = let e = both (not (goes_both_ways w g)) (into w g) taking in record { not_two = not-true (goes_both_ways w g) e.0; way = e.1 }

-- What the definitions ask of it. Every port but one that is only an input stores what is written to it.
pub stores : (w : ℕ) (g : Group) → output_of w g ≡ not (input_only w g)
unfolding output_of
stores w g = rw (two_by_bit w g, direction_by_bit w g) (go (goes_both_ways w g) (into w g))
  where
    go : (two way : Bool) → (two || not way) ≡ not (not two && way)
    go true way = refl
    go false way = refl

pub drives : (c : Core) (g : Group) (inward : Bool) → OneWay c.word g inward → drives_port c g ≡ not inward
unfolding drives_port
drives c A inward one = rw (two_by_bit c.word A, one.not_two) (stores c.word A ∙ rw (one.not_two, one.way))
drives c B inward one = stores c.word B ∙ rw one.way

pub output_pins : (c : Chip) (g : Group) (a : ℕ) → own_address a g ≡ true → output_only c.core.word g ≡ true
    → pins_of c a ≡ record { levels = (port_of c.core g).output.latch; driven = 0xff }
unfolding pins_of_port
output_pins c g a own out = own_pins c a g own ∙ rw (drives c.core g false (goes_out c.core.word g out))

pub input_pins : (c : Chip) (g : Group) (a : ℕ) → own_address a g ≡ true → input_only c.core.word g ≡ true
    → pins_of c a ≡ record { levels = (port_of c.core g).outside; driven = 0 }
unfolding pins_of_port
input_pins c g a own taking = own_pins c a g own ∙ rw (drives c.core g true (goes_in c.core.word g taking))
