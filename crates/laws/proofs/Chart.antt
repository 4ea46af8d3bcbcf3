-- Without a handshake of either group the chip drives what the mode 0 chart has as outputs, in every state ("Mode words").
-- Rests on PlainBits, DrivenPorts, PortC and bits' Logic.
use Rattle.std.proofs.Common.{◌≡◌, ◌∙◌, refl, ap, Bool, true, false, cond, not, ◌&&◌, ◌||◌, ℕ, ◌<◌}
use mathlib.Core.Bool.{or-false}
use Rattle.bits.specs.Bit.{bit_of}
use Rattle.bits.proofs.Logic.{neither}
use Rattle.control.specs.declared.Group.{Group}
use Rattle.control.specs.declared.Group.TheVariants.{A, B}
use Rattle.control.specs.Mode.{input_of, upper_input, lower_input, directions_of}
use Rattle.chip.specs.declared.Chip.{Chip}
use Rattle.chip.specs.Handshakes.{own_address}
use Rattle.bus.specs.declared.Pins.{Pins}
use Rattle.chip.specs.Pins.{pins_of}
use Rattle.laws.specs.PlainBits.{goes_both_ways, handshake, into, used, into_c}
use Rattle.laws.specs.Chart.{LinesCharted, AsCharted}
use Rattle.laws.proofs.PlainBits.{by_pin}
use Rattle.laws.proofs.DrivenPorts.{output_pins, input_pins}
use Rattle.laws.proofs.PortC.{line_driven}

one_way_lem : (w : ℕ) (g : Group) → handshake w g ≡ false → goes_both_ways w g ≡ false
one_way_lem w A none = (neither (bit_of w 6) (bit_of w 5) none).0
one_way_lem w B none = refl

-- No handshake uses a pin.
none_on : (two one way : Bool) → two ≡ false → one ≡ false → (two || (one && way)) ≡ false
none_on two one way a b = rw (a, b)

unused : (w : ℕ) → handshake w A ≡ false → handshake w B ≡ false → (n : ℕ) → n < 8 → used w n ≡ false
unused w a b =
    let taking = none_on (goes_both_ways w A) (handshake w A) (into w A) (one_way_lem w A a) a in
    let giving = none_on (goes_both_ways w A) (handshake w A) (not (into w A)) (one_way_lem w A a) a in
    by_pin (λ n. used w n ≡ false) b b b a taking taking giving giving

module _ (c : Chip) where
  abbrev w : ℕ
  w = c.core.word

  port_charted : (g : Group) (a : ℕ) → own_address a g ≡ true → handshake w g ≡ false → (pins_of c a).driven ≡ cond (into w g) 0 0xff
  port_charted g a own none = go (into w g) refl
    where
      go : (inward : Bool) → into w g ≡ inward → (pins_of c a).driven ≡ cond inward 0 0xff
      go true way = ap (λ (p : Pins). p.driven) (input_pins c g a own (rw (one_way_lem w g none, way)))
      go false way = ap (λ (p : Pins). p.driven) (output_pins c g a own (rw (one_way_lem w g none, way)))

  lines_charted : handshake w A ≡ false → handshake w B ≡ false → LinesCharted c (directions_of w)
  unfolding upper_input lower_input
  lines_charted a b n hn = line_driven c n hn ∙ rw (unused w a b n hn) (ap not (or-false (into_c w n)))

  pub as_charted : handshake w A ≡ false → handshake w B ≡ false → AsCharted c (directions_of w)
  unfolding input_of
  as_charted a b = record { port_a = port_charted A 0 refl a; port_b = port_charted B 1 refl b; lines = lines_charted a b }
