-- Ports A and B where they go one way, in modes 0 and 1, by plain bits: an output drives its lines with its latch and is read as it; an input
-- is not driven, and keeps nothing that is written to it ("Writes and bit set/reset", "Reads and pins").
-- Rests on PlainBits, OwnPort, DrivenPorts, Falls, bits' Logic, chip's ConditionsLeft, WritesAfter, LevelsAfter, Ends and Outcome.
use Rattle.std.proofs.Common.{◌≡◌, ◌∙◌, refl, ap, sym, Bool, true, false, ◌&&◌, ℕ, eqb-true}
use mathlib.Core.Bool.{and-true, and-false}
use Rattle.bits.proofs.Logic.{either_way}
use Rattle.bus.specs.declared.Phase.TheVariants.{Writing}
use Rattle.control.specs.declared.Group.{Group}
use Rattle.control.specs.declared.Group.TheVariants.{A, B}
use Rattle.control.specs.Mode.{strobed_output, output_of}
use Rattle.chip.specs.declared.channel.Side.TheVariants.{Input, Output}
use Rattle.chip.specs.Moves.{after_offer}
use Rattle.chip.proofs.ConditionsLeft.{offer_latches}
use Rattle.chip.specs.declared.Core.{Core}
use Rattle.chip.specs.declared.Chip.{Chip}
use Rattle.chip.specs.State.{port_of, channel_of}
use Rattle.chip.specs.Handshakes.{strobed, own_address}
use Rattle.chip.specs.Write.{stored_by, after_write_ends}
use Rattle.chip.proofs.WritesAfter.{own_stored}
use Rattle.chip.proofs.LevelsAfter.{levels_word, levels_ports}
use Rattle.chip.specs.Reads.{read_port, read_of}
use Rattle.chip.specs.Pins.{pins_of}
use Rattle.chip.specs.Step.{step_of}
use Rattle.chip.proofs.Ends.{write_ends}
use Rattle.chip.proofs.Outcome.{step_accepts, step_either}
use Rattle.laws.specs.PlainBits.{handshake, output_only, input_only}
use Rattle.laws.specs.Ports.{Gives, Takes}
use Rattle.laws.proofs.PlainBits.{strobed_by_bits}
use Rattle.laws.proofs.OwnPort.{own_accepted, own_read}
use Rattle.laws.proofs.DrivenPorts.{OneWay, goes_out, goes_in, stores, output_pins, input_pins}
use Rattle.laws.proofs.Falls.{given_latch}

strobes : (w : ℕ) (g : Group) (inward : Bool) → OneWay w g inward → strobed w g Input ≡ (handshake w g && inward)
strobes w g inward one = strobed_by_bits w g Input ∙ rw (one.not_two, one.way)

-- An output drives and answers its latch, whatever the lines of port C are.
pub output_drives : (c : Chip) (g : Group) (a : ℕ) → own_address a g ≡ true → output_only c.core.word g ≡ true → Gives c g a
unfolding read_port
output_drives c g a own out =
    let w = c.core.word in
    let one = goes_out w g out in
    record {
      shows = output_pins c g a own out;
      answers = own_read c a g own ∙ rw (strobes w g false one, and-false (handshake w g), stores w g, one.not_two, one.way);
    }

-- An input drives nothing.
pub input_undriven : (c : Chip) (g : Group) (a : ℕ) → own_address a g ≡ true → input_only c.core.word g ≡ true → Takes c g a
unfolding read_port
input_undriven c g a own taking =
    let w = c.core.word in
    let one = goes_in w g taking in
    record {
      shows = input_pins c g a own taking;
      answers = own_read c a g own ∙ rw (strobes w g true one, and-true (handshake w g), stores w g, taking);
    }

-- The end of a write to an input changes nothing, and to any other port leaves the byte in its output latch.
unwritten : (c : Core) (a b : ℕ) (g : Group) → own_address a g ≡ true → output_of c.word g ≡ false → after_write_ends c a b ≡ c
unfolding after_write_ends stored_by
unwritten c a b A own taking = rw (eqb-true a 0 own, taking)
unwritten c a b B own taking = rw (eqb-true a 1 own, taking)

stored_latch : (c : Core) (a b : ℕ) (g : Group) → own_address a g ≡ true → output_of c.word g ≡ true → (port_of (after_write_ends c a b) g).output.latch ≡ b
stored_latch c a b g own out =
    let channel = channel_of c g Output in
    ap (λ ch. ch.latch) ((own_stored c a b g own).output g)
    ∙ rw (own, out) (either_way (λ ch. ch.latch) b (strobed_output c.word g) (after_offer channel b) _ (offer_latches channel b) refl)

module _ (c : Chip) (g : Group) (a b x d : ℕ) (phase : c.phase ≡ Writing a b) (own : own_address a g ≡ true) where
  pub write_to_input : input_only c.core.word g ≡ true → (step_of c 2 x d).state.core ≡ c.core
  write_to_input taking = rw (write_ends c a b x d phase) (unwritten c.core a b g own (stores c.core.word g ∙ rw (taking)))

  pub write_to_output : input_only c.core.word g ≡ false → (port_of (step_of c 2 x d).state.core g).output.latch ≡ b
  write_to_output giving = rw (write_ends c a b x d phase) (stored_latch c.core a b g own (stores c.core.word g ∙ rw (giving)))

  -- An output of mode 0 or 1 shows it from then on.
  pub output_shows : output_only c.core.word g ≡ true → pins_of (step_of c 2 x d).state a ≡ record { levels = b; driven = 0xff }
  output_shows out =
      let one = goes_out c.core.word g out in
      rw (write_ends c a b x d phase)
      ((output_drives _ g a own (rw (own_stored c.core a b g own).surroundings.word (out))).shows
      ∙ ap (λ (l : ℕ). record { levels = l; driven = 0xff }) (stored_latch c.core a b g own (stores c.core.word g ∙ rw (one.not_two, one.way))))

-- What is shown stays, whatever levels are put on any port from outside.
pub output_held : (c : Chip) (g : Group) (a x d : ℕ) → own_address a g ≡ true → output_only c.core.word g ≡ true
    → pins_of (step_of c 5 x d).state a ≡ pins_of c a
output_held c g a x d own out =
    step_either (λ c'. pins_of c' a ≡ pins_of c a) c 5 x d refl
    (λ ok. (output_drives _ g a own (rw (levels_word c.core x d) (out))).shows
    ∙ ap (λ (l : ℕ). record { levels = l; driven = 0xff }) (given_latch c.core g x d)
    ∙ sym (output_drives c g a own out).shows)

-- Without a handshake new levels are read at once.
pub input_follows : (c : Chip) (g : Group) (a d : ℕ) → own_address a g ≡ true → input_only c.core.word g ≡ true
    → handshake c.core.word g ≡ false → read_of (step_of c 5 a d).state a ≡ d
input_follows c g a d own taking none =
    let same = levels_word c.core a d in
    rw (step_accepts c 5 a d (own_accepted c.edition c.phase a g own))
    ((input_undriven _ g a own (rw (same) (taking))).answers ∙ rw (levels_ports c.core a d g, own, same, none))
