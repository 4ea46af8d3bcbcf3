-- Port C, written and shown.
-- Rests on ChannelPins, PortC and LatchOfC, and on chip's Ends.
use Rattle.std.proofs.Common.{◌≡◌, ◌∙◌, refl, sym, ℕ, ◌<◌}
use Rattle.bus.specs.declared.Phase.TheVariants.{Writing}
use Rattle.chip.specs.declared.Chip.{Chip}
use Rattle.chip.specs.Write.{after_write_ends}
use Rattle.chip.specs.Step.{step_of}
use Rattle.chip.proofs.Ends.{write_ends}
use Rattle.laws.specs.PortC.{LinesWritten, LineShown}
use Rattle.laws.proofs.ChannelPins.{pin_by_role, told_by_role}
use Rattle.laws.proofs.PortC.{bits_written, driven_by_role, line_driven}
use Rattle.laws.proofs.LatchOfC.{latch_held}
use Rattle.laws.proofs.port_c_goes_by_plain_bits.Goals as goal

write_to_lines : (c : Chip) (b x d : ℕ) → c.phase ≡ Writing 2 b → LinesWritten c.core b (step_of c 2 x d).state.core
unfolding after_write_ends
write_to_lines c b x d phase = rw (write_ends c 2 b x d phase) (record {
  bits = bits_written c.core.word c.core.c.latch b;
  word = refl;
  a = refl;
  b = refl;
  levels = refl;
  enables = refl;
})

line_shown : (c : Chip) (n : ℕ) → n < 8 → LineShown c n
line_shown c n below = record {
  inside = λ on. told_by_role c n below ∙ sym (pin_by_role c n below ∙ rw (sym (driven_by_role c n below) ∙ on));
  outside = λ off. pin_by_role c n below ∙ rw (sym (driven_by_role c n below) ∙ off);
}

pub returns : goal.returns
returns c = record { written = write_to_lines; held = latch_held; drives = line_driven; shown = line_shown }
