-- The five errors seen in other models, each forbidden in every state.
-- Rests on ReadBegins, ChannelPins, ModeWords and OtherModels.
use Rattle.std.proofs.Common.{◌≡◌, true, ℕ}
use Rattle.bits.specs.Bit.{bit_of}
use Rattle.bus.specs.declared.Phase.TheVariants.{Writing}
use Rattle.chip.specs.declared.Chip.{Chip}
use Rattle.chip.specs.Step.{step_of}
use Rattle.laws.specs.Anew.{Anew}
use Rattle.laws.proofs.ReadBegins.{begin_keeps_ibf}
use Rattle.laws.proofs.ChannelPins.{told_enable}
use Rattle.laws.proofs.ModeWords.{word_renews}
use Rattle.laws.proofs.OtherModels.{upper_left, read_elsewhere_keeps_intr}
use Rattle.laws.proofs.errors_of_other_models_are_forbidden.Goals as goal

same_word_renews : (c : Chip) (x d : ℕ) → c.phase ≡ Writing 3 c.core.word → bit_of c.core.word 7 ≡ true
    → Anew c.core c.core.word (step_of c 2 x d).state.core
same_word_renews c = word_renews c c.core.word

pub returns : goal.returns
returns c = record {
  ibf_as_a_read_begins = λ c g x d on. begin_keeps_ibf c g on x d;
  enable_in_a_read = told_enable;
  intr_at_other_reads = read_elsewhere_keeps_intr;
  upper_bits = upper_left;
  same_word = same_word_renews;
}
