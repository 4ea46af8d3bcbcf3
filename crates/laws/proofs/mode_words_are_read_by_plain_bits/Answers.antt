-- What the mode word says, by its plain bits.
-- Rests on PlainBits.
use Rattle.laws.proofs.PlainBits.{mode_by_bits, direction_by_bit, strobed_by_bits, role_by_bits}
use Rattle.laws.proofs.mode_words_are_read_by_plain_bits.Goals as goal

pub returns : goal.returns
returns c = record { mode = mode_by_bits; direction = direction_by_bit; handshakes = strobed_by_bits; roles = role_by_bits }
