-- Packing and reading, in plain numbers, and back.
-- Rests on Packing, and on journal's Packed.
use Rattle.journal.proofs.Packed.{packed_back, read_back}
use Rattle.journallaws.proofs.Packing.{packs}
use Rattle.journallaws.proofs.words_pack_events.Goals as goal

pub returns : goal.returns
returns c = record { packs = packs; read_back = read_back; packed_back = packed_back }
