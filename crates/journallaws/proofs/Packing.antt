-- Which event a word packs. Rests on journal's Packed.
use Rattle.std.proofs.Common.{◌≡◌, ◌∙◌, ap, sym, ℕ, ◌+◌, ◌*◌, ◌<◌, arith}
use Rattle.bus.specs.Event.{event}
use Rattle.journal.specs.Words.{word_of, event_in}
use Rattle.journal.proofs.Packed.{read_back}
use Rattle.journallaws.specs.Packing.{Packs}

pub packs : (k x d : ℕ) → x < 256 → d < 256 → Packs k x d
packs k x d below below' =
    let packing : word_of (event k x d) ≡ 65536 * k + 256 * x + d = omega arith in
    record { packing = packing; reading = ap event_in (sym packing) ∙ read_back (event k x d) below below' }
