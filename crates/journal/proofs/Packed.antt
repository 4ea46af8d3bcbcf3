-- Packing and reading are each other's inverse, and the kind of a frame is a byte.
-- Rests on bits' Logic and the bus's ByKind.
use Rattle.std.proofs.Common.{◌≡◌, true, ℕ, ◌/◌, ◌%◌, ◌<◌, arith}
use Rattle.bits.proofs.Logic.{both}
use Rattle.bus.specs.Kinds.{is_kind, operands_of}
use Rattle.bus.specs.Event.{Event}
use Rattle.bus.proofs.ByKind.{kind_small}
use Rattle.journal.specs.Words.{word_of, event_in, unused_zero, is_frame}

-- Every word is what it packs, packed again.
pub packed_back : (w : ℕ) → word_of (event_in w) ≡ w
packed_back w = omega arith

-- Every event whose operands are bytes is read back.
pub read_back : (e : Event) → e.first < 256 → e.second < 256 → event_in (word_of e) ≡ e
read_back e first second =
    let k : word_of e / 65536 ≡ e.kind = omega (arith, first, second) in
    let x : word_of e / 256 % 256 ≡ e.first = omega (arith, first, second) in
    let d : word_of e % 256 ≡ e.second = omega (arith, second) in
    λ i. record { kind = k i; first = x i; second = d i }

-- The kind of a frame is a byte, and more: it is below 06.
pub frame_small : (e : Event) → is_frame e ≡ true → e.kind < 6
unfolding is_frame
frame_small e frame = kind_small e.kind (both (is_kind e.kind) (unused_zero (operands_of e.kind) e) frame).0
