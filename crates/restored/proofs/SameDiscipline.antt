-- The discipline by the answers is the discipline by the chip.
-- Rests on Holds, on account's Account, and on fates' Followed.
use Rattle.std.proofs.Common.{◌≡◌, refl, ap₂, Bool, true, false, List, [], ◌∷◌, ℕ, ◌/◌, ◌%◌, ◌<◌, arith}
use Rattle.bits.specs.Bit.{num}
use Rattle.bits.specs.Sum.{byte_by}
use Rattle.bus.specs.Event.{Event}
use Rattle.control.specs.declared.Group.{Group}
use Rattle.chip.specs.declared.channel.Side.TheVariants.{Input}
use Rattle.chip.specs.declared.Chip.{Chip}
use Rattle.chip.specs.Pins.{pins_of}
use Rattle.fates.specs.Surroundings.{Surroundings, surroundings_next}
use Rattle.fates.specs.Effects.{effect}
use Rattle.fates.specs.Discipline.{ibf, Minds, Disciplined}
use Rattle.fates.proofs.Followed.{after}
use Rattle.account.specs.Views.{pin_level}
use Rattle.account.specs.Promise.{account_of}
use Rattle.account.proofs.Account.{account_from}
use Rattle.calls.specs.Calls.{packed}
use Rattle.restored.specs.Host.{passed, Holds}
use Rattle.restored.specs.Answers.{ibf_answered, HostDisciplined}
use Rattle.restored.proofs.Holds.{holds_next, pins_held}

-- The levels of port C are a byte, so that they can be taken out of the answer.
bit_below : (b : Bool) → num b < 2
bit_below true = omega arith
bit_below false = omega arith

byte_below : (f : ℕ → Bool) → byte_by f < 256
byte_below f =
    omega (arith, bit_below (f 0), bit_below (f 1), bit_below (f 2), bit_below (f 3), bit_below (f 4), bit_below (f 5), bit_below (f 6), bit_below (f 7))

lines_below : (c : Chip) → (pins_of c 2).levels < 256
lines_below c = rw ((account_from c []).levels 2) (byte_below (pin_level (account_of c)))

taken_out : (levels driven : ℕ) → levels < 256 → packed 0 levels driven / 256 % 256 ≡ levels
taken_out levels driven small = omega arith

ibf_held : (g : Group) (l : List ℕ) (c : Chip) → Holds l c → ibf_answered l g ≡ ibf c g
ibf_held g l c h = rw (pins_held l c h 2, taken_out _ _ (lines_below c))

-- So the one can be kept exactly where the other can.
pub same_discipline : (g : Group) (a : Surroundings) (l : List ℕ) (c : Chip) (es : List Event) → Holds l c
    → HostDisciplined g a l es ≡ Disciplined g a c es
same_discipline g a l c [] h = refl
same_discipline g a l c (e ∷ es) h =
    ap₂ (λ (level : Bool) (rest : Type 0). Minds level (effect g Input a e) × rest) (ibf_held g l c h)
    (same_discipline g (surroundings_next a e) (passed l e) (after c e) es (holds_next l c h e))
