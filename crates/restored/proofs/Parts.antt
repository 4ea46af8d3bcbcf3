-- The parts that an image and an older one have alike: the numbers of the layout are those of the table.
-- Rests on image's SameBytes.
use Rattle.std.proofs.Common.{◌≡◌, ◌∙◌, refl, ap, Bool, true, false, List, [], ◌∷◌, ℕ, zero, suc, ◌+◌, ◌*◌, ◌/◌, ◌%◌, arith, length, drop}
use Rattle.bits.specs.Bit.{value_of}
use Rattle.bits.specs.Table.{from}
use Rattle.bus.specs.declared.Phase.{Phase}
use Rattle.bus.specs.declared.Phase.TheVariants.{Idle, Reading, Writing}
use Rattle.chip.specs.declared.channel.Fill.{Fill}
use Rattle.chip.specs.declared.channel.Fill.TheVariants.{Empty, Waiting, Fetching}
use Rattle.chip.specs.declared.Enables.{Enables}
use Rattle.image.specs.Layout.{fill_byte, enables_byte, written_byte}
use Rattle.image.specs.Loaded.{byte_at}
use Rattle.image.specs.Good.{Bytes}
use Rattle.image.proofs.SameBytes.{small, spelled}
use Rattle.restored.specs.Table.{byte, count_at, condition_number, enables_number, written_number}

pub fill_told : (f : Fill) → condition_number f ≡ fill_byte f
fill_told Empty = refl
fill_told Waiting = refl
fill_told Fetching = refl

pub enables_told : (i o b : Bool) → let e : Enables = record { input = i; output = o; b = b } in enables_number e ≡ enables_byte e
unfolding value_of
enables_told true true true = refl
enables_told true true false = refl
enables_told true false true = refl
enables_told true false false = refl
enables_told false true true = refl
enables_told false true false = refl
enables_told false false true = refl
enables_told false false false = refl

pub written_told : (ph : Phase) → written_number ph ≡ written_byte ph
written_told Idle = refl
written_told (Reading p) = refl
written_told (Writing x d) = refl

-- A count is what its two bytes tell, and they are what is told of it.
pub two_bytes : (n : ℕ) {low high : ℕ} → n % 256 ≡ low → n / 256 ≡ high → n ≡ low + 256 * high
two_bytes n first second = omega (arith, first, second)

module _ (l : List ℕ) (bytes : Bytes l) (k : ℕ) {n : ℕ} (is : n ≡ count_at l k) where
  pub low_byte : n % 256 ≡ byte l k
  low_byte = omega (arith, is, small l bytes k)

  pub high_byte : n / 256 ≡ byte l (k + 1)
  high_byte = omega (arith, is, small l bytes k)

-- What stands behind a place are the bytes from there on.
shifted : (f : ℕ → ℕ) (i n : ℕ) → from f (suc i) n ≡ from (λ k. f (suc k)) i n
shifted f i zero = refl
shifted f i (suc n) = ap (λ (l : List ℕ). f (suc i) ∷ l) (shifted f (suc i) n)

pub behind : (l : List ℕ) (i n : ℕ) → length l ≡ i + n → from (byte_at l) i n ≡ drop i l
behind l zero n long = spelled l n (omega (arith, long))
behind [] (suc i) n long = absurd (omega (arith, long))
behind (b ∷ l) (suc i) n long = shifted (byte_at (b ∷ l)) i n ∙ behind l i n (omega (arith, long))
