-- The sum of eight bits is the byte that the definitions put together of them.
-- Rests on BitLaws.
use Rattle.std.proofs.Common.{◌≡◌, ◌∙◌, Bool, ℕ, ◌+◌, ◌*◌, ◌<◌, arith}
use Rattle.bits.specs.Bit.{num, value_of, assembled}
use Rattle.bits.specs.Sum.{byte_by}
use Rattle.bits.proofs.BitLaws.{assembled_same}

eight : (b₀ b₁ b₂ b₃ b₄ b₅ b₆ b₇ : ℕ)
    → b₀ + 2 * (b₁ + 2 * (b₂ + 2 * (b₃ + 2 * (b₄ + 2 * (b₅ + 2 * (b₆ + 2 * (b₇ + 2 * 0)))))))
    ≡ b₀ + 2 * b₁ + 4 * b₂ + 8 * b₃ + 16 * b₄ + 32 * b₅ + 64 * b₆ + 128 * b₇
eight b₀ b₁ b₂ b₃ b₄ b₅ b₆ b₇ = omega arith

byte_is : (f : ℕ → Bool) → assembled f ≡ byte_by f
unfolding value_of
byte_is f = eight (num (f 0)) (num (f 1)) (num (f 2)) (num (f 3)) (num (f 4)) (num (f 5)) (num (f 6)) (num (f 7))

pub byte_same : (f h : ℕ → Bool) → ((n : ℕ) → n < 8 → f n ≡ h n) → assembled f ≡ byte_by h
byte_same f h same = assembled_same f h same ∙ byte_is h
