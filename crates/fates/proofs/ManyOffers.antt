-- The tally of n offers is n modulo 65,536, without writing n of them out.
-- Rests on Powered.
use Rattle.std.proofs.Common.{◌≡◌, ◌∙◌, refl, ap, ℕ, zero, suc, ◌%◌, zero-add, arith}
use Rattle.bits.specs.Bit.{bit_of}
use Rattle.bus.specs.declared.Phase.TheVariants.{Idle}
use Rattle.control.specs.declared.Group.TheVariants.{A}
use Rattle.chip.specs.declared.channel.Side.TheVariants.{Input}
use Rattle.chip.specs.declared.channel.Fill.{Fill}
use Rattle.chip.specs.declared.channel.Fill.TheVariants.{Empty, Waiting}
use Rattle.chip.specs.declared.Edition.{Edition}
use Rattle.chip.specs.State.{all_high, power_up_as, tally_of}
use Rattle.laws.specs.Marked.{strobe}
use Rattle.fates.specs.Surroundings.{Surroundings}
use Rattle.fates.specs.Effects.{effects}
use Rattle.fates.specs.Left.{left}
use Rattle.fates.specs.Bytes.{bytes, offered_among}
use Rattle.fates.specs.Promise.{run}
use Rattle.fates.specs.Examples.{times, strobed_times}
use Rattle.fates.proofs.Powered.{offered_since}

-- Port A in mode 1, an input, with the levels x on its lines and every line of port C high.
abbrev strobing : Edition → ℕ → Surroundings
strobing ed x = record { phase = Idle; edition = ed; word = 0xb0; levels_a = x; levels_b = 0xff; levels_c = 0xff }

offers_of : (ed : Edition) (n v k x : ℕ) (f : Fill) (l : ℕ) → offered_among (bytes Input (left f l) k (effects A Input (strobing ed x) (times n (strobe v)))) ≡ n
unfolding bit_of
offers_of ed zero v k x f l = refl
offers_of ed (suc n) v k x f l = let rest = offers_of ed n v (suc (suc (suc k))) v Waiting v in omega (arith, rest)

pub many_offers : (ed : Edition) (n v : ℕ) → (tally_of (run (power_up_as ed all_high) (strobed_times n v)) A Input).offered ≡ n % 65536
unfolding bit_of
many_offers ed n v = offered_since ed all_high (strobed_times n v) A Input ∙ ap (λ k. k % 65536) (zero-add _ ∙ offers_of ed n v 3 0xff Empty 0)

pub seventy_thousand : (ed : Edition) → (tally_of (run (power_up_as ed all_high) (strobed_times 70000 0x41)) A Input).offered ≡ 4464
seventy_thousand ed = many_offers ed 70000 0x41
