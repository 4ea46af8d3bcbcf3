-- Why the interrupt is quiet, in every state: the reason given is true, and the first that is; INTR is said to be high exactly where the
-- pin view shows it; and no group but A and B is explained ("Why the interrupt is quiet").
-- Rests on ChannelPins, Interrupts, and chip's ByReason and ByMode.
use Rattle.std.proofs.Common.{◌≡◌, ◌∙◌, refl, ap, sym, Bool, true, false, cond, not, ◌&&◌, ◌||◌, ℕ, zero, suc, arith, ltb, ne_eqb, lt-ltb}
use mathlib.Core.Bool.{or-true}
use Rattle.control.specs.declared.Group.{Group}
use Rattle.chip.specs.declared.channel.Side.{Side}
use Rattle.chip.specs.declared.channel.Side.TheVariants.{Input, Output}
use Rattle.chip.specs.declared.Chip.{Chip}
use Rattle.chip.specs.Handshakes.{strobed}
use Rattle.chip.specs.declared.reasons.Reason.TheVariants.{EnableOff, FlagWrong, LineLow, High}
use Rattle.chip.specs.Status.{request_of, intr_of}
use Rattle.chip.specs.Reasons.{holds, reason_of, explained_in, explained_of, is_high, says_high, numbers_of}
use Rattle.chip.proofs.ByReason.{by_reason, none_asks, named_high, quiet}
use Rattle.chip.proofs.ByMode.{by_mode, says_high_lem}
use Rattle.laws.specs.Seen.{pin, intr_pin}
use Rattle.laws.specs.Quiet.{seen, TrueOf, TrueOfGroup, intr_seen}
use Rattle.laws.specs.Halves.{half}
use Rattle.laws.proofs.ChannelPins.{intr_where, flag_pin_lem, line_pin_lem, intr_pin_lem, told_enable}
use Rattle.laws.proofs.Interrupts.{half_is}

either_raises : (c : Chip) (g : Group) (s : Side) → request_of c g s ≡ true → intr_of c g ≡ true
unfolding intr_of
either_raises c g Input asks = rw (asks)
either_raises c g Output asks = rw (asks) (or-true (request_of c g Input))

-- Of a half that is there, each reason is seen exactly where it holds, and a half that asks is seen.
module _ (c : Chip) (g : Group) (s : Side) (there : strobed c.core.word g s ≡ true) where
  off_seen : seen c g s EnableOff ≡ holds c g s EnableOff
  off_seen = ap not (told_enable c g s there)

  pub wrong_seen : seen c g s FlagWrong ≡ holds c g s FlagWrong
  wrong_seen = ap not (flag_pin_lem c g s there)

  pub low_seen : seen c g s LineLow ≡ holds c g s LineLow
  low_seen = ap not (line_pin_lem c g s there)

  pub asked_seen : request_of c g s ≡ true → seen c g s High ≡ true
  asked_seen asks = intr_pin_lem c g s there ∙ either_raises c g s asks

  true_of : TrueOf c g s (reason_of c g s)
  true_of = by_reason c g s (λ r. TrueOf c g s r)
      (λ off. record { there = there; is_so = off_seen ∙ off; is_first = tt })
      (λ on wrong. record { there = there; is_so = wrong_seen ∙ wrong; is_first = (off_seen ∙ on, tt) })
      (λ on right low. record { there = there; is_so = low_seen ∙ low; is_first = (off_seen ∙ on, (wrong_seen ∙ right, tt)) })
      (λ on right up runs. record { there = there; is_so = runs; is_first = (off_seen ∙ on, (wrong_seen ∙ right, (low_seen ∙ up, tt))) })
      (λ none. record {
        there = there;
        is_so = asked_seen (none_asks c g s there none);
        is_first = (off_seen ∙ none.on, (wrong_seen ∙ none.right, (low_seen ∙ none.up, (none.idle, tt))));
      })

-- The reason given is true of the state, and the first that is.
pub explained_true : (c : Chip) (g : Group) → TrueOfGroup c g (explained_in c g)
explained_true c g = by_mode c g (λ r. TrueOfGroup c g r)
    (λ mode i o. mode)
    (λ mode i o. (mode, true_of c g Input i))
    (λ mode i o. (mode, true_of c g Output o))
    (λ mode i o. (mode, (true_of c g Input i, true_of c g Output o)))

-- A half is named high exactly where the pins say that it is, in mode 2 each by itself.
pub half_named : (c : Chip) (g : Group) (s : Side) → strobed c.core.word g s ≡ true → is_high (reason_of c g s) ≡ half c g s
half_named c g s there = named_high c g s there ∙ half_is c g s there

-- High is said of a group exactly where the pin view shows its INTR high.
pub high_as_shown : (c : Chip) (g : Group) → says_high (explained_in c g) ≡ intr_seen c g
unfolding intr_of
high_as_shown c g =
    says_high_lem c g ∙ rw (intr_where c.core.word g) (go (strobed c.core.word g Input) (strobed c.core.word g Output) refl refl)
  where
    go : (i o : Bool) → strobed c.core.word g Input ≡ i → strobed c.core.word g Output ≡ o
        → intr_of c g ≡ ((i || o) && pin c (intr_pin g))
    go true o there _ = sym (intr_pin_lem c g Input there)
    go false true _ there = sym (intr_pin_lem c g Output there)
    go false false i o = rw (quiet c g Input i, quiet c g Output o)

-- Every state has an answer for groups 0 and 1, and 2 is given for every other number.
pub refused_above_1 : (c : Chip) (n : ℕ) → (numbers_of (explained_of c n)).number ≡ cond (ltb 1 n) 2 0
unfolding explained_of
refused_above_1 c zero = refl
refused_above_1 c (suc zero) = refl
refused_above_1 c (suc (suc n)) =
    let k : ℕ = suc (suc n) in
    rw (ne_eqb k 0 (λ e. omega (arith, e)), ne_eqb k 1 (λ e. omega (arith, e)), lt-ltb 1 k (omega arith))
