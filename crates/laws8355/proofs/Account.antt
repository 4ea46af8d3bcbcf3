-- Where a device and an account agree, levels are shown and an event is answered as the account says.
-- Rests on Agrees, Numbers and Ports, on bits' Sum and on the bus's Outcomes.
use Rattle.std.proofs.Common.{◌≡◌, ◌∙◌, refl, ap, sym, Bool, true, false, cond, ◌&&◌, ℕ, zero, suc, ◌+◌, eqb, lit<, ne_eqb}
use Rattle.bits.specs.Bit.{bit_of, blend_of}
use Rattle.bits.specs.Sum.{byte_by}
use Rattle.bits.proofs.Sum.{byte_same}
use Rattle.bus.specs.Event.{Event}
use Rattle.bus.specs.declared.Phase.{Phase}
use Rattle.bus.specs.Device.{Given}
use Rattle.bus.proofs.Outcomes.{outcomes, number_given}
use Rattle.i8355.specs.declared.Port.{Port}
use Rattle.i8355.specs.declared.Chip8355.{Chip8355}
use Rattle.i8355.specs.Views.{shown_by, pins_of}
use Rattle.i8355.specs.Step.{device, step_of, stepped}
use Rattle.laws8355.specs.Table.{row_of}
use Rattle.laws8355.specs.Account.{Account, pin, levels_shown, number_by, byte_answered}
use Rattle.laws8355.proofs.Numbers.{number_same}
use Rattle.laws8355.proofs.Ports.{above}
use Rattle.laws8355.proofs.Agrees.{Agrees}

-- A port shows what the pins of its registers and its lines show.
shown : (a : Account) (p : ℕ) (q : Port) → a.register (p + 2) ≡ q.direction → a.register p ≡ q.latch → a.lines p ≡ q.outside
    → shown_by q ≡ byte_by (pin a p)
unfolding shown_by blend_of
shown a p q direction latch outside =
    byte_same (λ n. cond (bit_of q.direction n) (bit_of q.latch n) (bit_of q.outside n)) (pin a p) (λ n small. rw (direction, latch, outside))

module _ (c : Chip8355) (a : Account) (k : Agrees c a) where
  pub levels_shown_lem : (p : ℕ) → (pins_of c p).levels ≡ levels_shown a p
  unfolding pins_of
  levels_shown_lem zero = shown a 0 c.ports.a k.holds.1.0.0 k.holds.0.0 k.holds.1.1.0
  levels_shown_lem (suc zero) = shown a 1 c.ports.b k.holds.1.0.1 k.holds.0.1 k.holds.1.1.1
  levels_shown_lem (suc (suc p)) = rw (above p 0 (lit< tt), above p 1 (lit< tt))

  pub number_told_lem : (e : Event) → (stepped c e).number ≡ number_by a e
  unfolding step_of
  number_told_lem e =
      number_given device c e.kind e.first e.second ∙ number_same c.phase e.kind e.first e.second
      ∙ sym (ap (λ (ph : Phase). (row_of ph e).number) k.phase)

  pub byte_told_lem : (e : Event) → (stepped c e).byte ≡ byte_answered a e
  unfolding step_of
  byte_told_lem e =
      outcomes device c e.kind e.first e.second
      (λ (o : Given Chip8355). o.byte ≡ cond (eqb e.kind 1 && eqb o.number 0) (levels_shown a e.first) 0)
      (λ no. rw (ne_eqb _ _ no) (sym (none (eqb e.kind 1))))
      (λ ok. answers (eqb e.kind 1))
      ∙ ap (λ (n : ℕ). cond (eqb e.kind 1 && eqb n 0) (levels_shown a e.first) 0) (number_told_lem e)
    where
      none : (b : Bool) → cond (b && false) (levels_shown a e.first) 0 ≡ 0
      none true = refl
      none false = refl

      answers : (b : Bool) → cond b (pins_of c e.first).levels 0 ≡ cond (b && true) (levels_shown a e.first) 0
      answers true = levels_shown_lem e.first
      answers false = refl
