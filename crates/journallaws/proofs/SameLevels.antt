-- Levels that are there already, and that go through to no latch that holds something else, leave the core as it is.
-- Rests on nothing.
use Rattle.std.proofs.Common.{◌≡◌, ◌∙◌, refl, ap, sym, Bool, true, false, cond, not, ◌&&◌, ℕ, eqb}
use mathlib.Core.Bool.{and-false}
use Rattle.bits.specs.Bit.{bit_of}
use Rattle.control.specs.declared.Group.{Group}
use Rattle.control.specs.declared.Group.TheVariants.{A, B}
use Rattle.chip.specs.declared.channel.Side.{Side}
use Rattle.chip.specs.declared.channel.Side.TheVariants.{Input, Output}
use Rattle.chip.specs.declared.channel.Channel.{Channel}
use Rattle.chip.specs.Moves.{after_follow}
use Rattle.chip.specs.declared.Port.{Port}
use Rattle.chip.specs.declared.Core.{Core}
use Rattle.chip.specs.State.{port_of, with_port}
use Rattle.chip.specs.Handshakes.{strobed, line_pin}
use Rattle.chip.specs.Levels.{fallen, edged, line_falls, edges_on, after_levels_on_c, lets_through, port_after_levels, after_levels}

-- Nothing falls where the levels stay.
none_falls : (l n : ℕ) → fallen l l n ≡ false
unfolding fallen
none_falls l n = go (bit_of l n)
  where
    go : (b : Bool) → (b && not b) ≡ false
    go true = refl
    go false = refl

no_edge : (c : Core) (g : Group) (s : Side) → line_falls c c.c.outside g s ≡ false
no_edge c g s = ap (λ b. strobed c.word g s && b) (none_falls c.c.outside (line_pin g s)) ∙ and-false (strobed c.word g s)

port_stays : (c : Core) (g : Group) → edges_on c c.c.outside g ≡ port_of c g
unfolding edged
port_stays c g = rw (no_edge c g Input, no_edge c g Output)

on_lines : (c : Core) → after_levels_on_c c c.c.outside ≡ c
unfolding after_levels_on_c
on_lines c = λ i. record { word = c.word; a = port_stays c A i; b = port_stays c B i; c = c.c; inte = c.inte }

-- A latch that holds the levels holds them after.
through : (ch : Channel) (on : Bool) (d : ℕ) → (on ≡ true → ch.latch ≡ d) → cond on (after_follow ch d) ch ≡ ch
unfolding after_follow
through ch true d holds = λ i. record { fill = ch.fill; latch = sym (holds refl) i; tally = ch.tally }
through ch false d holds = refl

on_port_lem : (p : Port) (on : Bool) (d : ℕ) → p.outside ≡ d → (on ≡ true → p.input.latch ≡ d) → port_after_levels p on d ≡ p
unfolding port_after_levels
on_port_lem p on d there holds = λ i. record { input = through p.input on d holds i; output = p.output; outside = sym there i }

-- By the port: C, A, B, or none.
pub levels_stay : (c : Core) (x d : ℕ) → (eqb x 2 ≡ true → c.c.outside ≡ d)
    → (eqb x 0 ≡ true → (c.a.outside ≡ d) × (lets_through c A ≡ true → c.a.input.latch ≡ d))
    → (eqb x 1 ≡ true → (c.b.outside ≡ d) × (lets_through c B ≡ true → c.b.input.latch ≡ d))
    → after_levels c x d ≡ c
unfolding after_levels
levels_stay c x d lines a b = go (eqb x 2) (eqb x 0) (eqb x 1) lines a b
  where
    go : (two zero one : Bool) → (two ≡ true → c.c.outside ≡ d)
        → (zero ≡ true → (c.a.outside ≡ d) × (lets_through c A ≡ true → c.a.input.latch ≡ d))
        → (one ≡ true → (c.b.outside ≡ d) × (lets_through c B ≡ true → c.b.input.latch ≡ d))
        → cond two (after_levels_on_c c d)
        (cond zero (with_port c A (port_after_levels c.a (lets_through c A) d)) (cond one (with_port c B (port_after_levels c.b (lets_through c B) d)) c)) ≡ c
    go true zero one lines a b = rw (← lines refl) (on_lines c)
    go false true one lines a b = ap (with_port c A) (on_port_lem c.a (lets_through c A) d (a refl).0 (a refl).1)
    go false false true lines a b = ap (with_port c B) (on_port_lem c.b (lets_through c B) d (b refl).0 (b refl).1)
    go false false false lines a b = refl
