-- The comparison of two chips that is derived for the code answers exactly whether they are equal.
-- Rests on Exact, and on bits' Logic.
use Rattle.std.proofs.Common.{rules, ◌≡◌, refl, sym, subst, true, false, ◌&&◌, Bool, ℕ, eqb, eqb-true, eq-eqb}
use Rattle.bits.proofs.Logic.{both, contrary}
use Rattle.bus.specs.declared.Phase.{Phase}
use Rattle.bus.specs.contracts.PhasePartialEq.TheImpl as phases
use Rattle.chip.specs.declared.channel.Fill.{Fill}
use Rattle.chip.specs.declared.channel.Tally.{Tally}
use Rattle.chip.specs.declared.channel.Channel.{Channel}
use Rattle.chip.specs.contracts.channel.FillPartialEq.TheImpl as fills
use Rattle.chip.specs.contracts.channel.TallyPartialEq.TheImpl as tallies
use Rattle.chip.specs.contracts.channel.ChannelPartialEq.TheImpl as channels
use Rattle.chip.specs.declared.Port.{Port}
use Rattle.chip.specs.declared.PortC.{PortC}
use Rattle.chip.specs.declared.Enables.{Enables}
use Rattle.chip.specs.declared.Core.{Core}
use Rattle.chip.specs.declared.Edition.{Edition}
use Rattle.chip.specs.declared.Chip.{Chip}
use Rattle.chip.specs.contracts.PortPartialEq.TheImpl as ports
use Rattle.chip.specs.contracts.PortCPartialEq.TheImpl as lines
use Rattle.chip.specs.contracts.EnablesPartialEq.TheImpl as enabled
use Rattle.chip.specs.contracts.CorePartialEq.TheImpl as cores
use Rattle.chip.specs.contracts.EditionPartialEq.TheImpl as editions
use Rattle.chip.specs.contracts.ChipPartialEq.TheImpl as chips
use Rattle.journal.specs.Same.{same_state}
use Rattle.journal.proofs.Exact.{then, other_state}

-- Where it says so, the parts are equal, and with them the whole.
phase : (p q : Phase) → phases.ghosts.eq p q ≡ true → p ≡ q
phase p q h = search rules

edition : (p q : Edition) → editions.ghosts.eq p q ≡ true → p ≡ q
edition p q h = search rules

fill : (p q : Fill) → fills.ghosts.eq p q ≡ true → p ≡ q
fill p q h = search rules

tally : (p q : Tally) → tallies.ghosts.eq p q ≡ true → p ≡ q
tally p q h = search rules

enables : (p q : Enables) → enabled.ghosts.eq p q ≡ true → p ≡ q
enables p q h = search rules

port_c : (p q : PortC) → lines.ghosts.eq p q ≡ true → p ≡ q
port_c p q h = search rules

channel : (p q : Channel) → channels.ghosts.eq p q ≡ true → p ≡ q
channel p q h = search (rules, fill, tally)

port : (p q : Port) → ports.ghosts.eq p q ≡ true → p ≡ q
port p q h =
    let a = both (channels.ghosts.eq p.input q.input) _ h in
    let b = both (channels.ghosts.eq p.output q.output) (eqb p.outside q.outside) a.1 in
    λ i. record { input = channel p.input q.input a.0 i; output = channel p.output q.output b.0 i; outside = eqb-true p.outside q.outside b.1 i }

core : (p q : Core) → cores.ghosts.eq p q ≡ true → p ≡ q
core p q h =
    let w = both (eqb p.word q.word) _ h in
    let a = both (ports.ghosts.eq p.a q.a) _ w.1 in
    let b = both (ports.ghosts.eq p.b q.b) _ a.1 in
    let c = both (lines.ghosts.eq p.c q.c) (enabled.ghosts.eq p.inte q.inte) b.1 in
    λ i. record {
      word = eqb-true p.word q.word w.0 i;
      a = port p.a q.a a.0 i;
      b = port p.b q.b b.0 i;
      c = port_c p.c q.c c.0 i;
      inte = enables p.inte q.inte c.1 i;
    }

chip : (p q : Chip) → chips.ghosts.eq p q ≡ true → p ≡ q
chip p q h =
    let a = both (phases.ghosts.eq p.phase q.phase) _ h in
    let b = both (editions.ghosts.eq p.edition q.edition) (cores.ghosts.eq p.core q.core) a.1 in
    λ i. record { phase = phase p.phase q.phase a.0 i; edition = edition p.edition q.edition b.0 i; core = core p.core q.core b.1 i }

-- It says so of what is equal.
together : {a b : Bool} → a ≡ true → b ≡ true → (a && b) ≡ true
together h k = λ i. h i && k i

number : (x : ℕ) → eqb x x ≡ true
number x = eq-eqb x x refl

phase_self : (p : Phase) → phases.ghosts.eq p p ≡ true
phase_self p = search rules

edition_self : (p : Edition) → editions.ghosts.eq p p ≡ true
edition_self p = search rules

port_c_self : (p : PortC) → lines.ghosts.eq p p ≡ true
port_c_self p = search rules

enables_self : (p : Enables) → enabled.ghosts.eq p p ≡ true
enables_self p = search rules

channel_self : (p : Channel) → channels.ghosts.eq p p ≡ true
channel_self p = search rules

port_self : (p : Port) → ports.ghosts.eq p p ≡ true
port_self p = together (channel_self p.input) (together (channel_self p.output) (number p.outside))

chip_self : (p : Chip) → chips.ghosts.eq p p ≡ true
chip_self p =
    together (phase_self p.phase)
    (together (edition_self p.edition)
    (together (number p.core.word)
    (together (port_self p.core.a) (together (port_self p.core.b) (together (port_c_self p.core.c) (enables_self p.core.inte))))))

-- So it answers what the definition's test does.
module _ (c d : Chip) where
  others : chips.ghosts.eq d c ≡ false → ¬ (c ≡ d)
  others differ same = contrary (chips.ghosts.eq d c) differ (subst (λ (e : Chip). chips.ghosts.eq e c ≡ true) same (chip_self c))

  pub agree : chips.ghosts.eq d c ≡ same_state c d
  agree = go (chips.ghosts.eq d c) refl
    where
      go : (b : Bool) → chips.ghosts.eq d c ≡ b → b ≡ same_state c d
      go true is = sym (then c d (sym (chip d c is)))
      go false is = sym (other_state c d (others is))
