-- The flag of a strobed channel after an event that leaves the mode word, and the falls of its line as the pins show them: the ground of
-- the theorems on the flags.
-- Rests on ChannelPins.
use Rattle.std.proofs.Common.{◌≡◌, ◌∙◌, refl, sym, subst, true, false, ◌&&◌, ℕ, eqb}
use Rattle.bits.specs.Bit.{bit_of}
use Rattle.bus.specs.Kinds.{is_kind}
use Rattle.bus.specs.Refusals.{number_of}
use Rattle.bus.specs.declared.Phase.{Phase}
use Rattle.control.specs.declared.Group.{Group}
use Rattle.chip.specs.declared.channel.Side.{Side}
use Rattle.chip.specs.declared.Edition.{Edition}
use Rattle.chip.specs.declared.Chip.{Chip}
use Rattle.chip.specs.Handshakes.{strobed, line_pin, flag_pin}
use Rattle.chip.specs.Status.{flag_at}
use Rattle.chip.specs.Levels.{fallen, line_falls}
use Rattle.chip.specs.Step.{limits}
use Rattle.laws.specs.Seen.{pin, lowers}
use Rattle.laws.proofs.ChannelPins.{flag_pin_lem, line_pin_lem}

-- The flag of a chip whose mode word is that of another, which strobes the channel.
pub flag_under : (c c' : Chip) (g : Group) (s : Side) → strobed c.core.word g s ≡ true
    → c'.core.word ≡ c.core.word → pin c' (flag_pin g s) ≡ flag_at c'.core g s
flag_under c c' g s on same =
    flag_pin_lem c' g s (subst (λ (w : ℕ). strobed w g s ≡ true) (sym same) on)

-- A line that falls, as the pins show it.
pub line_falls_lem : (c : Chip) (g : Group) (s : Side) (d : ℕ) → strobed c.core.word g s ≡ true
    → pin c (line_pin g s) ≡ true → bit_of d (line_pin g s) ≡ false → line_falls c.core d g s ≡ true
unfolding fallen
line_falls_lem c g s d on high low = rw (on, sym (line_pin_lem c g s on) ∙ high, low)

pub seen_falls : (c : Chip) (g : Group) (s : Side) (x d : ℕ) → strobed c.core.word g s ≡ true
    → (eqb x 2 && line_falls c.core d g s) ≡ lowers c g s x d
unfolding fallen
seen_falls c g s x d on = rw (on, line_pin_lem c g s on)

pub levels_accepted : (ed : Edition) (ph : Phase) → number_of (limits ed) ph 5 2 ≡ 0
unfolding number_of is_kind
levels_accepted ed ph = refl
