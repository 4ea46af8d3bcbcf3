-- A state of the older edition in which nothing was planted or struck comes back from its older image; and an older image tells such a state.
-- Rests on ComesBack.
use Rattle.std.proofs.Common.{◌≡◌, refl, sym, List, ℕ}
use Rattle.bus.specs.declared.Phase.{Phase}
use Rattle.bus.specs.declared.Phase.TheVariants.{Idle, Reading, Writing}
use Rattle.control.specs.declared.Group.TheVariants.{A, B}
use Rattle.chip.specs.declared.channel.Side.TheVariants.{Input, Output}
use Rattle.chip.specs.declared.channel.Channel.{Channel}
use Rattle.chip.specs.declared.Chip.{Chip}
use Rattle.image.specs.Layout.{five_tallies, fill_byte, written_byte}
use Rattle.image.specs.Loaded.{fill_as}
use Rattle.image.proofs.ComesBack.{channel_back, enables_back}
use Rattle.image.specs.OlderLayout.{bus_byte, address_byte, older_of}
use Rattle.image.specs.OlderLoaded.{channel_tally, phase_as, older_state}
use Rattle.image.specs.Before.{NoneForced, FromBefore}

phase_back : (ph : Phase) → phase_as (bus_byte ph) (address_byte ph) (written_byte ph) ≡ ph
phase_back Idle = refl
phase_back (Reading p) = refl
phase_back (Writing a d) = refl

five_back : (ch : Channel) → ch.tally.planted ≡ 0 → ch.tally.struck ≡ 0 →
    record {
      fill = fill_as (fill_byte ch.fill);
      latch = ch.latch;
      tally = channel_tally (five_tallies ch.tally) 0;
    } ≡ ch
five_back ch planted struck = channel_back ch 0 0 (sym planted) (sym struck)

pub comes_back : (c : Chip) → FromBefore c → older_state (older_of c) ≡ c
unfolding older_state older_of
comes_back c (older, none) = λ i. record {
  phase = phase_back c.phase i;
  edition = sym older i;
  core = record {
    word = c.core.word;
    a = record {
      input = five_back c.core.a.input (none A Input).0 (none A Input).1 i;
      output = five_back c.core.a.output (none A Output).0 (none A Output).1 i;
      outside = c.core.a.outside;
    };
    b = record {
      input = five_back c.core.b.input (none B Input).0 (none B Input).1 i;
      output = five_back c.core.b.output (none B Output).0 (none B Output).1 i;
      outside = c.core.b.outside;
    };
    c = c.core.c;
    inte = enables_back c.core.inte i;
  };
}

-- A chip that an older image tells is of the older edition, and nothing was planted or struck in it.
pub from_before : (o : List ℕ) → FromBefore (older_state o)
unfolding older_state
from_before o = (refl, none)
  where
    none : NoneForced (older_state o)
    none A Input = (refl, refl)
    none A Output = (refl, refl)
    none B Input = (refl, refl)
    none B Output = (refl, refl)
