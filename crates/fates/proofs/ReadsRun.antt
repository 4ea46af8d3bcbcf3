-- Reads of a strobed port run from the effect that takes a byte to the one that ends the read: from the history alone.
-- Rests on bits' Logic.
use Rattle.std.proofs.Common.{◌≡◌, refl, Bool, true, false, cond, ◌&&◌, ℕ, ltb, eqb}
use mathlib.Core.Bool.{and-false}
use Rattle.bits.specs.Bit.{bit_of}
use Rattle.bits.proofs.Logic.{contrary}
use Rattle.bus.specs.Event.{Event}
use Rattle.bus.specs.declared.Phase.{Phase}
use Rattle.bus.specs.declared.Phase.TheVariants.{Idle, Reading, Writing}
use Rattle.control.specs.declared.Group.{Group}
use Rattle.chip.specs.declared.channel.Side.TheVariants.{Input}
use Rattle.chip.specs.declared.Edition.{Edition}
use Rattle.fates.specs.Kinds.{Kind, reset, read_begun, cycle_ended, write_begun, new_levels, unknown, kind_of, readable_at, accepts}
use Rattle.fates.specs.Surroundings.{Surroundings, of_mode_word, surroundings_after, surroundings_next}
use Rattle.fates.specs.Effects.{Effect, offered, followed, taken, ended, cleared_away, forced_full, forced_empty, nothing, port_number, levels_on, full_pin, strobes, read_runs, of_pin, falls, under_low, when, effect_of, effect}
use Rattle.fates.specs.Discipline.{strobed_read_runs}

-- What an effect tells of a read of the strobed port before it (r) and after it (r'), where `on` is whether the port is strobed: only a
-- byte taken begins such a read, and nothing ends it but its end, a mode word and a reset. A flag is forced by a write, beside which no read
-- runs.
abbrev pub Reads : Bool → Bool → Bool → Effect → Type 0
Reads on r r' (offered v) = (on ≡ true) × (r' ≡ r)
Reads on r r' (followed v) = r' ≡ r
Reads on r r' taken = on ≡ true
Reads on r r' ended = (r ≡ true) × (r' ≡ false)
Reads on r r' cleared_away = r' ≡ false
Reads on r r' forced_full = r' ≡ false
Reads on r r' forced_empty = r' ≡ false
Reads on r r' nothing = r' ≡ r

begins : (on own : Bool) → Reads on (on && false) (on && own) (when on (when own taken))
begins true true = refl
begins true false = refl
begins false own = refl

ends : (on runs : Bool) → Reads on (on && runs) (on && false) (when on (when runs ended))
ends true true = (refl, refl)
ends true false = refl
ends false runs = refl

rests : (on : Bool) → Reads on (on && false) (on && false) (when on nothing)
rests true = refl
rests false = refl

levels_come : (on r fell low : Bool) (v u : ℕ) → Reads on r r (when on (cond fell (offered v) (when low (followed u))))
levels_come true r true low v u = (refl, refl)
levels_come true r false true v u = refl
levels_come true r false false v u = refl
levels_come false r fell low v u = refl

write_ends : (mode on on' own says : Bool)
    → Reads on (on && false) (on' && false) (cond mode cleared_away (when on (when own (cond says forced_full forced_empty))))
write_ends true on on' own says = and-false on'
write_ends false true on' true true = and-false on'
write_ends false true on' true false = and-false on'
write_ends false true on' false says = and-false on'
write_ends false false on' own says = and-false on'

-- Surroundings put together.
abbrev surroundings : Phase → Edition → ℕ → ℕ → ℕ → ℕ → Surroundings
surroundings ph ed w x y z = record { phase = ph; edition = ed; word = w; levels_a = x; levels_b = y; levels_c = z }

-- The bus is free where a cycle begins.
pub refused : (b : Bool) → (b && false) ≡ true → ⊥
refused b h = contrary _ (and-false b) h

module _ (g : Group) (ed : Edition) (w x y z : ℕ) where
  -- The word strobes the port's input.
  abbrev on : Bool
  on = strobes w g Input

  reads_on : (ph : Phase) (e : Kind) → accepts ed ph e ≡ true
      → Reads on (strobed_read_runs g (surroundings ph ed w x y z)) (strobed_read_runs g (surroundings_after (surroundings ph ed w x y z) e)) (effect_of g Input (surroundings ph ed w x y z) e)
  reads_on ph reset ok = and-false (strobes 0x9b g Input)
  reads_on Idle (read_begun p) ok = begins on (eqb p (port_number g))
  reads_on (Reading q) (read_begun p) ok = absurd (refused (readable_at ed p) ok)
  reads_on (Writing q d) (read_begun p) ok = absurd (refused (readable_at ed p) ok)
  reads_on Idle cycle_ended ok = absurd (contrary false refl ok)
  reads_on (Reading q) cycle_ended ok = ends on (eqb q (port_number g))
  reads_on (Writing q d) cycle_ended ok =
      write_ends (of_mode_word (Writing q d)) on (strobes (cond (of_mode_word (Writing q d)) d w) g Input) (of_pin (Writing q d) (full_pin g Input)) (bit_of d 0)
  reads_on Idle (write_begun p u) ok = rests on
  reads_on (Reading q) (write_begun p u) ok = absurd (refused (ltb p 4) ok)
  reads_on (Writing q d) (write_begun p u) ok = absurd (refused (ltb p 4) ok)
  reads_on ph (new_levels p u) ok =
      let a = surroundings ph ed w x y z in
      levels_come on (on && read_runs g ph) (falls g Input a p u) (under_low g a p) (levels_on g a) u
  reads_on ph unknown ok = absurd (contrary false refl ok)

-- The same of every event, accepted or refused.
pub reads_next : (g : Group) (a : Surroundings) (e : Event) → Reads (strobes a.word g Input) (strobed_read_runs g a) (strobed_read_runs g (surroundings_next a e)) (effect g Input a e)
reads_next g a e = go (accepts a.edition a.phase (kind_of e)) refl
  where
    go : (ok : Bool) → accepts a.edition a.phase (kind_of e) ≡ ok
        → Reads (strobes a.word g Input) (strobed_read_runs g a) (strobed_read_runs g (cond ok (surroundings_after a (kind_of e)) a)) (when ok (effect_of g Input a (kind_of e)))
    go true ok = reads_on g a.edition a.word a.levels_a a.levels_b a.levels_c a.phase (kind_of e) ok
    go false ok = refl
