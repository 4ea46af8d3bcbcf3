-- Where the device and the program mind IBF, no input byte is overwritten or swallowed: a read of the port that runs has always found
-- a byte there.
-- Rests on Shapes, Tables, SurroundingsKept, Followed, Counted and ReadsRun, on bits' Logic and laws' ChannelPins.
use Rattle.std.proofs.Common.{◌≡◌, ◌∙◌, refl, ap, sym, Bool, true, false, List, [], ◌∷◌, ℕ, suc, zero-add}
use Rattle.bits.proofs.Logic.{contrary}
use Rattle.bus.specs.Event.{Event}
use Rattle.control.specs.declared.Group.{Group}
use Rattle.control.specs.declared.Group.TheVariants.{A, B}
use Rattle.chip.specs.declared.channel.Side.TheVariants.{Input}
use Rattle.chip.specs.declared.channel.Fill.{Fill}
use Rattle.chip.specs.declared.channel.Fill.TheVariants.{Empty, Waiting, Fetching}
use Rattle.chip.specs.Channel.{flag_of}
use Rattle.chip.specs.declared.Edition.{Edition}
use Rattle.chip.specs.declared.Chip.{Chip}
use Rattle.chip.specs.declared.Levels.{Levels}
use Rattle.chip.specs.State.{power_up_as}
use Rattle.laws.proofs.ChannelPins.{flag_pin_lem}
use Rattle.fates.specs.Surroundings.{at_power_up, surroundings_next}
use Rattle.fates.specs.Effects.{Effect, offered, followed, taken, ended, cleared_away, forced_full, forced_empty, nothing, strobes}
use Rattle.fates.specs.Bytes.{Fate, overwritten, swallowed, waiting, Offer, offered_at, bytes_of, same, count}
use Rattle.fates.specs.Promise.{surroundings_of, all_bytes}
use Rattle.fates.specs.Discipline.{ibf, strobed_read_runs, HasFound, Minds, Disciplined, NoneLost}
use Rattle.fates.proofs.Tables.{strobes_same}
use Rattle.fates.proofs.SurroundingsKept.{surroundings_next_lem}
use Rattle.fates.proofs.Shapes.{shape_of, fill_after, gives, held_after}
use Rattle.fates.proofs.Followed.{after, fill, latch, effect_in, shape_in, story_of, next_fill, story_next}
use Rattle.fates.proofs.Counted.{count_decided, none_yet}
use Rattle.fates.proofs.ReadsRun.{refused, Reads, reads_next}

-- An effect that minds the flag loses no byte, and a read that runs after it has found one.
record Safe (f : Fill) (r' : Bool) (d : Effect) : Type 0 where
  not_overwritten : gives overwritten f (shape_of d) ≡ false
  not_swallowed : gives swallowed f (shape_of d) ≡ false
  found : r' ≡ true → fill_after Input f (shape_of d) ≡ Fetching

module _ (level on r r' : Bool) where
  minded : (f : Fill) (d : Effect) → (on ≡ true → level ≡ flag_of Input f) → (r ≡ true → f ≡ Fetching) → Reads on r r' d → Minds level d
      → Safe f r' d
  unfolding flag_of
  minded Empty (offered v) flag found reads minds = record { not_overwritten = refl; not_swallowed = refl; found = λ e. cc (found (sym reads.1 ∙ e)) }
  minded Waiting (offered v) flag found reads minds = absurd (contrary _ minds (flag reads.0))
  minded Fetching (offered v) flag found reads minds = absurd (contrary _ minds (flag reads.0))
  minded f (followed v) flag found reads minds = record { not_overwritten = refl; not_swallowed = refl; found = λ e. found (sym reads ∙ e) }
  minded Empty taken flag found reads minds = absurd (contrary _ (flag reads) minds)
  minded Waiting taken flag found reads minds = record { not_overwritten = refl; not_swallowed = refl; found = λ e. refl }
  minded Fetching taken flag found reads minds = record { not_overwritten = refl; not_swallowed = refl; found = λ e. refl }
  minded f ended flag found reads minds = record { not_overwritten = refl; not_swallowed = rw (found reads.0); found = λ e. cc reads.1 }
  minded f cleared_away flag found reads minds = record { not_overwritten = refl; not_swallowed = refl; found = λ e. cc }
  minded f forced_full flag found reads minds = record { not_overwritten = refl; not_swallowed = refl; found = λ e. cc reads }
  minded f forced_empty flag found reads minds = record { not_overwritten = refl; not_swallowed = refl; found = λ e. cc reads }
  minded f nothing flag found reads minds = record { not_overwritten = refl; not_swallowed = refl; found = λ e. found (sym reads ∙ e) }

module _ (g : Group) where
  -- The IBF pin is the channel's flag where the channel is strobed.
  flag_shown : (c : Chip) → strobes c.core.word g Input ≡ true → ibf c g ≡ flag_of Input (fill g Input c)
  flag_shown c on = flag_pin_lem c g Input (sym (strobes_same c.core.word g Input) ∙ on)

  safe : (c : Chip) (e : Event) → HasFound g c → Minds (ibf c g) (effect_in g Input c e)
      → Safe (fill g Input c) (strobed_read_runs g (surroundings_next (surroundings_of c) e)) (effect_in g Input c e)
  safe c e found =
      minded (ibf c g) (strobes c.core.word g Input) (strobed_read_runs g (surroundings_of c)) (strobed_read_runs g (surroundings_next (surroundings_of c) e))
      (fill g Input c) (effect_in g Input c e) (flag_shown c) found (reads_next g (surroundings_of c) e)

  pub found_next : (c : Chip) (e : Event) → HasFound g c → Minds (ibf c g) (effect_in g Input c e) → HasFound g (after c e)
  found_next c e found minds runs =
      next_fill g Input c e ∙ (safe c e found minds).found (ap (strobed_read_runs g) (sym (surroundings_next_lem c e)) ∙ runs)

  -- A fate that no event gives under the discipline is met by no byte.
  module _ (f : Fate) (tallied : same f waiting ≡ false)
      (spares : (c : Chip) (e : Event) → HasFound g c → Minds (ibf c g) (effect_in g Input c e) → gives f (fill g Input c) (shape_in g Input c e) ≡ false) where
    none_lost_lem : (c : Chip) (h : Offer) (n : ℕ) (es : List Event) → HasFound g c → Disciplined g (surroundings_of c) c es
        → count f (story_of g Input c h n es) ≡ 0
    none_lost_lem c h n [] found kept = none_yet f tallied Input (fill g Input c) h n
    none_lost_lem c h n (e ∷ es) found kept =
        let d = shape_in g Input c e in
        let next = held_after Input (fill g Input c) h n d in
        let rest = story_of g Input (after c e) next (suc n) es in
        ap (count f) (story_next g Input c e h n es)
        ∙ count_decided f tallied (fill g Input c) h n d rest
        ∙ rw (spares c e found kept.0)
        (zero-add (count f rest)
        ∙ none_lost_lem (after c e) next (suc n) es (found_next c e found kept.0) (rw (surroundings_next_lem c e) kept.1))

  -- From any chip on which a read of the strobed port, if one runs, has found a byte.
  pub disciplined_from : (c : Chip) → HasFound g c → (es : List Event) → Disciplined g (surroundings_of c) c es
      → NoneLost (all_bytes g Input c es)
  disciplined_from c found es kept =
      let h = offered_at 0 (latch g Input c) in
      record {
        none_overwritten = none_lost_lem overwritten refl (λ c e found minds. (safe c e found minds).not_overwritten) c h 1 es found kept;
        none_swallowed = none_lost_lem swallowed refl (λ c e found minds. (safe c e found minds).not_swallowed) c h 1 es found kept;
      }

-- No read runs at power-up.
pub no_read : (g : Group) (ed : Edition) (l : Levels) → HasFound g (power_up_as ed l)
no_read g ed l runs = absurd (refused (strobes 0x9b g Input) runs)

-- The discipline, from power-up.
pub disciplined : (g : Group) (ed : Edition) (l : Levels) (es : List Event) → Disciplined g (at_power_up ed l) (power_up_as ed l) es
    → NoneLost (bytes_of g Input ed l es)
disciplined A ed l es kept = disciplined_from A (power_up_as ed l) (no_read A ed l) es kept
disciplined B ed l es kept = disciplined_from B (power_up_as ed l) (no_read B ed l) es kept
