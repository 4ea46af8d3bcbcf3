-- What the tally call answers are the counts of the history's bytes, on top of the tallies at the start.
-- Rests on Holds and Header.
use Rattle.std.proofs.Common.{◌≡◌, ◌∙◌, refl, ap, sym, Bool, true, false, cond, ◌||◌, List, ℕ, zero, suc, ◌+◌, ◌*◌, ◌/◌, ◌%◌, ◌≤◌, arith, ltb, get_or, ltb-false}
use Rattle.bus.specs.Event.{Event}
use Rattle.control.specs.declared.Group.{Group}
use Rattle.chip.specs.declared.channel.Side.{Side}
use Rattle.chip.specs.declared.channel.Tally.{Tally}
use Rattle.chip.specs.declared.Chip.{Chip}
use Rattle.chip.specs.State.{no_tally, tally_of}
use Rattle.fates.specs.Bytes.{Byte}
use Rattle.fates.specs.Promise.{run, Fates}
use Rattle.calls.specs.Calls.{or_none, last_channel, last_tally, group_numbered, side_numbered, counter_numbered, tally_answer}
use Rattle.restored.specs.Host.{host_run, Holds}
use Rattle.restored.specs.Header.{by_channel, entry}
use Rattle.restored.specs.Answers.{counts, tally_by}
use Rattle.restored.proofs.Header.{channel_numbered}
use Rattle.restored.proofs.Holds.{holds_run, tally_held}

-- The first gives the tallies of the channels by their numbers.
abbrev pub Numbered : (ℕ → ℕ → ℕ) → (Group → Side → Tally) → Type 0
Numbered start tallies =
    (k n : ℕ) → ltb last_channel k ≡ false → ltb last_tally n ≡ false
    → start k n ≡ counter_numbered (tallies (group_numbered k) (side_numbered k)) n

-- So it is with 0, where nothing has been counted yet,
either : (b : Bool) (x : ℕ) → cond b x x ≡ x
either true x = refl
either false x = refl

pub numbered_none : Numbered (λ k n. 0) (λ g s. no_tally)
unfolding counter_numbered
numbered_none k n is_channel is_tally = simp either

-- and with what the tally call answers.
pub numbered_held : (l : List ℕ) (c : Chip) → Holds l c → Numbered (λ k n. tally_answer l k n / 256) (tally_of c)
numbered_held l c h k n is_channel is_tally = rw (tally_held l c h k n, is_channel, is_tally) (omega arith)

-- One channel: the chip's tallies by their numbers, and the counts.
counted : (g : Group) (s : Side) (c : Chip) (es : List Event) (start : Tally) (new all : List Byte) → Fates g s c es start new all
    → (n : ℕ) → n ≤ last_tally → counter_numbered (tally_of (run c es) g s) n ≡ (counter_numbered start n + get_or (counts new all) n 0) % 65536
unfolding counter_numbered
counted g s c es start new all f zero few = f.tally_offered
counted g s c es start new all f (suc zero) few = f.tally_handed
counted g s c es start new all f (suc (suc zero)) few = f.tally_overwritten
counted g s c es start new all f (suc (suc (suc zero))) few = f.tally_swallowed
counted g s c es start new all f (suc (suc (suc (suc zero)))) few = f.tally_cleared
counted g s c es start new all f (suc (suc (suc (suc (suc zero))))) few = f.tally_planted
counted g s c es start new all f (suc (suc (suc (suc (suc (suc zero)))))) few = f.tally_struck
counted g s c es start new all f (suc (suc (suc (suc (suc (suc (suc n))))))) few = absurd (omega arith)

module _ (l : List ℕ) (c : Chip) (es : List Event) (h : Holds l c) (start : ℕ → ℕ → ℕ) (tallies : Group → Side → Tally)
    (starts : Numbered start tallies) (new all : Group → Side → List Byte)
    (f : (g : Group) (s : Side) → Fates g s c es (tallies g s) (new g s) (all g s)) where
  pub tally_told : (k n : ℕ) → tally_answer (host_run l es) k n ≡ tally_by start new all k n
  tally_told k n = tally_held (host_run l es) (run c es) (holds_run l c es h) k n ∙ go (ltb last_channel k) (ltb last_tally n) refl refl
    where
      go : (no_channel no_tally_lem : Bool) → ltb last_channel k ≡ no_channel → ltb last_tally n ≡ no_tally_lem
          → or_none (no_channel || no_tally_lem) (256 * counter_numbered (tally_of (run c es) (group_numbered k) (side_numbered k)) n)
          ≡ or_none (no_channel || no_tally_lem)
          (256 * ((start k n + entry (by_channel (λ g s. counts (new g s) (all g s))) k n) % 65536))
      go true no_tally_lem channel tally = refl
      go false true channel tally = refl
      go false false channel tally =
          let g = group_numbered k in
          let s = side_numbered k in
          let start_here = counter_numbered (tallies g s) n in
          rw (starts k n channel tally, counted g s c es (tallies g s) (new g s) (all g s) (f g s) n (ltb-false last_tally n tally))
          (ap (λ (here : List ℕ). 256 * ((start_here + get_or here n 0) % 65536))
          (sym (channel_numbered (λ g s. counts (new g s) (all g s)) k (ltb-false last_channel k channel))))
