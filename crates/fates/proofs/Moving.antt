-- A channel that moves as an effect says: the shapes in which the step's rules say it, beside the effects of the history.
-- Rests on bits' Logic.
use Rattle.std.proofs.Common.{◌≡◌, ◌∙◌, refl, ap, Bool, true, false, cond, ◌&&◌, ℕ}
use mathlib.Core.Bool.{and-false}
use Rattle.bits.proofs.Logic.{contrary}
use Rattle.chip.specs.declared.channel.Side.{Side}
use Rattle.chip.specs.declared.channel.Side.TheVariants.{Input, Output}
use Rattle.chip.specs.declared.channel.Channel.{Channel}
use Rattle.chip.specs.Moves.{after_force}
use Rattle.chip.specs.Write.{stored_in}
use Rattle.fates.specs.Effects.{Effect, offered, forced_full, forced_empty, nothing, says_full, when}
use Rattle.fates.specs.Follows.{moved}

-- The channel ch' is as ch says, and its latch too where it is sure: a port that is a plain output has its latch written and no byte offered.
pub record Goes (sure : Bool) (ch' ch : Channel) : Type 0 where
  pub fill : ch'.fill ≡ ch.fill
  pub tally : ch'.tally ≡ ch.tally
  pub latch : sure ≡ true → ch'.latch ≡ ch.latch

pub goes : {sure : Bool} {ch' ch : Channel} → ch' ≡ ch → Goes sure ch' ch
goes e = record { fill = ap (λ ch. ch.fill) e; tally = ap (λ ch. ch.tally) e; latch = λ sure. ap (λ ch. ch.latch) e }

-- An event that is nothing to a channel leaves it.
pub at_rest : (s : Side) (ch : Channel) (on : Bool) → ch ≡ moved s ch (when on nothing)
at_rest s ch true = refl
at_rest s ch false = refl

-- A move under a condition is an effect under it, and so is one under two.
gated : (s : Side) (ch : Channel) (d : Effect) (own : Bool) → cond own (moved s ch d) ch ≡ moved s ch (when own d)
gated s ch d true = refl
gated s ch d false = refl

pub moves : (s : Side) (ch : Channel) (d : Effect) (on own : Bool) → cond (on && own) (moved s ch d) ch ≡ moved s ch (when on (when own d))
moves s ch d true own = gated s ch d own
moves s ch d false own = refl

-- So is a flag that is forced.
forced_so : (s : Side) (ch : Channel) (v : Bool) → after_force s v ch ≡ moved s ch (cond (says_full s v) forced_full forced_empty)
unfolding after_force
forced_so Input ch true = refl
forced_so Input ch false = refl
forced_so Output ch true = refl
forced_so Output ch false = refl

pub forcing : (s : Side) (ch : Channel) (v on own : Bool)
    → cond (on && own) (after_force s v ch) ch ≡ moved s ch (when on (when own (cond (says_full s v) forced_full forced_empty)))
forcing s ch v on own =
    ap (λ (forced : Channel). cond (on && own) forced ch) (forced_so s ch v) ∙ moves s ch (cond (says_full s v) forced_full forced_empty) on own

-- So is the fall of a line, which port C alone has, or else levels on the port's own lines while that line is low.
pub levelling : (s : Side) (ch : Channel) (d e : Effect) (lines on fell own low : Bool)
    → cond (lines && (on && fell)) (moved s ch d) (cond (own && (on && low)) (moved s ch e) ch)
    ≡ moved s ch (when on (cond (lines && fell) d (when (own && low) e)))
levelling s ch d e lines false fell own low = rw (and-false lines, and-false own)
levelling s ch d e true true true own low = refl
levelling s ch d e true true false own low = gated s ch e (own && low)
levelling s ch d e false true fell own low = gated s ch e (own && low)

-- The end of a write moves an output that is strobed; of a plain output it writes the latch.
pub writing : (ch : Channel) (d : ℕ) (out on own : Bool) → (on ≡ true → out ≡ true)
    → Goes on (cond own (cond out (stored_in ch on d) ch) ch) (moved Output ch (when on (when own (offered d))))
writing ch d true true true sure = goes refl
writing ch d true true false sure = goes refl
writing ch d true false true sure = record { fill = refl; tally = refl; latch = λ on. absurd (contrary false refl on) }
writing ch d true false false sure = goes refl
writing ch d false true own sure = absurd (contrary false refl (sure refl))
writing ch d false false true sure = goes refl
writing ch d false false false sure = goes refl
