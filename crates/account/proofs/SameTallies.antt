-- Two chips that agree with one account count alike: from the same tallies on they have the same, over every history.
-- Rests on Words, Moves and Agrees, and on fates' Shapes, Moved and Projection.
use Rattle.std.proofs.Common.{◌≡◌, ◌∙◌, refl, ap, ap₂, sym, Bool, cond, not, List, [], ◌∷◌, ℕ, lit<}
use Rattle.bus.specs.Event.{Event}
use Rattle.control.specs.declared.Group.{Group}
use Rattle.control.specs.declared.Group.TheVariants.{A, B}
use Rattle.chip.specs.declared.channel.Side.{Side}
use Rattle.chip.specs.declared.channel.Side.TheVariants.{Input, Output}
use Rattle.chip.specs.declared.channel.Fill.{Fill}
use Rattle.chip.specs.declared.channel.Fill.TheVariants.{Empty, Waiting, Fetching}
use Rattle.chip.specs.declared.channel.Tally.{Tally}
use Rattle.chip.specs.Channel.{is_waiting, is_empty}
use Rattle.chip.specs.declared.Chip.{Chip}
use Rattle.chip.specs.State.{channel_of, tally_of}
use Rattle.chip.specs.Step.{stepped}
use Rattle.laws.specs.Forcing.{is_fetching}
use Rattle.fates.specs.Kinds.{Kind, reset, cycle_ended, unknown, read_begun, write_begun, new_levels, kind_of, accepts}
use Rattle.fates.specs.Effects.{Effect, cleared_away, strobes, when, own_effect, clears, effect}
use Rattle.fates.specs.Promise.{run, surroundings_of}
use Rattle.fates.proofs.Shapes.{Shape, passes, offers, plants, decides, shape_of}
use Rattle.fates.proofs.Moved.{tally_after, moved_so}
use Rattle.fates.proofs.Projection.{follows}
use Rattle.account.specs.Account.{Account, account_next}
use Rattle.account.specs.Promise.{with_bit7, surroundings_here}
use Rattle.account.proofs.Words.{Alike, with_bit_7_alike}
use Rattle.account.proofs.Agrees.{Agrees, agrees_next}

-- Bit 7 of the mode word makes no difference to what an event is to a channel.
strobes_alike : (u w : ℕ) → Alike u w → (g : Group) (s : Side) → strobes u g s ≡ strobes w g s
strobes_alike u w alike A Input = rw (alike 6 (lit< tt), alike 5 (lit< tt), alike 4 (lit< tt))
strobes_alike u w alike A Output = rw (alike 6 (lit< tt), alike 5 (lit< tt), alike 4 (lit< tt))
strobes_alike u w alike B Input = rw (alike 2 (lit< tt), alike 1 (lit< tt))
strobes_alike u w alike B Output = rw (alike 2 (lit< tt), alike 1 (lit< tt))

own_here : (c : Chip) (g : Group) (s : Side) (k : Kind) → own_effect g s (surroundings_of c) k ≡ own_effect g s (surroundings_here c) k
own_here c g s reset = refl
own_here c g Input (read_begun x) = refl
own_here c g Output (read_begun x) = refl
own_here c g Input cycle_ended = refl
own_here c g Output cycle_ended = refl
own_here c g s (write_begun x d) = refl
own_here c A Input (new_levels x d) = refl
own_here c B Input (new_levels x d) = refl
own_here c g Output (new_levels x d) = refl
own_here c g s unknown = refl

effect_here : (c : Chip) (g : Group) (s : Side) (e : Event) → effect g s (surroundings_of c) e ≡ effect g s (surroundings_here c) e
effect_here c g s e =
    ap₂ (λ (on : Bool) (own : Effect). when (accepts c.edition c.phase (kind_of e)) (cond (clears c.phase (kind_of e)) cleared_away (when on own)))
    (sym (strobes_alike (with_bit7 c.core.word) c.core.word (with_bit_7_alike c.core.word) g s)) (own_here c g s (kind_of e))

-- What an effect counts goes by an input's condition, and by whether a byte waits in an output.
fill_told : (f f' : Fill) → not (is_empty f) ≡ not (is_empty f') → is_fetching f ≡ is_fetching f' → f ≡ f'
fill_told Empty Empty full given = refl
fill_told Empty Waiting full given = cc
fill_told Empty Fetching full given = cc
fill_told Waiting Empty full given = cc
fill_told Waiting Waiting full given = refl
fill_told Waiting Fetching full given = cc
fill_told Fetching Empty full given = cc
fill_told Fetching Waiting full given = cc
fill_told Fetching Fetching full given = refl

counts_as_empty : (d : Shape) (t : Tally) → tally_after Output Fetching d t ≡ tally_after Output Empty d t
counts_as_empty (passes to) t = refl
counts_as_empty (offers v) t = refl
counts_as_empty plants t = refl
counts_as_empty (decides x) t = refl

counts_by_waiting : (f f' : Fill) (d : Shape) (t : Tally) → not (is_waiting f) ≡ not (is_waiting f') → tally_after Output f d t ≡ tally_after Output f' d t
counts_by_waiting Empty Empty d t same = refl
counts_by_waiting Empty Waiting d t same = cc
counts_by_waiting Empty Fetching d t same = sym (counts_as_empty d t)
counts_by_waiting Waiting Empty d t same = cc
counts_by_waiting Waiting Waiting d t same = refl
counts_by_waiting Waiting Fetching d t same = cc
counts_by_waiting Fetching Empty d t same = counts_as_empty d t
counts_by_waiting Fetching Waiting d t same = cc
counts_by_waiting Fetching Fetching d t same = refl

-- The tallies after one event, by what the account has around the chip.
counted_by : (c : Chip) (a : Account) → Agrees c a → (g : Group) (s : Side) (e : Event)
    → tally_of (stepped c e).state g s ≡ tally_after s (channel_of c.core g s).fill (shape_of (effect g s a.surroundings e)) (tally_of c g s)
counted_by c a k g s e =
    (follows c g s e).tally
    ∙ ap (λ ch. ch.tally) (moved_so s (channel_of c.core g s) (effect g s (surroundings_of c) e))
    ∙ ap (λ d. tally_after s (channel_of c.core g s).fill (shape_of d) (tally_of c g s))
    (effect_here c g s e ∙ ap (λ r. effect g s r e) (sym k.surroundings))

module _ (g : Group) where
  counts_same : (s : Side) (c c' : Chip) (a : Account) → Agrees c a → Agrees c' a → (d : Shape) (t : Tally)
      → tally_after s (channel_of c.core g s).fill d t ≡ tally_after s (channel_of c'.core g s).fill d t
  counts_same Input c c' a k k' d t =
      ap (λ f. tally_after Input f d t)
      (fill_told (channel_of c.core g Input).fill (channel_of c'.core g Input).fill (sym (k.ibf g) ∙ k'.ibf g) (sym (k.given g) ∙ k'.given g))
  counts_same Output c c' a k k' d t =
      counts_by_waiting (channel_of c.core g Output).fill (channel_of c'.core g Output).fill d t (sym (k.obf g) ∙ k'.obf g)

  -- After an event, and over a history.
  same_next : (s : Side) (c c' : Chip) (a : Account) → Agrees c a → Agrees c' a → (e : Event) → tally_of c g s ≡ tally_of c' g s
      → tally_of (stepped c e).state g s ≡ tally_of (stepped c' e).state g s
  same_next s c c' a k k' e same =
      let d = shape_of (effect g s a.surroundings e) in
      counted_by c a k g s e
      ∙ counts_same s c c' a k k' d (tally_of c g s)
      ∙ ap (λ t. tally_after s (channel_of c'.core g s).fill d t) same
      ∙ sym (counted_by c' a k' g s e)

  pub same_tallies : (s : Side) (es : List Event) (c c' : Chip) (a : Account) → Agrees c a → Agrees c' a → tally_of c g s ≡ tally_of c' g s
      → tally_of (run c es) g s ≡ tally_of (run c' es) g s
  same_tallies s [] c c' a k k' same = same
  same_tallies s (e ∷ es) c c' a k k' same =
      same_tallies s es (stepped c e).state (stepped c' e).state (account_next a e) (agrees_next c a e k) (agrees_next c' a e k') (same_next s c c' a k k' e same)
