-- A channel's tallies balance after every history: from any chip in which they do, and from every power-up.
-- Rests on Story and Counted.
use Rattle.std.proofs.Common.{◌≡◌, ◌∙◌, refl, ap, sym, false, List, ℕ, ◌+◌, ◌*◌, ◌/◌, ◌%◌, arith}
use Rattle.bits.specs.Bit.{num}
use Rattle.bus.specs.Event.{Event}
use Rattle.control.specs.declared.Group.{Group}
use Rattle.control.specs.declared.Group.TheVariants.{A, B}
use Rattle.chip.specs.declared.channel.Side.{Side}
use Rattle.chip.specs.declared.channel.Side.TheVariants.{Input, Output}
use Rattle.chip.specs.declared.channel.Fill.{Fill}
use Rattle.chip.specs.declared.channel.Tally.{Tally}
use Rattle.chip.specs.Channel.{is_waiting}
use Rattle.chip.specs.declared.Edition.{Edition}
use Rattle.chip.specs.declared.Chip.{Chip}
use Rattle.chip.specs.declared.Levels.{Levels}
use Rattle.chip.specs.State.{power_up_as, channel_of, tally_of}
use Rattle.fates.specs.Effects.{effects}
use Rattle.fates.specs.Bytes.{Fate, handed_over, overwritten, swallowed, cleared, struck, waiting, offered_at, same}
use Rattle.fates.specs.Promise.{run, surroundings_of, new_bytes, all_bytes, Balanced, BalancedAfter, SixteenBits}
use Rattle.fates.proofs.Story.{with_held}
use Rattle.fates.proofs.Counted.{none_counted, one_fate_each_lem, offered_or_planted_lem, tally_counts, offered_counts, planted_counts, waits_there}

-- Whole rounds of 65,536 do not show in a remainder, nor do those that the parts of a sum have made.
rounds : (n k : ℕ) → (n + 65536 * k) % 65536 ≡ n % 65536
rounds n k = omega arith

two_parts : (a b : ℕ) → (a + b) % 65536 ≡ (a % 65536 + b % 65536) % 65536
two_parts a b = ap (λ n. n % 65536) (omega arith) ∙ rounds (a % 65536 + b % 65536) (a / 65536 + b / 65536)

six_parts : (a b c d e w : ℕ) → (a + b + c + d + e + w) % 65536 ≡ (a % 65536 + b % 65536 + c % 65536 + d % 65536 + e % 65536 + w) % 65536
six_parts a b c d e w =
    ap (λ n. n % 65536) (omega arith)
    ∙ rounds (a % 65536 + b % 65536 + c % 65536 + d % 65536 + e % 65536 + w) (a / 65536 + b / 65536 + c / 65536 + d / 65536 + e / 65536)

-- Tallies that balance do so too when they have gone on by counts of bytes that do.
counted_on : (t : Tally) (f f' : Fill) (offers plants hand_overs overwrites swallows clears strikes : ℕ) → Balanced t f
    → num (is_waiting f) + (offers + plants) ≡ hand_overs + overwrites + swallows + clears + strikes + num (is_waiting f')
    → Balanced
    (record {
      offered = (t.offered + offers) % 65536;
      handed = (t.handed + hand_overs) % 65536;
      overwritten = (t.overwritten + overwrites) % 65536;
      swallowed = (t.swallowed + swallows) % 65536;
      cleared = (t.cleared + clears) % 65536;
      planted = (t.planted + plants) % 65536;
      struck = (t.struck + strikes) % 65536;
    })
    f'
counted_on t f f' offers plants hand_overs overwrites swallows clears strikes before counts =
    let h = t.handed + hand_overs in
    let o = t.overwritten + overwrites in
    let s = t.swallowed + swallows in
    let c = t.cleared + clears in
    let k = t.struck + strikes in
    let sums : (t.offered + offers + (t.planted + plants)) % 65536 ≡ (h + o + s + c + k + num (is_waiting f')) % 65536 = omega (arith, before, counts) in
    sym (two_parts (t.offered + offers) (t.planted + plants)) ∙ sums ∙ six_parts h o s c k (num (is_waiting f'))

-- From any chip whose tallies have sixteen bits and balance: no event, and so no history, puts them out of balance.
pub stays_balanced : (g : Group) (s : Side) (c : Chip) → SixteenBits (tally_of c g s) → Balanced (tally_of c g s) (channel_of c.core g s).fill
    → (es : List Event) → BalancedAfter g s c es
stays_balanced g s c small before es =
    let ch = channel_of c.core g s in
    let h = offered_at 0 ch.latch in
    let held = with_held ch.fill h 1 (effects g s (surroundings_of c) es) (new_bytes g s c es) in
    let count_of = λ (f : Fate) (tallied : same f waiting ≡ false). tally_counts g s f tallied c h 1 es in
    rw (
      offered_counts g s c h 1 es small.offered,
      count_of handed_over refl small.handed,
      count_of overwritten refl small.overwritten,
      count_of swallowed refl small.swallowed,
      count_of cleared refl small.cleared,
      planted_counts g s c h 1 es small.planted,
      count_of struck refl small.struck,
    )
    (counted_on ch.tally ch.fill (channel_of (run c es).core g s).fill _ _ _ _ _ _ _ before
    (rw (← waits_there g s c h 1 es, ← offered_or_planted_lem (new_bytes g s c es)) (sym held ∙ one_fate_each_lem (all_bytes g s c es))))

-- From power-up, whatever the edition and the levels.
pub balanced : (g : Group) (s : Side) (ed : Edition) (l : Levels) (es : List Event)
    → BalancedAfter g s (power_up_as ed l) es
balanced A Input ed l es = stays_balanced A Input (power_up_as ed l) none_counted refl es
balanced A Output ed l es = stays_balanced A Output (power_up_as ed l) none_counted refl es
balanced B Input ed l es = stays_balanced B Input (power_up_as ed l) none_counted refl es
balanced B Output ed l es = stays_balanced B Output (power_up_as ed l) none_counted refl es
