-- The other conditions, by plain numbers, and the order of a channel's bytes.
-- Rests on bits' Logic, the bus's ByKind, Tables, Accepted and Wherever.
use Rattle.std.proofs.Common.{◌≡◌, ◌∙◌, refl, ap, sym, inl, inr, Bool, true, false, not, ◌&&◌, ◌||◌, ◌⊎◌, List, [], ◌∷◌, ℕ, zero, suc, ◌+◌, ◌*◌, ◌/◌, ◌%◌, ◌<◌, ◌≤◌, arith, eqb, eq-eqb, eqb-true, ◌↔◌, Some}
use borrow.Author.Tests.{eqb-false}
use Rattle.std.specs.Prelude.{slice_get, All}
use Rattle.bits.specs.Bit.{bit_of, num}
use Rattle.bits.proofs.Logic.{contrary, both, one_of}
use Rattle.bus.specs.Kinds.{is_kind}
use Rattle.bus.specs.Event.{Event, event}
use Rattle.bus.specs.declared.Phase.{Phase}
use Rattle.bus.specs.declared.Phase.TheVariants.{Idle, Reading, Writing}
use Rattle.bus.proofs.ByKind.{by_kind, no_kind_differs}
use Rattle.control.specs.declared.Group.{Group}
use Rattle.chip.specs.declared.channel.Side.{Side}
use Rattle.chip.specs.declared.channel.Side.TheVariants.{Input, Output}
use Rattle.chip.specs.declared.channel.Fill.{Fill}
use Rattle.chip.specs.declared.channel.Fill.TheVariants.{Empty, Waiting, Fetching}
use Rattle.chip.specs.declared.channel.Tally.{Tally}
use Rattle.chip.specs.declared.Chip.{Chip}
use Rattle.chip.specs.Channel.{is_waiting}
use Rattle.chip.specs.State.{port_of}
use Rattle.laws.specs.PlainBits.{handshake_on}
use Rattle.fates.specs.Kinds.{kind_of, free}
use Rattle.fates.specs.Surroundings.{of_mode_word}
use Rattle.fates.specs.Bytes.{Byte}
use Rattle.fates.specs.Promise.{surroundings_of, handshake_alone, InOrder, WaitsByHandshake, Balanced, SixteenBits}
use Rattle.fates.specs.Follows.{clears_now, latch_told}
use Rattle.fates.specs.Raised.{raises, NeverRaised}
use Rattle.fates.specs.Conditions.{Wherever, LatchIsTold, of_an_input, with_a_handshake, by_a_reset, by_a_mode_word, RaisesNot, seven, waiting_in, ComesOut, Placed}
use Rattle.fates.proofs.Tables.{strobes_plain}
use Rattle.fates.proofs.Accepted.{no_name, no_kind_accepted}
use Rattle.fates.proofs.Wherever.{nowhere, at_first, at_later, at_both}

-- An input asks nothing, and an output that its byte waits under a handshake.
pub waits_in : (g : Group) (c : Chip) → WaitsByHandshake g Input c
waits_in g c waits = refl

pub waits_out : (g : Group) (c : Chip)
    → WaitsByHandshake g Output c ↔ ((port_of c.core g).output.fill ≡ Waiting → handshake_on c.core.word g Output ≡ true)
waits_out g c = (
  λ strobed waits. sym (strobes_plain c.core.word g Output) ∙ strobed waits,
  λ strobed waits. strobes_plain c.core.word g Output ∙ strobed waits,
)

-- The latch of which a history tells.
by_either : (a b : Bool) → (a ≡ true) ⊎ (b ≡ true) → (a || b) ≡ true
by_either true b holds = refl
by_either false b (inl first) = absurd (contrary false refl first)
by_either false b (inr second) = second

mode_word_is : (ph : Phase) → of_mode_word ph ≡ true → (w : ℕ) × (ph ≡ Writing 3 w) × (bit_of w 7 ≡ true)
mode_word_is Idle word = absurd (contrary false refl word)
mode_word_is (Reading p) word = absurd (contrary false refl word)
mode_word_is (Writing x d) word = let are = both (eqb x 3) _ word in (d, ap (λ (k : ℕ). Writing k d) (eqb-true x 3 are.0), are.1)

module _ (g : Group) (s : Side) (c : Chip) where
  clears_told : (x d k : ℕ) → clears_now (surroundings_of c) (event k x d) ≡ true → LatchIsTold g s c (event k x d)
  clears_told x d =
      by_kind (λ k. clears_now (surroundings_of c) (event k x d) ≡ true → LatchIsTold g s c (event k x d))
      (λ now. by_a_reset refl)
      (λ now. absurd (contrary false refl (both _ false now).1))
      (λ now. let word = mode_word_is c.phase (both _ _ now).1 in by_a_mode_word {w = word.0} refl word.1 word.2)
      (λ now. absurd (contrary false refl (both _ false now).1))
      (λ now. absurd (contrary false refl (both _ false now).1))
      (λ k none now. absurd (no_kind_accepted c.edition c.phase k x d none (both _ _ now).0))

  alone_told : (e : Event) → handshake_alone c.core.word g s ≡ true → LatchIsTold g s c e
  alone_told e alone = go s refl alone
    where
      go : (t : Side) → s ≡ t → handshake_alone c.core.word g t ≡ true → LatchIsTold g s c e
      go Input is alone = of_an_input is
      go Output is alone =
          with_a_handshake (ap (handshake_on c.core.word g) is ∙ sym (strobes_plain c.core.word g Output) ∙ alone)

  told_alone : (t : Side) → handshake_on c.core.word g t ≡ true → handshake_alone c.core.word g t ≡ true
  told_alone Input takes = refl
  told_alone Output takes = strobes_plain c.core.word g Output ∙ takes

  told_now : (e : Event) → LatchIsTold g s c e → (handshake_alone c.core.word g s ≡ true) ⊎ (clears_now (surroundings_of c) e ≡ true)
  told_now e (of_an_input is) = inl (ap (handshake_alone c.core.word g) is)
  told_now e (with_a_handshake takes) = inl (told_alone s takes)
  told_now e (by_a_reset kind) = inr (ap (λ (k : ℕ). clears_now (surroundings_of c) (event k e.first e.second)) kind)
  told_now e (by_a_mode_word {w} kind writes word) =
      inr
      (ap (λ (k : ℕ). clears_now (surroundings_of c) (event k e.first e.second)) kind
      ∙ ap (λ (ph : Phase). not (free ph) && of_mode_word ph) writes
      ∙ word)

  pub latch_is_told : (e : Event) → (latch_told g s c e ≡ true) ↔ LatchIsTold g s c e
  latch_is_told e = (
    λ told. one_of (handshake_alone c.core.word g s) _ told (alone_told e) (clears_told e.first e.second e.kind),
    λ told. by_either (handshake_alone c.core.word g s) _ (told_now e told),
  )

-- Seven tallies of sixteen bits.
pub sixteen_bits : (t : Tally) → SixteenBits t ↔ All (λ n. n < 65536) (seven t)
sixteen_bits t = (
  small,
  λ all. record {
    offered = all 0 0 (omega arith);
    handed = all 1 0 (omega arith);
    overwritten = all 2 0 (omega arith);
    swallowed = all 3 0 (omega arith);
    cleared = all 4 0 (omega arith);
    planted = all 5 0 (omega arith);
    struck = all 6 0 (omega arith);
  },
)
  where
    small : SixteenBits t → All (λ n. n < 65536) (seven t)
    small k zero d below = k.offered
    small k (suc zero) d below = k.handed
    small k (suc (suc zero)) d below = k.overwritten
    small k (suc (suc (suc zero))) d below = k.swallowed
    small k (suc (suc (suc (suc zero)))) d below = k.cleared
    small k (suc (suc (suc (suc (suc zero))))) d below = k.planted
    small k (suc (suc (suc (suc (suc (suc zero)))))) d below = k.struck
    small k (suc (suc (suc (suc (suc (suc (suc n))))))) d below = absurd (omega (arith, below))

-- Two sums have one remainder exactly where they differ by whole rounds.
one_waits : (f : Fill) → num (is_waiting f) ≡ waiting_in f
one_waits Empty = refl
one_waits Waiting = refl
one_waits Fetching = refl

whole_rounds : (m n : ℕ) → m % 65536 ≡ n % 65536 → m + 65536 * (n / 65536) ≡ n + 65536 * (m / 65536)
whole_rounds m n same = omega (arith, same)

same_rest : (m n j k : ℕ) → m + 65536 * j ≡ n + 65536 * k → m % 65536 ≡ n % 65536
same_rest m n j k sums = omega (arith, sums)

pub comes_out : (t : Tally) (f : Fill) → Balanced t f ↔ ComesOut t f
comes_out t f =
    let came = t.offered + t.planted in
    let gone = t.handed + t.overwritten + t.swallowed + t.cleared + t.struck in (
      λ even.
          record {
            more = (gone + num (is_waiting f)) / 65536;
            fewer = came / 65536;
            sums = whole_rounds came (gone + num (is_waiting f)) even ∙ ap (λ (w : ℕ). gone + w + 65536 * (came / 65536)) (one_waits f);
          },
      λ k. same_rest came (gone + num (is_waiting f)) k.more k.fewer (k.sums ∙ ap (λ (w : ℕ). gone + w + 65536 * k.fewer) (sym (one_waits f))),
    )

-- Levels on port C that have a pin low do not raise it, and no other event does.
module _ (n x d : ℕ) where
  abbrev Exactly : ℕ → Type 0
  Exactly k = (raises n (kind_of (event k x d)) ≡ false) ↔ RaisesNot n (event k x d)

  levels_raise : (lines level : Bool) → (lines && level) ≡ false → lines ≡ true → level ≡ false
  levels_raise true level low on = low
  levels_raise false level low on = absurd (contrary false refl on)

  raise_levels : (lines level : Bool) → (lines ≡ true → level ≡ false) → (lines && level) ≡ false
  raise_levels true level low = low refl
  raise_levels false level low = refl

  raises_exactly : (k : ℕ) → Exactly k
  unfolding is_kind
  raises_exactly =
      by_kind Exactly
      (λ low levels. absurd (omega (arith, levels)), λ low. refl)
      (λ low levels. absurd (omega (arith, levels)), λ low. refl)
      (λ low levels. absurd (omega (arith, levels)), λ low. refl)
      (λ low levels. absurd (omega (arith, levels)), λ low. refl) (
        λ low levels lines. levels_raise (eqb x 2) (bit_of d n) low (eq-eqb x 2 lines),
        λ low. raise_levels (eqb x 2) (bit_of d n) (λ lines. low refl (eqb-true x 2 lines)),
      )
      (λ k other. (
        λ low levels. absurd (eqb-false k 5 (no_kind_differs k 5 other refl) levels),
        λ low. rw (no_name k x d other) refl,
      ))

pub never_raised : (n : ℕ) (es : List Event) → NeverRaised n es ↔ Wherever (λ before e. RaisesNot n e) es
never_raised n [] = (λ kept. nowhere _, λ none. tt)
never_raised n (e ∷ es) =
    let here = raises_exactly n e.first e.second e.kind in
    let later = never_raised n es in
    let P : List Event → Event → Type 0 = λ before x. RaisesNot n x in (
      λ kept. at_both P e es (here.0 kept.0) (later.0 kept.1),
      λ none. (here.1 (at_first P e es none), later.1 (at_later P e es none)),
    )

-- The order of bytes, by their places in a list.
put_before : (n : ℕ) (b : Byte) (bs : List Byte) → n ≤ b.offer.place → b.offer.place < b.outcome.place → Placed b.outcome.place bs → Placed n (b ∷ bs)
put_before n b bs low later others = record { first = first; decided = decided; next = next }
  where
    first : (x : Byte) → slice_get (b ∷ bs) 0 ≡ Some x → n ≤ x.offer.place
    first x is = let same : b ≡ x = cc in rw (← same) low

    decided : (i : ℕ) (x : Byte) → slice_get (b ∷ bs) i ≡ Some x → x.offer.place < x.outcome.place
    decided zero x is = let same : b ≡ x = cc in rw (← same) later
    decided (suc i) x is = others.decided i x is

    next : (i : ℕ) (x y : Byte) → slice_get (b ∷ bs) i ≡ Some x → slice_get (b ∷ bs) (suc i) ≡ Some y → x.outcome.place ≤ y.offer.place
    next zero x y is is' = let same : b ≡ x = cc in rw (← same) (others.first y is')
    next (suc i) x y is is' = others.next i x y is is'

in_order_placed : (n : ℕ) (bs : List Byte) → InOrder n bs → Placed n bs
in_order_placed n [] order = record { first = λ b is. absurd cc; decided = λ i b is. absurd cc; next = λ i b b' is is'. absurd cc }
in_order_placed n (b ∷ bs) order = put_before n b bs order.0 order.1 (in_order_placed b.outcome.place bs order.2)

placed_in_order : (n : ℕ) (bs : List Byte) → Placed n bs → InOrder n bs
placed_in_order n [] placed = tt
placed_in_order n (b ∷ bs) placed = (
  placed.first b refl,
  placed.decided 0 b refl,
  placed_in_order b.outcome.place bs
      (record {
        first = λ x is. placed.next 0 b x refl is;
        decided = λ i x is. placed.decided (suc i) x is;
        next = λ i x y is is'. placed.next (suc i) x y is is';
      }),
)

pub placed : (n : ℕ) (bs : List Byte) → InOrder n bs ↔ Placed n bs
placed n bs = (in_order_placed n bs, placed_in_order n bs)
