-- The levels of the cards, while they are written: each card changes the output, and what it will hold at the end stays the same. And the width of
-- an answer line.
-- Rests on Stores.
use Rattle.std.proofs.Common.{◌≡◌, ◌∙◌, refl, List, [], ◌∷◌, ◌++◌, ℕ, zero, suc, ◌+◌, ◌-◌, ◌*◌, ◌≤◌, ◌<◌, add-one, arith, length, length-append}
use lib.Seq.{sets, length-sets}
use Rattle.bus.specs.Device.{Given}
use Rattle.text.specs.Lines.{lf}
use Rattle.text.specs.Digits.{in_digits}
use Rattle.script.specs.Answers.{Answerer, levels_text, levels_from, all_levels, line_text, line_after, front_digits, card_digits, line_width}
use Rattle.script.proofs.Stores.{behind}

module _ {S : Type 0} (a : Answerer S) where
  levels_length : (s : S) (i n : ℕ) → length (levels_from a s i n) ≡ card_digits * n
  unfolding levels_from
  levels_length s i zero = refl
  levels_length s i (suc n) =
      length-append (levels_text (a.levels s i 0) (a.levels s i 1) (a.levels s i 2)) (levels_from a s (suc i) n)
      ∙ rw (levels_length s (suc i) n) (omega arith)

  pub all_length : (s : S) → length (all_levels a s) ≡ card_digits * a.cards s
  all_length s = levels_length s 0 (a.cards s)

  pub line_length : (g : Given S) → length (line_after a g) ≡ line_width (a.cards g.state)
  unfolding line_text
  line_length g = omega (arith, length-append (all_levels a g.state) (lf ∷ []), all_length g.state)

  -- The cards from i on are to be written from `at` on, into an output that began as `first`.
  pub record Showing (s : S) (first out : List ℕ) (at i : ℕ) : Type 0 where
    pub here : at ≡ front_digits + card_digits * i
    pub among : i ≤ a.cards s
    pub long : length out ≡ length first
    pub comes : sets out at (levels_from a s i (a.cards s - i)) ≡ sets first front_digits (all_levels a s)

  module _ (s : S) (first out : List ℕ) (at i : ℕ) (so : Showing s first out at i) where
    pub one_shown : i < a.cards s → (after : List ℕ)
        → after ≡ sets (sets (sets out at (in_digits (a.levels s i 0))) (at + 2) (in_digits (a.levels s i 1))) (at + 4) (in_digits (a.levels s i 2))
        → Showing s first after (at + card_digits) (i + 1)
    unfolding levels_from
    one_shown there after written =
        let left : a.cards s - i ≡ suc (a.cards s - suc i) = omega (arith, there) in
        let card : List ℕ = levels_text (a.levels s i 0) (a.levels s i 1) (a.levels s i 2) in
        let same : after ≡ sets out at card = written ∙ together out at _ _ _ in
        record {
          here = omega (arith, so.here);
          among = omega (arith, there);
          long = rw (same, length-sets out at card) so.long;
          comes = rw (same, add-one i, behind out at card (levels_from a s (suc i) (a.cards s - suc i))) (rw (left) at so.comes);
        }
      where
        together : (l : List ℕ) (n x y z : ℕ)
            → sets (sets (sets l n (in_digits x)) (n + 2) (in_digits y)) (n + 4) (in_digits z) ≡ sets l n (levels_text x y z)
        together l n x y z = rw (behind l n (in_digits x) (in_digits y)) (behind l n (in_digits x ++ in_digits y) (in_digits z))

    pub all_shown : a.cards s ≤ i → (at ≡ front_digits + card_digits * a.cards s) × (out ≡ sets first front_digits (all_levels a s))
    unfolding levels_from
    all_shown over =
        let none : a.cards s - i ≡ 0 = omega (arith, over) in
        (omega (arith, so.here, so.among, over), rw (none) at so.comes)
