-- The first line of a text is a rack exactly where it is written so.
-- Rests on bits' Logic and Tested, text's WrittenBack, script's RackWritten and on Building.
use Rattle.std.proofs.Common.{◌≡◌, ℕ, ◌+◌, ◌*◌, ◌/◌, ◌%◌, ◌⊎◌, inl, inr, Bool, true, false, not, ◌&&◌, List, [], ◌∷◌, ◌++◌, length, refl, sym, ap, ap₂, ◌∙◌, eqb, ltb, leb, arith, is_ok, Ok, get_or, eqb-true, ltb-true}
use Rattle.bits.proofs.Logic.{contrary, both}
use Rattle.bits.proofs.Tested.{bits}
use Rattle.text.specs.Digits.{digits, digit_code, pair_value, no_byte}
use Rattle.text.specs.Lines.{lf, Line, ended, rest, before_lines, lines_of}
use Rattle.text.proofs.WrittenBack.{pair_back}
use Rattle.rack.specs.Bases.{is_base, is_among, are_bases, makes_rack}
use Rattle.rack.specs.State.{rack_of, built_of}
use Rattle.script.specs.RackBases.{base_of, leading_base, bases_of_line, no_rack, rack_of_line, rack_for, further_lines}
use Rattle.script.specs.RackRun.{names_rack, to_answer}
use Rattle.script.proofs.RackWritten.{in_four, in_fours, bases_written}
use Rattle.racklaws.specs.NamesRack.{written, NamesRack}
use Rattle.racklaws.proofs.Building.{good_made, made_good, built_good}

-- Bases in these digits are bases in those of the rack's own words.
pub same_written : (bs : List ℕ) → in_fours bs ≡ written bs
unfolding digit_code
same_written [] = refl
same_written (b ∷ bs) = ap (λ (later : List ℕ). in_four b ++ later) (same_written bs)

-- No digit is LF.
no_lf : (n : ℕ) → eqb (digit_code n) lf ≡ false
unfolding digit_code
no_lf n = bits 16 (λ k. eqb (get_or digits k 0) lf) (λ k. false) tt (n % 16) (omega arith)

-- A byte that is no LF, set before a text, stands before its first line.
one_before : (b : ℕ) (text bytes : List ℕ) (ls : List Line) → eqb b lf ≡ false → lines_of text ≡ ended bytes ∷ ls
    → lines_of (b ∷ text) ≡ ended (b ∷ bytes) ∷ ls
unfolding lines_of
one_before b text bytes ls other is = rw (other, is) refl

pub first_line_lem : (bs further : List ℕ) → lines_of (in_fours bs ++ lf ∷ further) ≡ ended (in_fours bs) ∷ lines_of further
unfolding lines_of
first_line_lem [] further = refl
first_line_lem (b ∷ bs) further =
    let later : List ℕ = in_fours bs ++ lf ∷ further in
    let fourth = digit_code (b % 256) in
    let third = digit_code (b % 256 / 16) in
    let second = digit_code (b / 256) in
    one_before _ (second ∷ third ∷ fourth ∷ later) _ _ (no_lf (b / 256 / 16))
    (one_before _ (third ∷ fourth ∷ later) _ _ (no_lf (b / 256))
    (one_before _ (fourth ∷ later) _ _ (no_lf (b % 256 / 16)) (one_before _ later _ _ (no_lf (b % 256)) (first_line_lem bs further))))

-- A text begins with a line that ends, or it has none, or one without LF.
record Begins (text : List ℕ) : Type 0 where
  pub bytes : List ℕ
  pub further : List ℕ
  pub whole : text ≡ bytes ++ lf ∷ further
  pub lines : lines_of text ≡ ended bytes ∷ lines_of further

abbrev Torn : List Line → Type 0
Torn [] = Unit {0}
Torn (ended bytes ∷ ls) = ⊥
Torn (rest bytes ∷ ls) = Unit {0}

torn_before : (b : ℕ) (ls : List Line) → Torn ls → Torn (before_lines b ls)
torn_before b [] t = tt
torn_before b (ended bytes ∷ ls) t = absurd t
torn_before b (rest bytes ∷ ls) t = tt

begins : (text : List ℕ) → Begins text ⊎ Torn (lines_of text)
unfolding lines_of
begins [] = inr tt
begins (b ∷ text) = go (eqb b lf) refl (begins text)
  where
    go : (t : Bool) → eqb b lf ≡ t → Begins text ⊎ Torn (lines_of text) → Begins (b ∷ text) ⊎ Torn (lines_of (b ∷ text))
    go true is behind = inl (record { bytes = []; further = text; whole = ap (λ c. c ∷ text) (eqb-true b lf is); lines = rw (is) refl })
    go false is (inl k) = inl (record {
      bytes = b ∷ k.bytes;
      further = k.further;
      whole = ap (λ (later : List ℕ). b ∷ later) k.whole;
      lines = one_before b text k.bytes (lines_of k.further) is k.lines;
    })
    go false is (inr torn) = inr (rw (is) (torn_before b (lines_of text) torn))

none_named_lem : (ls : List Line) → Torn ls → rack_for ls ≡ no_rack
unfolding rack_for rack_of_line
none_named_lem [] t = refl
none_named_lem (ended bytes ∷ ls) t = absurd t
none_named_lem (rest bytes ∷ ls) t = refl

-- Codes of which the bases are bases are these, written.
written_base : (a b c d : ℕ) → is_base (base_of (pair_value a b) (pair_value c d)) ≡ true → in_four (base_of (pair_value a b) (pair_value c d)) ≡ a ∷ b ∷ c ∷ d ∷ []
unfolding is_base base_of
written_base a b c d e = go (ltb (pair_value a b) no_byte && ltb (pair_value c d) no_byte) refl
  where
    go : (t : Bool) → (ltb (pair_value a b) no_byte && ltb (pair_value c d) no_byte) ≡ t
        → in_four (base_of (pair_value a b) (pair_value c d)) ≡ a ∷ b ∷ c ∷ d ∷ []
    go false t = absurd (contrary false refl (rw (t) at e))
    go true t =
        let k = both (ltb (pair_value a b) no_byte) (ltb (pair_value c d) no_byte) t in
        let high = pair_back a b (ltb-true (pair_value a b) no_byte k.0) in
        let low = pair_back c d (ltb-true (pair_value c d) no_byte k.1) in
        let above : (pair_value c d + 256 * pair_value a b) / 256 ≡ pair_value a b = omega (arith, ltb-true (pair_value c d) no_byte k.1) in
        let below : (pair_value c d + 256 * pair_value a b) % 256 ≡ pair_value c d = omega (arith, ltb-true (pair_value c d) no_byte k.1) in
        rw (t, above, below, high.0, high.1, low.0, low.1) refl

written_back : (bytes : List ℕ) → are_bases (bases_of_line bytes) ≡ true → in_fours (bases_of_line bytes) ≡ bytes
unfolding is_base are_bases bases_of_line leading_base
written_back [] e = refl
written_back (a ∷ []) e = absurd (contrary false refl e)
written_back (a ∷ b ∷ []) e = absurd (contrary false refl e)
written_back (a ∷ b ∷ c ∷ []) e = absurd (contrary false refl e)
written_back (a ∷ b ∷ c ∷ d ∷ later) e =
    let base = base_of (pair_value a b) (pair_value c d) in
    let bases = bases_of_line later in
    let k = both (is_base base) (not (is_among base bases) && are_bases bases) e in
    ap₂ (λ (front later : List ℕ). front ++ later) (written_base a b c d k.0)
    (written_back later (both (not (is_among base bases)) (are_bases bases) k.1).1)

-- Where some bases make a rack that is built, they make a rack.
made : (bs : List ℕ) → is_ok (built_of bs) ≡ true → makes_rack bs ≡ true
unfolding built_of
made bs e = go (makes_rack bs) refl
  where
    go : (t : Bool) → makes_rack bs ≡ t → makes_rack bs ≡ true
    go true t = t
    go false t = absurd (contrary false refl (rw (t) at e))

-- A text whose first line makes a rack is written so,
pub names_rack_lem : (text : List ℕ) → names_rack text ≡ true → NamesRack text
unfolding rack_for rack_of_line makes_rack
names_rack_lem text e = go (begins text)
  where
    go : Begins text ⊎ Torn (lines_of text) → NamesRack text
    go (inl k) =
        let bases = bases_of_line k.bytes in
        let is : makes_rack bases ≡ true = made bases (rw (k.lines) at e) in
        record {
          bases = bases;
          good = made_good bases is;
          further = k.further;
          first_line =
              k.whole
              ∙ ap (λ (front : List ℕ). front ++ lf ∷ k.further)
              (sym (written_back k.bytes (both (leb (length bases) 8) (are_bases bases) is).1) ∙ same_written bases);
        }
    go (inr torn) = absurd (contrary false refl (rw (none_named_lem (lines_of text) torn) at e))

-- and one that is written so makes that rack, for the lines behind it.
module _ (text : List ℕ) (named : NamesRack text) where
  lines : lines_of text ≡ ended (in_fours named.bases) ∷ lines_of named.further
  lines =
      ap lines_of (named.first_line ∙ ap (λ (front : List ℕ). front ++ lf ∷ named.further) (sym (same_written named.bases)))
      ∙ first_line_lem named.bases named.further

  pub rack_made : rack_for (lines_of text) ≡ Ok (rack_of named.bases)
  unfolding rack_for rack_of_line makes_rack
  rack_made =
      let bases = named.bases in
      let is = both (leb (length bases) 8) (are_bases bases) (good_made bases named.good) in
      rw (lines, bases_written bases is.1) (built_good bases named.good)

  pub lines_behind : to_answer text ≡ lines_of named.further
  unfolding further_lines
  lines_behind = rw (lines) refl
