-- A line is mended to one thing alone, and means what that says.
-- Rests on OneLine and Spelled, and on mend's Cleaning.
use Rattle.std.proofs.Common.{◌≡◌, ◌∙◌, refl, ap, sym, subst, Bool, true, false, cond, List, [], ◌∷◌, ◌++◌, map, ℕ, arith, eqb, ltb, length, length-append, eqb-true, ltb-true, ltb-false}
use borrow.Author.Tests.{eqb-false}
use Rattle.bus.specs.Event.{Event}
use Rattle.text.specs.Lines.{Line}
use Rattle.text.specs.Frames.{is_frame, frame_of}
use Rattle.text.specs.History.{event_of}
use Rattle.mend.specs.Line.{bytes_of, cr, without_cr, raised, mended}
use Rattle.mend.proofs.Cleaning.{of_a_fit}
use Rattle.mendlaws.specs.Says.{Says}
use Rattle.mendlaws.specs.Becomes.{Becomes}
use Rattle.mendlaws.specs.Steps.{WithoutCr, dropped, none, IsRaised, below, small, above, AllRaised, done, next, MendsTo}
use Rattle.mendlaws.proofs.Spelled.{raised_below, raised_small, raised_above}
use Rattle.mendlaws.proofs.OneLine.{says_frame, frame_says, same_bytes_lem, only}

-- The parts of equal lists.
abbrev first : List ℕ → ℕ
first [] = 0
first (b ∷ bytes) = b

abbrev later : List ℕ → List ℕ
later [] = []
later (b ∷ bytes) = bytes

-- What is left without a CR at the end.
nothing_ends : (front : List ℕ) → ¬ ([] ≡ front ++ 13 ∷ [])
nothing_ends front e = omega (arith, ap length e, length-append front (13 ∷ []))

one_ends : (b : ℕ) → ¬ (b ≡ 13) → (front : List ℕ) → ¬ (b ∷ [] ≡ front ++ 13 ∷ [])
one_ends b other [] e = other (ap first e)
one_ends b other (d ∷ front) e = nothing_ends front (ap later e)

ends_later : (b d : ℕ) (bytes : List ℕ) → ((front : List ℕ) → ¬ (d ∷ bytes ≡ front ++ 13 ∷ [])) → (front : List ℕ) → ¬ (b ∷ d ∷ bytes ≡ front ++ 13 ∷ [])
ends_later b d bytes not [] e = omega (arith, ap length e)
ends_later b d bytes not (h ∷ front) e = not front (ap later e)

left_of_lem : (bytes : List ℕ) → WithoutCr bytes (without_cr bytes)
unfolding without_cr
left_of_lem [] = none nothing_ends refl
left_of_lem (b ∷ []) = go (eqb b cr) refl
  where
    go : (t : Bool) → eqb b cr ≡ t → WithoutCr (b ∷ []) (cond t [] (b ∷ []))
    go true is = dropped (ap (λ b. b ∷ []) (eqb-true b cr is))
    go false is = none (one_ends b (eqb-false b cr is)) refl
left_of_lem (b ∷ d ∷ bytes) = go (left_of_lem (d ∷ bytes))
  where
    go : {left : List ℕ} → WithoutCr (d ∷ bytes) left → WithoutCr (b ∷ d ∷ bytes) (b ∷ left)
    go (dropped is) = dropped (ap (λ (l : List ℕ). b ∷ l) is)
    go (none not same) = none (ends_later b d bytes not) (ap (λ (l : List ℕ). b ∷ l) same)

drops_one : (front : List ℕ) → without_cr (front ++ 13 ∷ []) ≡ front
unfolding without_cr
drops_one [] = refl
drops_one (b ∷ []) = refl
drops_one (b ∷ d ∷ front) = ap (λ (l : List ℕ). b ∷ l) (drops_one (d ∷ front))

left_is : {bytes left : List ℕ} → WithoutCr bytes left → left ≡ without_cr bytes
left_is {bytes} {left} (dropped is) = sym (drops_one left) ∙ ap without_cr (sym is)
left_is {bytes} {left} (none not same) = go (left_of_lem bytes)
  where
    go : {found : List ℕ} → WithoutCr bytes found → left ≡ found
    go {found} (dropped is) = absurd (not found is)
    go (none also as_well) = same ∙ sym as_well

-- What digits are raised to.
raised_is : {code r : ℕ} → IsRaised code r → r ≡ raised code
raised_is {code} (below few is) = is ∙ sym (raised_below code few)
raised_is {code} (small many few is) = omega (arith, is, many, raised_small code many few)
raised_is {code} (above many is) = is ∙ sym (raised_above code (omega (arith, many)))

all_raised_is : {codes rs : List ℕ} → AllRaised codes rs → rs ≡ map raised codes
all_raised_is done = refl
all_raised_is (next one others) = λ i. raised_is one i ∷ all_raised_is others i

raised_so : (code : ℕ) → IsRaised code (raised code)
raised_so code = go (ltb code 97) refl (ltb code 103) refl
  where
    go : (less : Bool) → ltb code 97 ≡ less → (up_to : Bool) → ltb code 103 ≡ up_to → IsRaised code (raised code)
    go true l up_to u = let few = ltb-true code 97 l in below few (raised_below code few)
    go false l true u =
        let many = ltb-false code 97 l in
        let few = ltb-true code 103 u in
        small many (omega (arith, few)) (omega (arith, many, raised_small code many (omega (arith, few))))
    go false l false u = let many = ltb-false code 103 u in above (omega (arith, many)) (raised_above code many)

all_raised : (codes : List ℕ) → AllRaised codes (map raised codes)
all_raised [] = done
all_raised (code ∷ codes) = next (raised_so code) (all_raised codes)

module _ (l : Line) where
  pub mends : MendsTo l (mended (bytes_of l))
  unfolding mended
  mends = record {
    left = without_cr (bytes_of l);
    without_cr = subst (λ bytes. WithoutCr bytes (without_cr (bytes_of l))) (sym (same_bytes_lem l)) (left_of_lem (bytes_of l));
    raised = all_raised (without_cr (bytes_of l));
  }

  pub alone : {others : List ℕ} → MendsTo l others → others ≡ mended (bytes_of l)
  unfolding mended
  alone to = all_raised_is to.raised ∙ ap (map raised) (left_is to.without_cr ∙ ap without_cr (same_bytes_lem l))

  -- A line has an event just where it is a frame when it is mended.
  pub fit : {s : ℕ} {part : List ℕ} {e : Event} → Becomes l s part (e ∷ []) → Says (mended (bytes_of l)) e × (part ≡ mended (bytes_of l) ++ 10 ∷ [])
  fit {part} {e} becomes = go (is_frame (mended (bytes_of l))) refl (only becomes).2
    where
      event : List Event → Event
      event [] = e
      event (e ∷ es) = e

      go : (t : Bool) → is_frame (mended (bytes_of l)) ≡ t → e ∷ [] ≡ cond t (event_of (frame_of (mended (bytes_of l))) ∷ []) []
          → Says (mended (bytes_of l)) e × (part ≡ mended (bytes_of l) ++ 10 ∷ [])
      go true is es = (
        subst (Says (mended (bytes_of l))) (sym (ap event es)) (frame_says (mended (bytes_of l)) is),
        (only becomes).1 ∙ of_a_fit (bytes_of l) is,
      )
      go false is es = absurd (omega (arith, ap length es))

  pub unfit : {s : ℕ} {part : List ℕ} → Becomes l s part [] → (e : Event) → ¬ Says (mended (bytes_of l)) e
  unfit becomes e says = let none = rw (says_frame says) at (only becomes).2 in omega (arith, ap length none)
