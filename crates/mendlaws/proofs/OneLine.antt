-- What becomes of a line is what the relation says, and the relation says nothing else of it.
-- Rests on Shapes and Spelled, on bits' Logic, and on mend's Cleaning, Fit and Judging.
use Rattle.std.proofs.Common.{◌≡◌, ◌∙◌, refl, ap, sym, subst, Bool, true, false, cond, List, [], ◌∷◌, ℕ, zero, suc, arith, eqb, length, eqb-true, ◌↔◌}
use Rattle.bits.proofs.Logic.{contrary}
use Rattle.bus.specs.Event.{Event}
use Rattle.text.specs.Lines.{Line, ended, rest}
use Rattle.text.specs.Frames.{is_frame, frame_of, is_event, frame_in}
use Rattle.text.specs.History.{event_of}
use Rattle.mend.specs.Line.{bytes_of, cr, without_cr, mended, sign_of, clean_line}
use Rattle.mend.proofs.Fit.{event_of_lem}
use Rattle.mend.proofs.Cleaning.{of_a_fit, of_another}
use Rattle.mend.proofs.Judging.{frame_stays, blank_if_none, not_blank, sign_kept, sign_mended, sign_blank, sign_unfit}
use Rattle.mendlaws.specs.Says.{Says}
use Rattle.mendlaws.specs.Spells.{Spells, Blank, nothing, cr as cr_alone}
use Rattle.mendlaws.specs.Becomes.{bytes_in, Becomes, kept, mended as mended_so, blank, unfit}
use Rattle.mendlaws.proofs.Shapes.{shape_is, is_shape}
use Rattle.mendlaws.proofs.Spelled.{said_in_digits, spelled, spells_mended}

-- The event of a line, where it is fit.
abbrev pub events_of : Line → List Event
events_of l = cond (is_frame (mended (bytes_of l))) (event_of (frame_of (mended (bytes_of l))) ∷ []) []

-- A line that says an event is a frame, and that event is what it is read as; and the other way round.
pub says_frame : {bytes : List ℕ} {e : Event} → Says bytes e → is_frame bytes ≡ true
says_frame {bytes} says = sym (event_of_lem bytes) ∙ ap is_event (shape_is says)

pub says_event : {bytes : List ℕ} {e : Event} → Says bytes e → event_of (frame_of bytes) ≡ e
says_event says = ap event_of (shape_is says)

pub frame_says : (bytes : List ℕ) → is_frame bytes ≡ true → Says bytes (event_of (frame_of bytes))
unfolding frame_of
frame_says bytes is = rw (is) (is_shape bytes is)

pub frame_exactly : (bytes : List ℕ) → (is_frame bytes ≡ true) ↔ ((e : Event) × Says bytes e)
frame_exactly bytes = (λ is. (event_of (frame_of bytes), frame_says bytes is), λ (e, says). says_frame says)

-- Nothing is left of blank lines, and of no others.
blank_of : (bytes : List ℕ) → length (without_cr bytes) ≡ 0 → Blank bytes
unfolding without_cr
blank_of [] none = nothing
blank_of (b ∷ []) none = go (eqb b cr) refl none
  where
    go : (t : Bool) → eqb b cr ≡ t → length (cond t [] (b ∷ [])) ≡ 0 → Blank (b ∷ [])
    go true is none = subst (λ b. Blank (b ∷ [])) (sym (eqb-true b cr is)) cr_alone
    go false is none = absurd (omega (arith, none))
blank_of (b ∷ d ∷ bytes) none = absurd (omega (arith, none))

of_blank : {bytes : List ℕ} → Blank bytes → length (without_cr bytes) ≡ 0
unfolding without_cr
of_blank nothing = refl
of_blank cr_alone = refl

pub same_bytes_lem : (l : Line) → bytes_in l ≡ bytes_of l
same_bytes_lem (ended bytes) = refl
same_bytes_lem (rest bytes) = refl

-- A blank line is no frame.
blank_unfit : (bytes : List ℕ) → length (without_cr bytes) ≡ 0 → is_frame (mended bytes) ≡ false
blank_unfit bytes none = go (is_frame (mended bytes)) refl
  where
    go : (t : Bool) → is_frame (mended bytes) ≡ t → t ≡ false
    go true is = absurd (contrary _ (not_blank (mended bytes) is) (blank_if_none bytes none))
    go false is = refl

-- By whether it is a frame as it stands, whether it is one when it is mended, and whether anything is left.
of_a_frame : (l : Line) → is_event (frame_in l) ≡ true → Becomes l (sign_of l) (clean_line (bytes_of l)) (events_of l)
unfolding frame_in
of_a_frame (ended bytes) event =
    let is = sym (event_of_lem bytes) ∙ event in
    let stays = frame_stays bytes is in
    rw (← sign_kept (ended bytes) event, of_a_fit bytes (ap is_frame stays ∙ is), stays, is) (kept (frame_says bytes is))
of_a_frame (rest bytes) event = absurd (contrary false refl event)

module _ (l : Line) where
  of_a_fit_line : is_event (frame_in l) ≡ false → is_frame (mended (bytes_of l)) ≡ true → Becomes l (sign_of l) (clean_line (bytes_of l)) (events_of l)
  unfolding frame_in
  of_a_fit_line none fit =
      let bytes = mended (bytes_of l) in
      let spells = subst (λ line. Spells line bytes) (sym (same_bytes_lem l)) (spells_mended (bytes_of l)) in
      let other : ¬ (l ≡ ended bytes) = λ same. contrary (is_event (frame_in l)) none (ap (λ l. is_event (frame_in l)) same ∙ event_of_lem bytes ∙ fit) in
      rw (← sign_mended l none fit, of_a_fit (bytes_of l) fit, fit) (mended_so (frame_says bytes fit) spells other)

  of_nothing : length (without_cr (bytes_of l)) ≡ 0 → Becomes l (sign_of l) (clean_line (bytes_of l)) (events_of l)
  of_nothing none =
      let no_frame_lem = blank_unfit (bytes_of l) none in
      rw (← sign_blank l none, of_another (bytes_of l) no_frame_lem, no_frame_lem)
      (blank (subst Blank (sym (same_bytes_lem l)) (blank_of (bytes_of l) none)))

  of_an_unfit : ¬ (length (without_cr (bytes_of l)) ≡ 0) → is_frame (mended (bytes_of l)) ≡ false → Becomes l (sign_of l) (clean_line (bytes_of l)) (events_of l)
  of_an_unfit some no_frame_lem =
      rw (← sign_unfit l some no_frame_lem, of_another (bytes_of l) no_frame_lem, no_frame_lem)
      (unfit
      (λ bytes e says spells.
      contrary (is_frame (mended (bytes_of l))) no_frame_lem
      (ap is_frame (spelled (said_in_digits says) (subst (λ line. Spells line bytes) (same_bytes_lem l) spells)) ∙ says_frame says))
      (λ b. some (of_blank (subst Blank (same_bytes_lem l) b))))

  pub becomes : Becomes l (sign_of l) (clean_line (bytes_of l)) (events_of l)
  becomes = go (is_event (frame_in l)) refl (is_frame (mended (bytes_of l))) refl (length (without_cr (bytes_of l))) refl
    where
      go : (t : Bool) → is_event (frame_in l) ≡ t → (f : Bool) → is_frame (mended (bytes_of l)) ≡ f → (n : ℕ) → length (without_cr (bytes_of l)) ≡ n
          → Becomes l (sign_of l) (clean_line (bytes_of l)) (events_of l)
      go true t f is n left = of_a_frame l t
      go false t true is n left = of_a_fit_line t is
      go false t false is zero left = of_nothing left
      go false t false is (suc n) left = of_an_unfit (λ none. omega (arith, left, none)) is

-- A line that is a frame as it stands is what it is when it is mended.
as_it_stands : (l : Line) → is_event (frame_in l) ≡ true → l ≡ ended (mended (bytes_of l))
unfolding frame_in
as_it_stands (ended bytes) event = ap ended (sym (frame_stays bytes (sym (event_of_lem bytes) ∙ event)))
as_it_stands (rest bytes) event = absurd (contrary false refl event)

not_so : (l : Line) (bytes : List ℕ) → mended (bytes_of l) ≡ bytes → ¬ (l ≡ ended bytes) → is_event (frame_in l) ≡ false
not_so l bytes is other = go (is_event (frame_in l)) refl
  where
    go : (t : Bool) → is_event (frame_in l) ≡ t → t ≡ false
    go true event = absurd (other (as_it_stands l event ∙ ap ended is))
    go false event = refl

-- What a line becomes by the relation.
abbrev Is : Line → ℕ → List ℕ → List Event → Type 0
Is l s part es = (s ≡ sign_of l) × (part ≡ clean_line (bytes_of l)) × (es ≡ events_of l)

unspelled : (l : Line) → ((bytes : List ℕ) (e : Event) → Says bytes e → ¬ Spells (bytes_in l) bytes) → is_frame (mended (bytes_of l)) ≡ false
unspelled l none = go (is_frame (mended (bytes_of l))) refl
  where
    go : (t : Bool) → is_frame (mended (bytes_of l)) ≡ t → t ≡ false
    go true fit =
        let spells = subst (λ line. Spells line (mended (bytes_of l))) (sym (same_bytes_lem l)) (spells_mended (bytes_of l)) in
        absurd (none _ _ (frame_says (mended (bytes_of l)) fit) spells)
    go false fit = refl

pub only : {l : Line} {s : ℕ} {part : List ℕ} {es : List Event} → Becomes l s part es → Is l s part es
unfolding frame_in
only (kept {bytes} says) =
    let is = says_frame says in
    let stays = frame_stays bytes is in (
      sign_kept (ended bytes) (event_of_lem bytes ∙ is),
      rw (of_a_fit bytes (ap is_frame stays ∙ is), stays),
      rw (stays, is, says_event says),
    )
only (mended_so {l} {bytes} says spells other) =
    let is : mended (bytes_of l) ≡ bytes = spelled (said_in_digits says) (subst (λ line. Spells line bytes) (same_bytes_lem l) spells) in
    let fit = ap is_frame is ∙ says_frame says in (
      sign_mended l (not_so l bytes is other) fit,
      rw (of_a_fit (bytes_of l) fit, is),
      rw (fit, is, says_event says),
    )
only (blank {l} b) =
    let none = of_blank (subst Blank (same_bytes_lem l) b) in
    let no_frame_lem = blank_unfit (bytes_of l) none in
    (sign_blank l none, sym (of_another (bytes_of l) no_frame_lem), rw (no_frame_lem))
only (unfit {l} none some) =
    let no_frame_lem = unspelled l none in (
      sign_unfit l (λ empty. some (subst Blank (sym (same_bytes_lem l)) (blank_of (bytes_of l) empty))) no_frame_lem,
      sym (of_another (bytes_of l) no_frame_lem),
      rw (no_frame_lem),
    )
