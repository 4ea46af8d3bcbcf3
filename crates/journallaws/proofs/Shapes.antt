-- A word is a frame exactly where it is one in plain numbers.
-- Rests on bits' Logic, the bus's ByKind and journal's Packed.
use Rattle.std.proofs.Common.{◌≡◌, ◌∙◌, refl, ap, subst, true, not, ◌&&◌, List, [], ◌∷◌, ℕ, ◌+◌, ◌*◌, ◌/◌, ◌%◌, ◌<◌, arith, eqb, eqb-true}
use Rattle.bits.proofs.Logic.{both, contrary}
use Rattle.bus.specs.Kinds.{is_kind, no_kind, operands_of}
use Rattle.bus.specs.Event.{Event, event}
use Rattle.bus.proofs.ByKind.{by_kind}
use Rattle.journal.specs.Words.{word_of, event_in, unused_zero, is_frame, all_frames}
use Rattle.journal.proofs.Packed.{packed_back, read_back}
use Rattle.journallaws.specs.Frames.{Frame, reset, begin_read, end_cycle, begin_write, levels, Frames}

-- The word of a frame with byte operands, kind by kind.
shape_of : (k x d : ℕ) → x < 256 → d < 256 → is_frame (event k x d) ≡ true → Frame (word_of (event k x d))
unfolding is_frame is_kind operands_of
shape_of k x d below below' =
    by_kind (λ k. is_frame (event k x d) ≡ true → Frame (word_of (event k x d)))
    (λ is. let z = both (eqb x 0) (eqb d 0) is in subst Frame (omega (arith, eqb-true x 0 z.0, eqb-true d 0 z.1)) reset)
    (λ is. subst Frame (omega (arith, eqb-true d 0 is)) (begin_read x below))
    (λ is. let z = both (eqb x 0) (eqb d 0) is in subst Frame (omega (arith, eqb-true x 0 z.0, eqb-true d 0 z.1)) end_cycle)
    (λ is. subst Frame (omega arith) (begin_write x d below below'))
    (λ is. subst Frame (omega arith) (levels x d below below'))
    (λ k none is. absurd (contrary (no_kind k) (ap not (both (is_kind k) (unused_zero (operands_of k) (event k x d)) is).0) none))
    k

pub is_shape : (w : ℕ) → is_frame (event_in w) ≡ true → Frame w
is_shape w is = subst Frame (packed_back w) (shape_of (w / 65536) (w / 256 % 256) (w % 256) (omega arith) (omega arith) is)

-- The other way round.
of_event : (e : Event) → e.first < 256 → e.second < 256 → is_frame e ≡ true → is_frame (event_in (word_of e)) ≡ true
of_event e first second is = ap is_frame (read_back e first second) ∙ is

at_word : (w : ℕ) (e : Event) → e.first < 256 → e.second < 256 → word_of e ≡ w → is_frame e ≡ true → is_frame (event_in w) ≡ true
at_word w e first second same is = subst (λ w. is_frame (event_in w) ≡ true) same (of_event e first second is)

pub shape_is : {w : ℕ} → Frame w → is_frame (event_in w) ≡ true
unfolding is_frame is_kind operands_of
shape_is reset = refl
shape_is (begin_read a below) = at_word (65536 + 256 * a) (event 1 a 0) below (omega arith) (omega arith) refl
shape_is end_cycle = refl
shape_is (begin_write a d below below') = at_word (196608 + 256 * a + d) (event 3 a d) below below' (omega arith) refl
shape_is (levels p d below below') = at_word (327680 + 256 * p + d) (event 5 p d) below below' (omega arith) refl

pub all_shapes : (ws : List ℕ) → all_frames ws ≡ true → Frames ws
all_shapes [] all = tt
all_shapes (w ∷ ws) all = let k = both (is_frame (event_in w)) (all_frames ws) all in (is_shape w k.0, all_shapes ws k.1)

pub shapes_all : (ws : List ℕ) → Frames ws → all_frames ws ≡ true
shapes_all [] all = refl
shapes_all (w ∷ ws) all = ap (λ b. b && all_frames ws) (shape_is all.0) ∙ shapes_all ws all.1
