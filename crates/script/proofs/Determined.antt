-- The contract of each public function of script leaves no choice: of the output and the subject that a run was lent neither. Nor does that of a
-- method by which a device or a rack answers scripts, or of a refusal made from another. What a run tells, no other answer tells.
-- Rests on bits', bus' and rack's Determined.
use Rattle.std.proofs.Common.{◌≡◌, ◌∙◌, refl, ap, sym, cond, ℕ, eqb, Result, Ok, Err}
use Rattle.bits.proofs.Determined.{Determines, equation_determines}
use Rattle.script.specs.declared.RunRefusal.{RunRefusal}
use Rattle.script.specs.declared.RunRefusal.TheVariants.{TooLong, NoRoom}
use Rattle.script.specs.Run.{Ran, run_told}
use Rattle.script.specs.Left.{Left, left_told}
use Rattle.script.specs.declared.racks.Ran as counts
use Rattle.script.specs.declared.racks.RackRunRefusal.{RackRunRefusal}
use Rattle.script.specs.declared.racks.RackRunRefusal.TheVariants.{BadRack, Run}
use Rattle.script.specs.RackRun as rack
use Rattle.script.specs.contracts as script_says
use Rattle.script.proofs as script

-- The answer that tells a number, and counts so many.
abbrev run_answer : ℕ → ℕ → Result ℕ RunRefusal
run_answer n count = cond (eqb n 0) (Ok count) (cond (eqb n 6) (Err TooLong) (Err NoRoom))

told_so : (r : Result ℕ RunRefusal) → r ≡ run_answer (run_told r).number (run_told r).lines
told_so (Ok n) = refl
told_so (Err TooLong) = refl
told_so (Err NoRoom) = refl

left_so : {S : Type 0} (r : Result ℕ RunRefusal) (s : S) → (r ≡ run_answer (left_told r s).number (left_told r s).refused) × (s ≡ (left_told r s).state)
left_so (Ok n) s = (refl, refl)
left_so (Err TooLong) s = (refl, refl)
left_so (Err NoRoom) s = (refl, refl)

pub number_determined : Determines script_says.RunRefusalNumbered.number.ended script.RunRefusalNumbered.number.Reads.Learnt
number_determined c x y = equation_determines

pub line_width_determined : Determines script_says.line_width.ended script.line_width.Reads.Learnt
line_width_determined c x y = equation_determines

pub run_from_determined
    : (S : _) (lS : _) (G : _) (t : _)
    → Determines (script_says.run_from.ended S G t) (script.run_from.Reads.Learnt S lS G t)
run_from_determined S lS G t c x y p q =
    let result = told_so x.0 ∙ ap (λ (r : Ran). run_answer r.number r.lines) (p.0 ∙ sym q.0) ∙ sym (told_so y.0) in
    let out = p.1.0 ∙ sym q.1.0 in
    let subject = p.1.1 ∙ sym q.1.1 in
    λ i. (result i, (subject i, (tt, (out i, tt))))

-- Before the output stand the edition and the text, which are not written.
pub run_determined : Determines script_says.run.ended script.run.Reads.Learnt
run_determined c x y p q =
    let result = told_so x.0 ∙ ap (λ (r : Ran). run_answer r.number r.lines) (p.0 ∙ sym q.0) ∙ sym (told_so y.0) in
    let out = p.1 ∙ sym q.1 in
    λ i. (result i, (tt, (tt, (out i, tt))))

pub run_8355_determined : Determines script_says.run_8355.ended script.run_8355.Reads.Learnt
run_8355_determined c x y p q =
    let result = told_so x.0 ∙ ap (λ (r : Ran). run_answer r.number r.lines) (p.0 ∙ sym q.0) ∙ sym (told_so y.0) in
    let out = p.1 ∙ sym q.1 in
    λ i. (result i, (tt, (out i, tt)))

pub take_all_determined
    : (S : _) (lS : _) (G : _) (t : _)
    → Determines (script_says.left.take_all.ended S G t) (script.left.take_all.Reads.Learnt S lS G t)
take_all_determined S lS G t c x y p q =
    let same = p ∙ sym q in
    let a = left_so x.0 x.1.0 in
    let b = left_so y.0 y.1.0 in
    let result = a.0 ∙ ap (λ (l : Left S.Denot). run_answer l.number l.refused) same ∙ sym b.0 in
    let subject = a.1 ∙ ap (λ (l : Left S.Denot). l.state) same ∙ sym b.1 in
    λ i. (result i, (subject i, (tt, tt)))

pub scripted_take_determined
    : (D : _) (lD : _) (G : _) (t : _)
    → Determines (script_says.devices.AnyScripted.take.ended D G t) (script.devices.AnyScripted.take.Reads.Learnt D lD G t)
scripted_take_determined D lD G t c x y p q =
    let same = p ∙ sym q in
    λ i. (record { number = (same i).number; byte = (same i).byte }, ((same i).state, (tt, tt)))

pub scripted_cards_determined
    : (D : _) (lD : _) (G : _) (t : _)
    → Determines (script_says.devices.AnyScripted.cards.ended D G t) (script.devices.AnyScripted.cards.Reads.Learnt D lD G t)
scripted_cards_determined D lD G t c x y = equation_determines

pub scripted_levels_determined
    : (D : _) (lD : _) (G : _) (t : _)
    → Determines (script_says.devices.AnyScripted.levels.ended D G t) (script.devices.AnyScripted.levels.Reads.Learnt D lD G t)
scripted_levels_determined D lD G t c x y = equation_determines

-- The answer of the run of a rack's script that tells a number, and counts so much.
abbrev rack_refusal : ℕ → RackRunRefusal
rack_refusal n = cond (eqb n 6) (Run TooLong) (cond (eqb n 9) (BadRack (record {})) (Run NoRoom))

abbrev rack_answer : rack.Ran → Result counts.Ran RackRunRefusal
rack_answer r = cond (eqb r.number 0) (Ok (record { lines = r.lines; length = r.length })) (Err (rack_refusal r.number))

rack_told_so : (r : Result counts.Ran RackRunRefusal) → r ≡ rack_answer (rack.run_told r)
rack_told_so (Ok ran) = refl
rack_told_so (Err (Run TooLong)) = refl
rack_told_so (Err (BadRack r)) = refl
rack_told_so (Err (Run NoRoom)) = refl

pub rack_number_determined : Determines script_says.racks.RackRunRefusalNumbered.number.ended script.racks.RackRunRefusalNumbered.number.Reads.Learnt
rack_number_determined c x y = equation_determines

-- Before the output stands the text, which is not written.
pub rack_run_determined : Determines script_says.racks.run.ended script.racks.run.Reads.Learnt
rack_run_determined c x y p q =
    let result = rack_told_so x.0 ∙ ap rack_answer (p.0 ∙ sym q.0) ∙ sym (rack_told_so y.0) in
    let out = p.1 ∙ sym q.1 in
    λ i. (result i, (tt, (out i, tt)))

pub rack_take_determined : Determines script_says.racks.answers.AnsweringScripted.take.ended script.racks.answers.AnsweringScripted.take.Reads.Learnt
rack_take_determined c x y p q =
    let same = p ∙ sym q in
    λ i. (record { number = (same i).number; byte = (same i).byte }, ((same i).state, (tt, tt)))

pub rack_cards_determined : Determines script_says.racks.answers.AnsweringScripted.cards.ended script.racks.answers.AnsweringScripted.cards.Reads.Learnt
rack_cards_determined c x y = equation_determines

pub rack_levels_determined : Determines script_says.racks.answers.AnsweringScripted.levels.ended script.racks.answers.AnsweringScripted.levels.Reads.Learnt
rack_levels_determined c x y = equation_determines

pub from_bad_rack_determined
    : Determines script_says.racks.RackRunRefusalFromBadRack.from.ended script.racks.RackRunRefusalFromBadRack.from.Reads.Learnt
from_bad_rack_determined c x y = equation_determines

pub from_run_refusal_determined
    : Determines script_says.racks.RackRunRefusalFromRunRefusal.from.ended script.racks.RackRunRefusalFromRunRefusal.from.Reads.Learnt
from_run_refusal_determined c x y = equation_determines
