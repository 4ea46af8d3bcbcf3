-- The contract of each public function leaves no choice: of the answer, and of every byte of a slice that is written. Nor does that of a method by
-- which the bytes of an image hold its chip; a method that puts leaves none where the bytes are those of the state that they tell.
-- Rests on bits' Determined.
use Rattle.std.proofs.Common.{refl, ap}
use Rattle.bits.proofs.Determined.{Determines, DeterminesWhere, equation_determines, equations_determine}
use Rattle.image.specs.Good.{Told}
use Rattle.chip.specs.Held.{Holds}
use Rattle.chip.proofs.Held.{one_after}
use Rattle.image.specs.Held.{in_bytes}
use Rattle.image.specs.contracts as image_says
use Rattle.image.proofs as image

pub good_determined : Determines image_says.check.good.ended image.check.good.Reads.Learnt
good_determined c x y = equation_determines

pub edition_determined : Determines image_says.load.edition.ended image.load.edition.Reads.Learnt
edition_determined c x y = equation_determines

pub load_determined : Determines image_says.load.state.ended image.load.state.Reads.Learnt
load_determined c x y = equation_determines

pub save_determined : Determines image_says.save.state.ended image.save.state.Reads.Learnt
save_determined c x y p q = equations_determine (refl, p) (refl, q)

pub save_bus_determined : Determines image_says.save.bus.ended image.save.bus.Reads.Learnt
save_bus_determined c x y p q = equations_determine (refl, p) (refl, q)

pub older_good_determined : Determines image_says.older.good.ended image.older.good.Reads.Learnt
older_good_determined c x y = equation_determines

-- Before the image stands the older one, which is not written.
pub convert_determined : Determines image_says.older.convert.ended image.older.convert.Reads.Learnt
convert_determined c x y p q = ap (λ z. (z.0, (tt, z.1))) (equations_determine (refl, p) (refl, q))

pub held_phase_determined : Determines image_says.held.ArrayU8LENGTHHolderImage.phase.ended image.held.ArrayU8LENGTHHolderImage.phase.Reads.Learnt
held_phase_determined c x y = equation_determines

pub held_runs_determined : Determines image_says.held.ArrayU8LENGTHHolderImage.runs.ended image.held.ArrayU8LENGTHHolderImage.runs.Reads.Learnt
held_runs_determined c x y = equation_determines

pub held_edition_determined : Determines image_says.held.ArrayU8LENGTHHolderImage.edition.ended image.held.ArrayU8LENGTHHolderImage.edition.Reads.Learnt
held_edition_determined c x y = equation_determines

pub held_word_determined : Determines image_says.held.ArrayU8LENGTHHolderImage.word.ended image.held.ArrayU8LENGTHHolderImage.word.Reads.Learnt
held_word_determined c x y = equation_determines

pub held_channel_determined : Determines image_says.held.ArrayU8LENGTHHolderImage.channel.ended image.held.ArrayU8LENGTHHolderImage.channel.Reads.Learnt
held_channel_determined c x y = equation_determines

pub held_outside_determined : Determines image_says.held.ArrayU8LENGTHHolderImage.outside.ended image.held.ArrayU8LENGTHHolderImage.outside.Reads.Learnt
held_outside_determined c x y = equation_determines

pub held_latch_c_determined : Determines image_says.held.ArrayU8LENGTHHolderImage.latch_c.ended image.held.ArrayU8LENGTHHolderImage.latch_c.Reads.Learnt
held_latch_c_determined c x y = equation_determines

pub held_outside_c_determined : Determines image_says.held.ArrayU8LENGTHHolderImage.outside_c.ended image.held.ArrayU8LENGTHHolderImage.outside_c.Reads.Learnt
held_outside_c_determined c x y = equation_determines

pub held_enables_determined : Determines image_says.held.ArrayU8LENGTHHolderImage.enables.ended image.held.ArrayU8LENGTHHolderImage.enables.Reads.Learnt
held_enables_determined c x y = equation_determines

pub held_put_phase_determined
    : DeterminesWhere image_says.held.ArrayU8LENGTHHolderImage.put_phase.ended image.held.ArrayU8LENGTHHolderImage.put_phase.Reads.Learnt (λ c. Told c.1.0.now × Holds in_bytes c.1.1.0)
held_put_phase_determined c here x y p q = equations_determine (refl, one_after here.0 (p here.1) (q here.1)) (refl, refl)

pub held_put_word_determined
    : DeterminesWhere image_says.held.ArrayU8LENGTHHolderImage.put_word.ended image.held.ArrayU8LENGTHHolderImage.put_word.Reads.Learnt (λ c. Told c.1.0.now)
held_put_word_determined c told x y p q = equations_determine (refl, one_after told p q) (refl, refl)

pub held_put_channel_determined
    : DeterminesWhere image_says.held.ArrayU8LENGTHHolderImage.put_channel.ended image.held.ArrayU8LENGTHHolderImage.put_channel.Reads.Learnt (λ c. Told c.1.0.now)
held_put_channel_determined c told x y p q = equations_determine (refl, one_after told p q) (refl, refl)

pub held_put_latch_determined
    : DeterminesWhere image_says.held.ArrayU8LENGTHHolderImage.put_latch.ended image.held.ArrayU8LENGTHHolderImage.put_latch.Reads.Learnt (λ c. Told c.1.0.now)
held_put_latch_determined c told x y p q = equations_determine (refl, one_after told p q) (refl, refl)

pub held_put_outside_determined
    : DeterminesWhere image_says.held.ArrayU8LENGTHHolderImage.put_outside.ended image.held.ArrayU8LENGTHHolderImage.put_outside.Reads.Learnt (λ c. Told c.1.0.now)
held_put_outside_determined c told x y p q = equations_determine (refl, one_after told p q) (refl, refl)

pub held_put_latch_c_determined
    : DeterminesWhere image_says.held.ArrayU8LENGTHHolderImage.put_latch_c.ended image.held.ArrayU8LENGTHHolderImage.put_latch_c.Reads.Learnt (λ c. Told c.1.0.now)
held_put_latch_c_determined c told x y p q = equations_determine (refl, one_after told p q) (refl, refl)

pub held_put_outside_c_determined
    : DeterminesWhere image_says.held.ArrayU8LENGTHHolderImage.put_outside_c.ended image.held.ArrayU8LENGTHHolderImage.put_outside_c.Reads.Learnt (λ c. Told c.1.0.now)
held_put_outside_c_determined c told x y p q = equations_determine (refl, one_after told p q) (refl, refl)

pub held_put_enables_determined
    : DeterminesWhere image_says.held.ArrayU8LENGTHHolderImage.put_enables.ended image.held.ArrayU8LENGTHHolderImage.put_enables.Reads.Learnt (λ c. Told c.1.0.now)
held_put_enables_determined c told x y p q = equations_determine (refl, one_after told p q) (refl, refl)
