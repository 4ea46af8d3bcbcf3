-- The step takes states with an image to states with an image, and so does every history; the chip at every power-up has one.
-- Rests on Conditions, on bits' Logic, and on fates' Shapes, Tables, SurroundingsKept, SameByte and Followed.
use Rattle.std.proofs.Common.{◌≡◌, ◌∙◌, refl, sym, subst, Bool, true, false, cond, ◌&&◌, List, [], ◌∷◌, ℕ, eqb, ltb}
use Rattle.bits.specs.Bit.{bit_of}
use Rattle.bits.proofs.Logic.{both, either_way}
use Rattle.bus.specs.Event.{Event}
use Rattle.bus.specs.declared.Phase.{Phase}
use Rattle.bus.specs.declared.Phase.TheVariants.{Idle, Reading, Writing}
use Rattle.control.specs.declared.Group.{Group}
use Rattle.chip.specs.declared.channel.Side.{Side}
use Rattle.chip.specs.declared.channel.Side.TheVariants.{Input, Output}
use Rattle.chip.specs.declared.channel.Fill.{Fill}
use Rattle.chip.specs.declared.channel.Fill.TheVariants.{Empty, Waiting, Fetching}
use Rattle.chip.specs.declared.Edition.{Edition}
use Rattle.chip.specs.declared.Edition.TheVariants.{Older, Newer}
use Rattle.chip.specs.declared.Chip.{Chip}
use Rattle.chip.specs.declared.Levels.{Levels}
use Rattle.chip.specs.State.{power_up_as}
use Rattle.fates.specs.Kinds.{Kind, reset, cycle_ended, unknown, read_begun, write_begun, new_levels, free, readable_at, accepts, kind_of}
use Rattle.fates.specs.Surroundings.{Surroundings, of_mode_word, brought, phase_after, word_after, surroundings_after, surroundings_next}
use Rattle.fates.specs.Effects.{cleared_away, strobes, when, own_effect, clears, effect_of}
use Rattle.fates.specs.Left.{after_forced_full}
use Rattle.fates.specs.Promise.{run, surroundings_of}
use Rattle.fates.proofs.Shapes.{Shape, passes, offers, plants, decides, Gone, shape_of, fill_after}
use Rattle.fates.proofs.Tables.{strobes_same}
use Rattle.fates.proofs.SurroundingsKept.{surroundings_next_lem}
use Rattle.fates.proofs.SameByte.{word_stays}
use Rattle.fates.proofs.Followed.{after, fill, next_fill}
use Rattle.image.specs.Good.{can_be_read, names_its_place, allowed, has_image}
use Rattle.restored.proofs.Conditions.{Conditions, apart, together}

-- The history and the image say alike what can be read.
same_reading : (ed : Edition) (x : ℕ) → readable_at ed x ≡ can_be_read ed x
same_reading Older x = refl
same_reading Newer x = refl

-- A cycle that an accepted event begins names its place.
place_stays : (ed : Edition) (ph : Phase) (e : Kind) → accepts ed ph e ≡ true → names_its_place ed ph ≡ true → names_its_place ed (phase_after ph e) ≡ true
place_stays ed ph reset ok was = refl
place_stays ed ph (read_begun x) ok was = sym (same_reading ed x) ∙ (both (readable_at ed x) (free ph) ok).0
place_stays ed ph cycle_ended ok was = refl
place_stays ed ph (write_begun x d) ok was = (both (ltb x 4) (free ph) ok).0
place_stays ed ph (new_levels x d) ok was = was
place_stays ed ph unknown ok was = was

-- A mode word that comes into force has bit 7 set.
word_ends : (ph : Phase) (w : ℕ) → bit_of w 7 ≡ true → bit_of (cond (of_mode_word ph) (brought ph) w) 7 ≡ true
word_ends Idle w was = was
word_ends (Reading p) w was = was
word_ends (Writing x d) w was = go (eqb x 3) (bit_of d 7) refl
  where
    go : (control b : Bool) → bit_of d 7 ≡ b → bit_of (cond (control && b) d w) 7 ≡ true
    go false b is = was
    go true true is = is
    go true false is = was

bit_7_stays : (ph : Phase) (w : ℕ) (e : Kind) → bit_of w 7 ≡ true → bit_of (word_after ph w e) 7 ≡ true
unfolding bit_of
bit_7_stays ph w reset was = refl
bit_7_stays ph w (read_begun x) was = was
bit_7_stays ph w cycle_ended was = word_ends ph w was
bit_7_stays ph w (write_begun x d) was = was
bit_7_stays ph w (new_levels x d) was = was
bit_7_stays ph w unknown was = was

-- What is left of a channel whose byte is gone has an image where it had one before.
gone_keeps : (s : Side) (f left : Fill) → Gone s f left → allowed true s f ≡ true → allowed true s left ≡ true
gone_keeps s f Empty gone was = refl
gone_keeps s f Waiting gone was = refl
gone_keeps Input f Fetching gone was = refl
gone_keeps Output f Fetching gone was = rw (gone) at was

-- So has one in which a byte may have been planted.
planted_keeps : (s : Side) (f : Fill) → allowed true s f ≡ true → allowed true s (after_forced_full s f) ≡ true
planted_keeps s Empty was = refl
planted_keeps s Waiting was = refl
planted_keeps Input Fetching was = refl
planted_keeps Output Fetching was = refl

-- No effect leaves a strobed output fetching.
effect_keeps : (s : Side) (f : Fill) (d : Shape) → allowed true s f ≡ true → allowed true s (fill_after s f d) ≡ true
effect_keeps s f (passes to) was = was
effect_keeps s f (offers v) was = refl
effect_keeps s f plants was = planted_keeps s f was
effect_keeps s f (decides x) was = gone_keeps s f (x.left s f) (x.gone s f) was

-- A channel under an accepted event: all are emptied, or the word stays and only a strobed one takes part.
module _ (g : Group) (s : Side) (a : Surroundings) (e : Kind) (f : Fill) where
  channel_accepted : allowed (strobes a.word g s) s f ≡ true
      → allowed (strobes (word_after a.phase a.word e) g s) s (fill_after s f (shape_of (effect_of g s a e))) ≡ true
  channel_accepted was = go (clears a.phase e) refl
    where
      part : (on : Bool) → allowed on s f ≡ true → allowed on s (fill_after s f (shape_of (when on (own_effect g s a e)))) ≡ true
      part true was = effect_keeps s f (shape_of (own_effect g s a e)) was
      part false was = was

      go : (all : Bool) → clears a.phase e ≡ all
          → allowed (strobes (word_after a.phase a.word e) g s) s (fill_after s f (shape_of (cond all cleared_away (when (strobes a.word g s) (own_effect g s a e))))) ≡ true
      go true all = refl
      go false none = rw (word_stays a.phase a.word e none) (part (strobes a.word g s) was)

  channel_stays : (accepted : Bool) → allowed (strobes a.word g s) s f ≡ true
      → allowed (strobes (cond accepted (surroundings_after a e) a).word g s) s (fill_after s f (shape_of (when accepted (effect_of g s a e)))) ≡ true
  channel_stays true was = channel_accepted was
  channel_stays false was = was

-- The bus and the mode word under any event.
module _ (a : Surroundings) (e : Kind) where
  bus_stays : (accepted : Bool) → accepts a.edition a.phase e ≡ accepted → names_its_place a.edition a.phase ≡ true
      → names_its_place (cond accepted (surroundings_after a e) a).edition (cond accepted (surroundings_after a e) a).phase ≡ true
  bus_stays true ok was = place_stays a.edition a.phase e ok was
  bus_stays false ok was = was

  force_stays : (accepted : Bool) → bit_of a.word 7 ≡ true → bit_of (cond accepted (surroundings_after a e) a).word 7 ≡ true
  force_stays accepted was =
      either_way (λ (b : Surroundings). bit_of b.word 7) true accepted (surroundings_after a e) a (bit_7_stays a.phase a.word e was) was

conditions_stay : (c : Chip) (e : Event) → Conditions c → Conditions (after c e)
conditions_stay c e k =
    let accepted = accepts c.edition c.phase (kind_of e) in
    let surroundings : surroundings_next (surroundings_of c) e ≡ surroundings_of (after c e) = sym (surroundings_next_lem c e) in
    record {
      place = subst (λ (a : Surroundings). names_its_place a.edition a.phase ≡ true) surroundings (bus_stays (surroundings_of c) (kind_of e) accepted refl k.place);
      word = subst (λ (a : Surroundings). bit_of a.word 7 ≡ true) surroundings (force_stays (surroundings_of c) (kind_of e) accepted k.word);
      channel = λ g s.
          let on = strobes_same c.core.word g s in
          let was = subst (λ (b : Bool). allowed b s (fill g s c) ≡ true) (sym on) (k.channel g s) in
          let now_allowed = channel_stays g s (surroundings_of c) (kind_of e) (fill g s c) accepted was in
          let by_fill = subst (λ (f : Fill). allowed (strobes (surroundings_next (surroundings_of c) e).word g s) s f ≡ true) (sym (next_fill g s c e)) now_allowed in
          let by_word_lem = subst (λ (a : Surroundings). allowed (strobes a.word g s) s (fill g s (after c e)) ≡ true) surroundings by_fill in
          subst (λ (b : Bool). allowed b s (fill g s (after c e)) ≡ true) (strobes_same (after c e).core.word g s) by_word_lem;
    }

pub image_stays : (c : Chip) (e : Event) → has_image c ≡ true → has_image (after c e) ≡ true
image_stays c e has = together (after c e) (conditions_stay c e (apart c has))

pub history_stays : (c : Chip) (es : List Event) → has_image c ≡ true → has_image (run c es) ≡ true
history_stays c [] has = has
history_stays c (e ∷ es) has = history_stays (after c e) es (image_stays c e has)

pub power_up_has : (ed : Edition) (l : Levels) → has_image (power_up_as ed l) ≡ true
unfolding has_image bit_of
power_up_has ed l = refl

pub reached : (ed : Edition) (l : Levels) (es : List Event) → has_image (run (power_up_as ed l) es) ≡ true
reached ed l es = history_stays (power_up_as ed l) es (power_up_has ed l)
