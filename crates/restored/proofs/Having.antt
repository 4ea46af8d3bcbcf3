-- A chip has an image exactly where the rules' own words say so.
-- Rests on Conditions, on bits' Logic and fates' Tables.
use Rattle.std.proofs.Common.{◌≡◌, ◌∙◌, refl, ap, Bool, true, false, ◌⊎◌, inl, inr, ℕ, ◌<◌, arith, eqb-true, eq-eqb, ltb-true, lt-ltb, ◌↔◌}
use Rattle.bits.specs.Bit.{bit_of}
use Rattle.bits.proofs.Logic.{contrary}
use Rattle.bus.specs.declared.Phase.{Phase}
use Rattle.bus.specs.declared.Phase.TheVariants.{Idle, Reading, Writing}
use Rattle.control.specs.declared.Group.{Group}
use Rattle.chip.specs.declared.channel.Side.{Side}
use Rattle.chip.specs.declared.channel.Side.TheVariants.{Input, Output}
use Rattle.chip.specs.declared.channel.Fill.{Fill}
use Rattle.chip.specs.declared.channel.Fill.TheVariants.{Empty, Waiting, Fetching}
use Rattle.chip.specs.declared.Edition.{Edition}
use Rattle.chip.specs.declared.Edition.TheVariants.{Older, Newer}
use Rattle.chip.specs.declared.Chip.{Chip}
use Rattle.chip.specs.State.{channel_of}
use Rattle.chip.specs.Handshakes.{strobed}
use Rattle.fates.proofs.Tables.{strobes_same}
use Rattle.image.specs.Good.{names_its_place, allowed, has_image}
use Rattle.restored.specs.Having.{NamesAPlace, HasImage}
use Rattle.restored.proofs.Conditions.{apart, together}

-- Condition by condition.
place_so : (ed : Edition) (ph : Phase) → names_its_place ed ph ≡ true → NamesAPlace ed ph
place_so ed Idle is = tt
place_so Older (Reading p) is = omega (arith, ltb-true p 3 is)
place_so Newer (Reading p) is = omega (arith, ltb-true p 4 is)
place_so ed (Writing x d) is = omega (arith, ltb-true x 4 is)

place_by : (ed : Edition) (ph : Phase) → NamesAPlace ed ph → names_its_place ed ph ≡ true
place_by ed Idle few = refl
place_by Older (Reading p) few = lt-ltb p 3 (omega (arith, few))
place_by Newer (Reading p) few = lt-ltb p 4 (omega (arith, few))
place_by ed (Writing x d) few = lt-ltb x 4 (omega (arith, few))

input_so : (on : Bool) (f : Fill) → allowed on Input f ≡ true → (f ≡ Empty) ⊎ (on ≡ true)
input_so on Empty is = inl refl
input_so on Waiting is = inr is
input_so on Fetching is = inr is

input_by : (on : Bool) (f : Fill) → (f ≡ Empty) ⊎ (on ≡ true) → allowed on Input f ≡ true
input_by on f (inl none) = ap (allowed on Input) none
input_by on Empty (inr is) = refl
input_by on Waiting (inr is) = is
input_by on Fetching (inr is) = is

output_so : (on : Bool) (f : Fill) → allowed on Output f ≡ true → (f ≡ Empty) ⊎ ((on ≡ true) × (f ≡ Waiting))
output_so on Empty is = inl refl
output_so on Waiting is = inr (is, refl)
output_so on Fetching is = absurd (contrary false refl is)

output_by : (on : Bool) (f : Fill) → (f ≡ Empty) ⊎ ((on ≡ true) × (f ≡ Waiting)) → allowed on Output f ≡ true
output_by on f (inl none) = ap (allowed on Output) none
output_by on f (inr (is, waits)) = ap (allowed on Output) waits ∙ is

-- All of them.
pub has_so : (c : Chip) → has_image c ≡ true → HasImage c
unfolding bit_of
has_so c has =
    let k = apart c has in
    let w = c.core.word in
    record {
      place = place_so c.edition c.phase k.place;
      mode_word = eqb-true _ _ k.word;
      input = λ g. rw (strobes_same w g Input) (input_so _ _ (k.channel g Input));
      output = λ g. rw (strobes_same w g Output) (output_so _ _ (k.channel g Output));
    }

pub has_by : (c : Chip) → HasImage c → has_image c ≡ true
unfolding bit_of
has_by c k =
    together c
    (record { place = place_by c.edition c.phase k.place; word = eq-eqb _ _ k.mode_word; channel = each })
  where
    each : (g : Group) (s : Side) → allowed (strobed c.core.word g s) s (channel_of c.core g s).fill ≡ true
    each g Input =
        let w = c.core.word in
        input_by (strobed w g Input) (channel_of c.core g Input).fill (rw (← strobes_same w g Input) (k.input g))
    each g Output =
        let w = c.core.word in
        output_by (strobed w g Output) (channel_of c.core g Output).fill (rw (← strobes_same w g Output) (k.output g))

pub has_where : (c : Chip) → (has_image c ≡ true) ↔ HasImage c
has_where c = (has_so c, has_by c)

-- What is read is an address.
pub an_address : (ed : Edition) (p : ℕ) → NamesAPlace ed (Reading p) → p < 4
an_address Older p few = omega (arith, few)
an_address Newer p few = omega (arith, few)
