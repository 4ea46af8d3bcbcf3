-- Bytes are an older image exactly where they tell, place by place, a chip that has an image.
-- Rests on Having, Holds and Parts, on image's SameBytes, ComesBack, OneImage, OlderSameBytes, OlderComesBack and OlderOneImage, and on calls'
-- Converted.
use Rattle.std.proofs.Common.{◌≡◌, ◌∙◌, refl, ap, sym, subst, true, List, [], ◌∷◌, ◌++◌, ℕ, ◌+◌, ◌≤◌, length, get_or, eq-eqb, le-ltb, ◌↔◌}
use Rattle.bus.specs.declared.Phase.{Phase}
use Rattle.bus.specs.declared.Phase.TheVariants.{Idle, Reading, Writing}
use Rattle.control.specs.declared.Group.TheVariants.{A, B}
use Rattle.chip.specs.declared.channel.Side.TheVariants.{Input, Output}
use Rattle.chip.specs.declared.channel.Tally.{Tally}
use Rattle.chip.specs.declared.Chip.{Chip}
use Rattle.image.specs.Layout.{five_tallies, image_of}
use Rattle.image.specs.Good.{Bytes}
use Rattle.image.proofs.SameBytes.{spelled}
use Rattle.image.proofs.ComesBack as now
use Rattle.image.proofs.OneImage.{has_image_lem}
use Rattle.image.specs.OlderLayout.{bus_byte, address_byte, older_of}
use Rattle.image.specs.OlderLoaded.{older_state}
use Rattle.image.specs.OlderGood.{is_older}
use Rattle.image.specs.Before.{NoneForced, FromBefore}
use Rattle.image.proofs.OlderSameBytes.{same_bytes_lem}
use Rattle.image.proofs.OlderComesBack.{comes_back, from_before}
use Rattle.image.proofs.OlderOneImage.{older_where, tells_such}
use Rattle.calls.specs.Calls.{last_channel, group_numbered, side_numbered, counter_numbered, tally_answer, convert_answer, convert_image}
use Rattle.calls.proofs.Converted.{converts, convert_same, brought_over}
use Rattle.restored.specs.Host.{Holds}
use Rattle.restored.specs.Having.{HasImage}
use Rattle.restored.specs.Table.{byte}
use Rattle.restored.specs.OlderBytes.{TellsFive, running_number, place_number, OlderTells, Converted}
use Rattle.restored.proofs.Having.{has_so, has_by}
use Rattle.restored.proofs.Holds.{tally_held}
use Rattle.restored.proofs.Parts.{fill_told, enables_told, written_told, two_bytes, low_byte, high_byte, behind}

-- Part by part, the numbers of the layout are those of the table.
running_told : (ph : Phase) → running_number ph ≡ bus_byte ph
running_told Idle = refl
running_told (Reading p) = refl
running_told (Writing x d) = refl

place_told : (ph : Phase) → place_number ph ≡ address_byte ph
place_told Idle = refl
place_told (Reading p) = refl
place_told (Writing x d) = refl

-- The ten bytes of a channel's tallies.
abbrev ten : List ℕ → ℕ → List ℕ
ten o i =
    byte o i ∷ byte o (i + 1) ∷ byte o (i + 2) ∷ byte o (i + 2 + 1) ∷ byte o (i + 4) ∷ byte o (i + 4 + 1) ∷ byte o (i + 6) ∷ byte o (i + 6 + 1)
    ∷ byte o (i + 8) ∷ byte o (i + 8 + 1) ∷ []

module _ (o : List ℕ) (i : ℕ) (t : Tally) where
  five_told : five_tallies t ≡ ten o i → (t.planted ≡ 0) × (t.struck ≡ 0) → TellsFive o i t
  five_told same none = record {
    offered = two_bytes t.offered (at 0) (at 1);
    handed = two_bytes t.handed (at 2) (at 3);
    overwritten = two_bytes t.overwritten (at 4) (at 5);
    swallowed = two_bytes t.swallowed (at 6) (at 7);
    cleared = two_bytes t.cleared (at 8) (at 9);
    planted = none.0;
    struck = none.1;
  }
    where
      at : (k : ℕ) → get_or (five_tallies t) k 0 ≡ get_or (ten o i) k 0
      at k = ap (λ m. get_or m k 0) same

  five_back : Bytes o → TellsFive o i t → five_tallies t ≡ ten o i
  five_back bytes tells =
      λ j.
      low_byte o bytes i tells.offered j ∷ high_byte o bytes i tells.offered j
      ∷ low_byte o bytes (i + 2) tells.handed j ∷ high_byte o bytes (i + 2) tells.handed j
      ∷ low_byte o bytes (i + 4) tells.overwritten j ∷ high_byte o bytes (i + 4) tells.overwritten j
      ∷ low_byte o bytes (i + 6) tells.swallowed j ∷ high_byte o bytes (i + 6) tells.swallowed j
      ∷ low_byte o bytes (i + 8) tells.cleared j ∷ high_byte o bytes (i + 8) tells.cleared j ∷ []

-- The older layout of a chip tells the chip.
pub layout_tells : (c : Chip) → FromBefore c → OlderTells (older_of c) c
unfolding older_of
layout_tells c (older, none) =
    let a = c.core.a.input in
    let b = c.core.a.output in
    let d = c.core.b.input in
    let e = c.core.b.output in
    record {
      long = refl;
      a_in = record { counts = five_told (older_of c) 0 a.tally refl (none A Input); latch = refl; fill = fill_told a.fill };
      a_out = record { counts = five_told (older_of c) 10 b.tally refl (none A Output); latch = refl; fill = fill_told b.fill };
      b_in = record { counts = five_told (older_of c) 20 d.tally refl (none B Input); latch = refl; fill = fill_told d.fill };
      b_out = record { counts = five_told (older_of c) 30 e.tally refl (none B Output); latch = refl; fill = fill_told e.fill };
      levels_a = refl;
      levels_b = refl;
      levels_c = refl;
      latch_c = refl;
      mode_word = refl;
      enables = enables_told c.core.inte.input c.core.inte.output c.core.inte.b;
      running = running_told c.phase;
      place = place_told c.phase;
      written = written_told c.phase;
      edition = older;
      unused = refl;
    }

-- In the image of a chip in which nothing was planted or struck both tallies read 0 in every channel.
module _ (c : Chip) (has : HasImage c) (before : FromBefore c) (k : ℕ) (channel : k ≤ last_channel) where
  held : Holds (image_of c) c
  held = let is = has_by c has in record { image = has_image_lem c is; state = now.comes_back c is; has = is }

  none_planted : tally_answer (image_of c) k 5 ≡ 0
  unfolding counter_numbered
  none_planted = rw (tally_held (image_of c) c held k 5, le-ltb last_channel k channel, (before.1 (group_numbered k) (side_numbered k)).0)

  none_struck : tally_answer (image_of c) k 6 ≡ 0
  unfolding counter_numbered
  none_struck = rw (tally_held (image_of c) c held k 6, le-ltb last_channel k channel, (before.1 (group_numbered k) (side_numbered k)).1)

-- So in what is converted into it.
module _ (o : List ℕ) (c : Chip) (has : HasImage c) (before : FromBefore c) (same : older_state o ≡ c)
    (answer : (room : List ℕ) → length room ≡ 96 → convert_answer o room ≡ 0)
    (written : (room : List ℕ) → length room ≡ 96 → convert_image o room ≡ image_of c) where
  all_converted : Converted o c
  all_converted = record {
    state = same;
    answer = answer;
    written = written;
    planted = λ room k long few. ap (λ (m : List ℕ). tally_answer m k 5) (written room long) ∙ none_planted c has before k few;
    struck = λ room k long few. ap (λ (m : List ℕ). tally_answer m k 6) (written room long) ∙ none_struck c has before k few;
  }

-- Bytes that tell a chip are its older layout.
module _ (o : List ℕ) (bytes : Bytes o) (c : Chip) (t : OlderTells o c) where
  pub told_layout : older_of c ≡ o
  unfolding older_of
  told_layout =
      let a = c.core.a.input in
      let b = c.core.a.output in
      let d = c.core.b.input in
      let e = c.core.b.output in
      (λ j.
      five_back o 0 a.tally bytes t.a_in.counts j
      ++ five_back o 10 b.tally bytes t.a_out.counts j
      ++ five_back o 20 d.tally bytes t.b_in.counts j
      ++ five_back o 30 e.tally bytes t.b_out.counts j
      ++ (t.levels_a j ∷ t.levels_b j ∷ t.levels_c j ∷ t.latch_c j
      ∷ t.a_in.latch j ∷ t.a_out.latch j ∷ t.b_in.latch j ∷ t.b_out.latch j
      ∷ (sym (fill_told a.fill) ∙ t.a_in.fill) j ∷ (sym (fill_told b.fill) ∙ t.a_out.fill) j
      ∷ (sym (fill_told d.fill) ∙ t.b_in.fill) j ∷ (sym (fill_told e.fill) ∙ t.b_out.fill) j
      ∷ t.mode_word j ∷ (sym (enables_told c.core.inte.input c.core.inte.output c.core.inte.b) ∙ t.enables) j
      ∷ (sym (running_told c.phase) ∙ t.running) j ∷ (sym (place_told c.phase) ∙ t.place) j
      ∷ (sym (written_told c.phase) ∙ t.written) j ∷ [])
      ++ (sym t.unused ∙ sym (behind o 57 7 t.long)) j)
      ∙ spelled o 64 t.long

  before : FromBefore c
  before = (t.edition, none)
    where
      none : NoneForced c
      none A Input = (t.a_in.counts.planted, t.a_in.counts.struck)
      none A Output = (t.a_out.counts.planted, t.a_out.counts.struck)
      none B Input = (t.b_in.counts.planted, t.b_in.counts.struck)
      none B Output = (t.b_out.counts.planted, t.b_out.counts.struck)

  module _ (has : HasImage c) where
    is_older_lem : is_older o ≡ true
    is_older_lem = ap is_older (sym told_layout) ∙ older_where c t.edition ∙ has_by c has

    pub converted : Converted o c
    converted =
        let same : older_state o ≡ c = ap older_state (sym told_layout) ∙ comes_back c before in
        all_converted o c has before same
        (λ room long. converts o room bytes is_older_lem long)
        (λ room long. convert_same o room bytes is_older_lem long ∙ ap image_of same)

-- Exactly such bytes are an older image.
pub older_image_where : (o : List ℕ) → Bytes o → (is_older o ≡ true) ↔ ((c : Chip) × HasImage c × OlderTells o c)
older_image_where o bytes = (tells, λ (c, has, t). is_older_lem o bytes c t has)
  where
    tells : is_older o ≡ true → (c : Chip) × HasImage c × OlderTells o c
    tells good =
        let c = older_state o in
        (c, has_so c (tells_such o bytes good), subst (λ l. OlderTells l c) (same_bytes_lem o bytes good) (layout_tells c (from_before o)))

pub told_once : (o p : List ℕ) (c : Chip) → Bytes o → Bytes p → OlderTells o c → OlderTells p c → o ≡ p
told_once o p c bo bp t u = sym (told_layout o bo c t) ∙ told_layout p bp c u

-- So the older layout of a chip becomes its image.
pub layout_converted : (c : Chip) → HasImage c → FromBefore c → Converted (older_of c) c
unfolding convert_answer
layout_converted c has before =
    let is : is_older (older_of c) ≡ true = older_where c before.0 ∙ has_by c has in
    all_converted (older_of c) c has before (comes_back c before)
    (λ room long. rw (is, eq-eqb _ 96 long))
    (λ room long. brought_over c room (has_by c has) before long)
