-- Chips with the same core show the same where the same cycles of ports run on them: at the pins, in the answers to reads, in the tallies, and
-- in what is said of the interrupts.
-- Rests on bits' BitLaws.
use Rattle.std.proofs.Common.{◌≡◌, refl, ap, Bool, cond, ℕ}
use Rattle.bits.specs.Bit.{bit_of, assembled}
use Rattle.bits.proofs.BitLaws.{assembled_same}
use Rattle.bus.specs.declared.Phase.{Phase}
use Rattle.control.specs.declared.Group.{Group}
use Rattle.control.specs.declared.Group.TheVariants.{A, B}
use Rattle.control.specs.Role.{Role, input, output, INTR, IBF, OBF, STB, ACK, role_of}
use Rattle.chip.specs.declared.channel.Side.{Side}
use Rattle.chip.specs.declared.channel.Side.TheVariants.{Input, Output}
use Rattle.chip.specs.declared.Core.{Core}
use Rattle.chip.specs.declared.Edition.{Edition}
use Rattle.chip.specs.declared.Chip.{Chip}
use Rattle.chip.specs.Handshakes.{group_at, running}
use Rattle.chip.specs.Status.{request_of, intr_of}
use Rattle.chip.specs.Reasons.{reason_of, explained_in, explained_of}
use Rattle.chip.specs.Reads.{read_as, read_lines, read_of}
use Rattle.chip.specs.Pins.{is_driven, level_as, pins_of_lines, pins_of}
use Rattle.chip.specs.Step.{on_bus}
use Rattle.laws.specs.Editions.{ShowsAlike}

module _ (core : Core) (ph ph' : Phase) (ed ed' : Edition) (same : (g : Group) (s : Side) → running ph g s ≡ running ph' g s) where
  abbrev one : Chip
  one = on_bus ph ed core

  abbrev other : Chip
  other = on_bus ph' ed' core

  request_same : (g : Group) (s : Side) → request_of one g s ≡ request_of other g s
  unfolding request_of
  request_same g s = rw (same g s)

  intr_same : (g : Group) → intr_of one g ≡ intr_of other g
  unfolding intr_of
  intr_same g = rw (request_same g Input, request_same g Output)

  told_same : (n : ℕ) (r : Role) → read_as one n r ≡ read_as other n r
  told_same n input = refl
  told_same n output = refl
  told_same n INTR = intr_same (group_at n)
  told_same n IBF = refl
  told_same n OBF = refl
  told_same n STB = refl
  told_same n ACK = refl

  level_same : (n : ℕ) (r : Role) → level_as one n r ≡ level_as other n r
  level_same n r = ap (λ (b : Bool). cond (is_driven r) b (bit_of core.c.outside n)) (told_same n r)

  read_lines_same : read_lines one ≡ read_lines other
  unfolding read_lines
  read_lines_same = assembled_same _ _ (λ n small. told_same n (role_of core.word n))

  shown_lines_same : pins_of_lines one ≡ pins_of_lines other
  unfolding pins_of_lines
  shown_lines_same =
      ap (λ (l : ℕ). record { levels = l; driven = assembled (λ n. is_driven (role_of core.word n)) })
      (assembled_same _ _ (λ n small. level_same n (role_of core.word n)))

  pins_same : (p : ℕ) → pins_of one p ≡ pins_of other p
  unfolding pins_of
  pins_same p = rw (shown_lines_same)

  pub read_same : (p : ℕ) → read_of one p ≡ read_of other p
  unfolding read_of
  read_same p = rw (read_lines_same)

  reason_same : (g : Group) (s : Side) → reason_of one g s ≡ reason_of other g s
  unfolding reason_of
  reason_same g s = rw (same g s)

  explained_in_same : (g : Group) → explained_in one g ≡ explained_in other g
  unfolding explained_in
  explained_in_same g = rw (reason_same g Input, reason_same g Output)

  explained_same : (n : ℕ) → explained_of one n ≡ explained_of other n
  unfolding explained_of
  explained_same n = rw (explained_in_same A, explained_in_same B)

  pub shows_alike : ShowsAlike one other
  shows_alike = record { pins = pins_same; reads = λ p small. read_same p; tallies = λ g s. refl; explained = explained_same }
