-- What is said of why the interrupts are quiet is what the account says, in the words of the table.
-- Rests on fates' ScriptRun, script's History, and account's Opened, Agrees and Accounted.
use Rattle.std.proofs.Common.{◌≡◌, ◌∙◌, refl, sym, ap, Bool, true, false, cond, not, Some, List, [], ◌∷◌, ◌++◌, append-nil, map, ℕ, ◌+◌, ◌<◌, ◌≤◌, eqb, length, lt-ltb, le-ltb}
use Prim.Native.String.{String}
use Rattle.bits.specs.Bit.{num}
use Rattle.bus.specs.Event.{Event}
use Rattle.control.specs.declared.Group.{Group}
use Rattle.control.specs.declared.Group.TheVariants.{A, B}
use Rattle.chip.specs.declared.channel.Side.TheVariants.{Input, Output}
use Rattle.chip.specs.declared.Chip.{Chip}
use Rattle.chip.specs.declared.Edition.TheVariants.{Older}
use Rattle.chip.specs.State.{all_high, power_up_as}
use Rattle.chip.specs.declared.reasons.Reason.{Reason}
use Rattle.chip.specs.declared.reasons.Reason.TheVariants.{EnableOff, FlagWrong, LineLow, OwnCycle, High}
use Rattle.chip.specs.declared.reasons.Explained.{Explained}
use Rattle.chip.specs.declared.reasons.Explained.TheVariants.{ModeZero, InputHalf, OutputHalf, BothHalves}
use Rattle.chip.specs.Reasons.{explained_in, explained_of, reason_number, Numbers, numbers_of}
use Rattle.chip.specs.Pins.{pins_of}
use Rattle.chip.specs.Step.{device, step_of, stepped}
use Rattle.text.specs.Lines.{Line, lines_of}
use Rattle.text.specs.Frames.{frame_in}
use Rattle.text.specs.History.{event_of, history_of}
use Rattle.script.specs.Answers.{by_device, left_after}
use Rattle.script.specs.Left.{refused_among}
use Rattle.script.proofs.History.{acted_in_is}
use Rattle.fates.specs.Kinds.{kind_of}
use Rattle.fates.specs.Promise.{run}
use Rattle.fates.proofs.ScriptRun.{leaves}
use Rattle.account.specs.Acts.{number_by}
use Rattle.account.specs.Account.{Account, account_next, opened}
use Rattle.account.specs.Promise.{over}
use Rattle.account.specs.Reasons.{explained}
use Rattle.account.proofs.Opened.{agrees_opened}
use Rattle.account.proofs.Agrees.{Agrees, agrees_next}
use Rattle.account.proofs.Accounted.{number_told_lem, accounted}
use Rattle.prints.specs.Quiet.{half_line, group_lines, refused_line, said_of_left, printed_quiet}
use Rattle.printlaws.specs.Refused.{long_text_unexplained}
use Rattle.printlaws.specs.Words.{table, input_line, output_line, lines_of_group, refused_in, count_line, said_after, accounted_words}

letter : Group → String
letter A = "A"
letter B = "B"

-- The line of a half is that of the table.
input_same : (g : Group) (r : Reason) → half_line g Input r ≡ input_line (letter g) (reason_number r) table
unfolding half_line letter
input_same A EnableOff = refl
input_same A FlagWrong = refl
input_same A LineLow = refl
input_same A OwnCycle = refl
input_same A High = refl
input_same B EnableOff = refl
input_same B FlagWrong = refl
input_same B LineLow = refl
input_same B OwnCycle = refl
input_same B High = refl

output_same : (g : Group) (r : Reason) → half_line g Output r ≡ output_line (letter g) (reason_number r) table
unfolding half_line letter
output_same A EnableOff = refl
output_same A FlagWrong = refl
output_same A LineLow = refl
output_same A OwnCycle = refl
output_same A High = refl
output_same B EnableOff = refl
output_same B FlagWrong = refl
output_same B LineLow = refl
output_same B OwnCycle = refl
output_same B High = refl

-- No reason has the number of mode 0.
other_number : (r : Reason) → eqb (reason_number r) 1 ≡ false
other_number EnableOff = refl
other_number FlagWrong = refl
other_number LineLow = refl
other_number OwnCycle = refl
other_number High = refl

group_same : (g : Group) (e : Explained) → group_lines g e ≡ lines_of_group (letter g) (numbers_of (Some e))
unfolding group_lines letter
group_same A ModeZero = refl
group_same B ModeZero = refl
group_same g (InputHalf r) = rw (other_number r) (input_same g r ∙ sym (append-nil _))
group_same g (OutputHalf r) = output_same g r
group_same g (BothHalves i o) = rw (other_number i) (λ k. input_same g i k ++ output_same g o k)

-- The lines that are refused are the events with another number than 0.
counted : (t : Bool) → num (not t) ≡ cond t 0 1
counted true = refl
counted false = refl

refused_same : (ls : List Line) (c : Chip) (a : Account) → Agrees c a
    → refused_among (by_device device pins_of) c ls ≡ refused_in a (map (λ (l : Line). event_of (frame_in l)) ls)
unfolding step_of
refused_same [] c a k = refl
refused_same (l ∷ ls) c a k =
    let e = event_of (frame_in l) in
    rw (acted_in_is device c (frame_in l))
    (λ i. (ap (λ n. num (not (eqb n 0))) (number_told_lem c a k e) ∙ counted (eqb (number_by a.surroundings.edition a.surroundings.phase (kind_of e)) 0)) i
    + refused_same ls (stepped c e).state (account_next a e) (agrees_next c a e k) i)

module _ (text : List ℕ) where
  abbrev es : List Event
  es = history_of text

  abbrev met : Chip
  met = power_up_as Older all_high

  abbrev account : Account
  account = opened Older all_high

  -- What is said of a group of the chip that the text leaves.
  said_by : (g : Group) (n : ℕ) → numbers_of (Some (explained_in (run met es) g)) ≡ numbers_of (explained_of (run met es) n)
      → group_lines g (explained_in (run met es) g) ≡ lines_of_group (letter g) (explained (over account es) n)
  said_by g n same =
      group_same g (explained_in (run met es) g)
      ∙ ap (λ (said : Numbers). lines_of_group (letter g) said)
      (same ∙ (accounted met account es (agrees_opened Older all_high)).explains n)

  said_of_a : group_lines A (explained_in (run met es) A) ≡ lines_of_group "A" (explained (over account es) 0)
  unfolding explained_of letter
  said_of_a = said_by A 0 refl

  said_of_b : group_lines B (explained_in (run met es) B) ≡ lines_of_group "B" (explained (over account es) 1)
  unfolding explained_of letter
  said_of_b = said_by B 1 refl

  count_same : (n : ℕ) → refused_line n ≡ count_line n
  unfolding refused_line
  count_same n = refl

  said_of_all : said_of_left (left_after (by_device device pins_of) met text) (refused_among (by_device device pins_of) met (lines_of text)) ≡ said_after account es
  unfolding said_of_left
  said_of_all =
      rw (leaves text)
      (λ i. said_of_a i ++ said_of_b i
      ++ (count_same _ ∙ ap count_line (refused_same (lines_of text) met account (agrees_opened Older all_high))) i)

  pub said_by_account : length text ≤ 4096 → printed_quiet text ≡ accounted_words (history_of text)
  unfolding printed_quiet
  said_by_account short = rw (le-ltb 4096 (length text) short) said_of_all

  pub unexplained : 4096 < length text → printed_quiet text ≡ long_text_unexplained
  unfolding printed_quiet
  unexplained more = rw (lt-ltb 4096 (length text) more) refl

pub ruleset explained_so = (said_by_account, unexplained)
