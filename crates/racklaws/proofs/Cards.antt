-- What is promised of each card of a rack, by what is promised of a chip alone.
-- Rests on Followed, Projected and Built, on the fates' EveryByte, Discipline and Unforced, and on the account's Account.
use Rattle.std.proofs.Common.{◌≡◌, refl, sym, ◌∙◌, true, List, ℕ, ◌<◌, ◌≤◌, arith, length, lt-ltb, ne_eqb, Option, Some, None, ok_or}
use Rattle.std.specs.Result.{result_ok}
use Rattle.chip.specs.State.{all_low, power_up}
use Rattle.chip.specs.declared.Chip.{Chip}
use Rattle.chip.specs.declared.reasons.Explained.{Explained}
use Rattle.chip.specs.Reasons.{explained_of}
use Rattle.rack.specs.declared.Rack.{Rack}
use Rattle.rack.specs.declared.refusals.ViewRefusal.TheVariants.{NoSuchGroup}
use Rattle.rack.specs.Bases.{most_cards}
use Rattle.rack.specs.State.{chip_at, rack_of, card_edition}
use Rattle.rack.specs.Targets.{is_place}
use Rattle.rack.specs.Views.{card_of, card_pins, card_tally, card_explained, card_explained_numbered}
use Rattle.fates.specs.Promise.{run}
use Rattle.fates.proofs.EveryByte.{fates_from, fates}
use Rattle.fates.proofs.Discipline.{disciplined_from, disciplined}
use Rattle.fates.proofs.Unforced.{unforced_from, unforced}
use Rattle.account.proofs.Account.{account_from, account}
use Rattle.racklaws.specs.Whom.{RackEvent, free, events_for}
use Rattle.racklaws.specs.Promise.{rack_run, events_in, number_of_view, Whole, AsAlone, AsAloneFrom}
use Rattle.racklaws.proofs.Followed.{placed}
use Rattle.racklaws.proofs.Projected.{card_over}
use Rattle.racklaws.proofs.Built.{places_over, built_whole, built_bases, built_chip, placed_after}

-- What is answered of a number is what the chip says, and above 1, where it says nothing, that is refused with 2.
answer_back : (said : Option Explained) → result_ok (ok_or said NoSuchGroup) ≡ said
answer_back None = refl
answer_back (Some said) = refl

of_no_group : (c : Chip) (n : ℕ) → 1 < n → number_of_view (ok_or (explained_of c n) NoSuchGroup) ≡ 2
unfolding explained_of
of_no_group c n above = rw (ne_eqb n 0 (λ e. omega (arith, above, e)), ne_eqb n 1 (λ e. omega (arith, above, e))) refl

-- The card at place i of a rack that was built, after any history.
module _ (bs : List ℕ) (few : length bs ≤ most_cards) (es : List RackEvent) (i : ℕ) (there : i < length bs) where
  abbrev after : Rack
  after = rack_run (rack_of bs) es

  below : i < most_cards
  below = omega (arith, few, there)

  its_events : events_in i (rack_of bs) es ≡ events_for i bs free es
  unfolding rack_of
  its_events = rw (built_bases bs few)

  alone : chip_at after i ≡ run power_up (events_for i bs free es)
  alone = card_over (rack_of bs) (built_whole bs few) es i below ∙ rw (built_chip bs few i below, its_events)

  is_there : is_place after.count i ≡ true
  is_there = placed_after bs few es i ∙ lt-ltb i (length bs) there

  pub as_alone : AsAlone bs es i (events_for i bs free es)
  unfolding card_of card_pins card_tally card_explained card_explained_numbered
  as_alone = record {
    state = alone;
    card = rw (is_there, alone);
    pins = λ p. rw (is_there, alone);
    tally = λ g s. rw (is_there, alone);
    explains = λ g. rw (is_there, alone);
    explains_numbered = λ n. rw (is_there, alone) (answer_back (explained_of (run power_up (events_for i bs free es)) n));
    no_such_group = λ n above. rw is_there (of_no_group (chip_at after i) n above);
    fates = λ g s. fates g s card_edition all_low (events_for i bs free es);
    discipline = λ g. disciplined g card_edition all_low (events_for i bs free es);
    unforced = λ g s. unforced g s card_edition all_low (events_for i bs free es);
    account = account card_edition all_low (events_for i bs free es);
  }

-- The card at a place of any rack.
module _ (r : Rack) (whole : Whole r) (es : List RackEvent) (i : ℕ) (h : i < most_cards) where
  card_after : chip_at (rack_run r es) i ≡ run (chip_at r i) (events_in i r es)
  card_after = card_over r whole es i h

  still_there : is_place (rack_run r es).count i ≡ is_place r.count i
  still_there = places_over r whole es i ∙ sym (placed r.count r.bases whole.bases i)

  pub as_alone_from : AsAloneFrom r es i (chip_at r i) (events_in i r es)
  unfolding card_of card_pins card_tally card_explained card_explained_numbered
  as_alone_from = record {
    state = card_after;
    card = λ there. rw (still_there ∙ there, card_after);
    pins = λ there p. rw (still_there ∙ there, card_after);
    tally = λ there g s. rw (still_there ∙ there, card_after);
    explains = λ there g. rw (still_there ∙ there, card_after);
    explains_numbered = λ there n. rw (still_there ∙ there, card_after) (answer_back (explained_of (run (chip_at r i) (events_in i r es)) n));
    no_such_group = λ there n above. rw (still_there ∙ there) (of_no_group (chip_at (rack_run r es) i) n above);
    fates = λ g s bits. fates_from g s (chip_at r i) bits (events_in i r es);
    discipline = λ g found. disciplined_from g (chip_at r i) found (events_in i r es);
    unforced = λ g s. unforced_from g s (chip_at r i) (events_in i r es);
    account = account_from (chip_at r i) (events_in i r es);
  }
