-- Each card of a rack is a chip alone, after the events that reach it.
-- Rests on Followed.
use Rattle.std.proofs.Common.{◌≡◌, refl, sym, ap, ◌∙◌, Bool, true, false, cond, List, [], ◌∷◌, ◌++◌, ℕ, ◌<◌, eqb, eqb-true}
use borrow.Author.Tests.{eqb-false}
use Rattle.bus.specs.Event.{Event}
use Rattle.bus.specs.Device.{Given}
use Rattle.chip.specs.declared.Chip.{Chip}
use Rattle.rack.specs.declared.Rack.{Rack}
use Rattle.rack.specs.Bases.{most_cards}
use Rattle.rack.specs.State.{chip_at}
use Rattle.fates.specs.Promise.{run}
use Rattle.racklaws.specs.Whom.{RackEvent, Whom, nobody, everybody, card, part, bus_over}
use Rattle.racklaws.specs.Promise.{rack_stepped, rack_run, bus_of, bases_of, whom_in, events_in, Reached, Whole}
use Rattle.racklaws.proofs.Followed.{followed}

-- What an event reaches of a card, the card does.
part_run : (r : Rack) (given : Given Rack) (w : Whom) → Reached r given w → (i : ℕ) → i < most_cards → (later : List Event)
    → run (chip_at r i) (part i w ++ later) ≡ run (chip_at given.state i) later
part_run r given nobody reached i h later = ap (λ (a : Rack). run (chip_at a i) later) (sym reached.unchanged)
part_run r given (everybody own) reached i h later = ap (λ (c : Chip). run c later) (sym (reached.each i h))
part_run r given (card j own) reached i h later = go (eqb i j) refl
  where
    go : (t : Bool) → eqb i j ≡ t → run (chip_at r i) (cond t (own ∷ []) [] ++ later) ≡ run (chip_at given.state i) later
    go true e = rw (eqb-true i j e) (ap (λ (c : Chip). run c later) (sym reached.changed))
    go false e = ap (λ (c : Chip). run c later) (sym (reached.others i (eqb-false i j e)))

-- Over a history the bases and the eight places stay,
pub whole_over : (r : Rack) → Whole r → (es : List RackEvent) → Whole (rack_run r es)
whole_over r whole [] = whole
whole_over r whole (e ∷ es) = whole_over (rack_stepped r e).state (followed r whole e).whole es

pub bases_over : (r : Rack) → Whole r → (es : List RackEvent) → bases_of (rack_run r es) ≡ bases_of r
bases_over r whole [] = refl
bases_over r whole (e ∷ es) = let f = followed r whole e in bases_over (rack_stepped r e).state f.whole es ∙ f.bases

-- the bus follows from the events,
pub bus_over_lem : (r : Rack) → Whole r → (es : List RackEvent) → bus_of (rack_run r es).phase ≡ bus_over (bases_of r) (bus_of r.phase) es
bus_over_lem r whole [] = refl
bus_over_lem r whole (e ∷ es) = let f = followed r whole e in bus_over_lem (rack_stepped r e).state f.whole es ∙ rw (f.bases, f.bus)

-- and each card is what it was, after the events that reach it.
pub card_over : (r : Rack) → Whole r → (es : List RackEvent) → (i : ℕ) → i < most_cards → chip_at (rack_run r es) i ≡ run (chip_at r i) (events_in i r es)
card_over r whole [] i h = refl
card_over r whole (e ∷ es) i h =
    let f = followed r whole e in
    card_over (rack_stepped r e).state f.whole es i h
    ∙ rw (f.bases, f.bus) (sym (part_run r (rack_stepped r e) (whom_in r e) f.reached i h _))
