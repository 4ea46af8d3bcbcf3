-- What a rack answers, line by line ("A rack of cards", "Script and program"): it is one of those who answer scripts, and has several cards.
use Rattle.std.specs.Prelude.{◌≡◌, refl, ℕ, Result, Ok, Err}
use Rattle.bus.specs.Device.{Given}
use Rattle.bus.specs.Cycles.{refused_in}
use Rattle.bus.specs.declared.Pins.{Pins}
use Rattle.rack.specs.declared.Rack.{Rack}
use Rattle.rack.specs.declared.refusals.ViewRefusal.{ViewRefusal}
use Rattle.rack.specs.Step.{step_of}
use Rattle.rack.specs.Views.{card_pins}
use Rattle.rack.proofs.Stays.{cards_stay}
use Rattle.script.specs.Answers.{Answerer, no_frame_number}
use Rattle.text.specs.Lines.{Line}
use Rattle.script.specs.RackFrames.{RackFrame, Event, NoFrame, rack_frame_in}

-- A frame is an event of the rack; what is no frame is refused.
unfoldable pub acted : Rack → RackFrame → Given Rack
acted r (Event k x y z) = step_of r k x y z
acted r NoFrame = refused_in r no_frame_number

-- What the rack makes of a line.
abbrev pub at_line : Rack → Line → Given Rack
at_line r l = acted r (rack_frame_in l)

-- It leaves the rack as many cards as there were.
pub count_kept : (r : Rack) (f : RackFrame) → (acted r f).state.count ≡ r.count
unfolding acted
count_kept r (Event k x y z) = (cards_stay r k x y z).0
count_kept r NoFrame = refl

-- The levels of a port that is there. Where there is no card, which an answer line does not ask, they are 0.
abbrev pub levels_in : Result Pins ViewRefusal → ℕ
levels_in (Err why) = 0
levels_in (Ok p) = p.levels

-- The rack as one who answers scripts: the levels of every card, in the order of their places, stand in every answer line.
abbrev pub answering : Answerer Rack
answering = record {
  takes = at_line;
  cards = λ r. r.count;
  levels = λ r i p. levels_in (card_pins r i p);
  cards_stay = λ r l. count_kept r (rack_frame_in l);
}
