-- `words::is_frame` meets its contract: a number that has a kind is that kind's, and one that has none makes no frame.
-- Rests on the bus's ByKind.
use Rattle.std.proofs.Common.{◌≡◌, ◌∙◌, refl, sym, ap}
use Rattle.bus.specs.Answers.{kind_numbered}
use Rattle.bus.proofs.ByKind.{kind_back, none_back}
use Rattle.journal.specs.declared.words.Logged.{Logged}
use Rattle.journal.specs.Words.{event_in, is_frame}
use Rattle.journal.proofs.words.is_frame.Goals as goal
use Rattle.journal.proofs.words.is_frame.Goals.{After-numbered}

-- What was asked for is the kind of the word's event.
asked : (c : goal.After-numbered) → c.numbered.result ≡ kind_numbered (event_in c.args.word).kind
asked c = c.numbered.ensures ∙ ap (λ (l : Logged). kind_numbered l.kind) c.read-logged.ensures

pub returns-in-Some : goal.returns-in-Some
unfolding is_frame
returns-in-Some c =
    let kind = kind_back (event_in c.args.word).kind c.in-Some.kind (sym c.in-Some.is ∙ asked (goal.at.returns-in-Some c).After-numbered) in
    rw (c.is_exact.ensures, c.operands.ensures, kind.0, kind.1, c.read-logged.ensures) refl

pub returns-in-None : goal.returns-in-None
unfolding is_frame
returns-in-None c =
    rw (none_back (event_in c.args.word).kind (sym c.in-None.is ∙ asked (goal.at.returns-in-None c).After-numbered)) refl
