-- An event that a rack refuses, in plain sentences.
-- Rests on Followed.
use Rattle.bus.specs.Device.{Given}
use Rattle.std.proofs.Common.{◌≡◌, refl, ap, subst, ◌∙◌, [], ℕ}
use Rattle.rack.specs.declared.Rack.{Rack}
use Rattle.racklaws.specs.Whom.{RackEvent, Whom, nobody, everybody, card, part}
use Rattle.racklaws.specs.Promise.{rack_stepped, whom_in, Reached, Whole}
use Rattle.racklaws.proofs.Followed.{followed}

refused_nobody : (r : Rack) (given : Given Rack) (w : Whom) → Reached r given w → ¬ (given.number ≡ 0) → w ≡ nobody
refused_nobody r given nobody reached n = refl
refused_nobody r given (everybody own) reached n = absurd (n reached.accepted)
refused_nobody r given (card i own) reached n = absurd (n reached.accepted)

given_back : (s : Given Rack) (r : Rack) → s.state ≡ r → s.byte ≡ 0 → s ≡ record { state = r; number = s.number; byte = 0 }
given_back s r same none = ap (λ (a : Rack). record { state = a; number = s.number; byte = s.byte }) same
    ∙ ap (λ (b : ℕ). record { state = r; number = s.number; byte = b }) none

module _ (r : Rack) (whole : Whole r) (e : RackEvent) where
  -- An event that the rack refuses reaches none of its cards.
  pub refused_reaches_none : ¬ ((rack_stepped r e).number ≡ 0) → (i : ℕ) → part i (whom_in r e) ≡ []
  refused_reaches_none n i = ap (part i) (refused_nobody r (rack_stepped r e) (whom_in r e) (followed r whole e).reached n)

  -- It changes nothing, in any card or on the bus, and its byte is 00.
  pub refusal_changes_nothing : ¬ ((rack_stepped r e).number ≡ 0) → rack_stepped r e ≡ record { state = r; number = (rack_stepped r e).number; byte = 0 }
  refusal_changes_nothing n =
      let f = subst (Reached r (rack_stepped r e)) (refused_nobody r (rack_stepped r e) (whom_in r e) (followed r whole e).reached n) (followed r whole e).reached in
      given_back (rack_stepped r e) r f.unchanged f.byte
