-- An event of the rack by its four numbers: it is stepped as the event that they name, and what names none is refused with 1.
-- Rests on bus's ByKind and Numbering.
use Rattle.std.proofs.Common.{◌≡◌, ◌∙◌, refl, sym, ap, Bool, true, false, cond, ℕ, min, arith, ltb, ltb-true, ltb-false, Option, Some, None, unwrap_or}
use Rattle.std.proofs.lemmas.Option.{none-some}
use Rattle.bus.specs.Kinds as kinds
use Rattle.bus.specs.Kinds.{is_kind}
use Rattle.bus.specs.Refusals.{number_of}
use Rattle.bus.specs.Device.{step_in}
use Rattle.bus.specs.Cycles.{refused_in}
use Rattle.bus.proofs.ByKind.{by_kind, last_choice, no_kind_differs}
use Rattle.bus.proofs.Numbering.{no_kind_refused}
use Rattle.bus.proofs.Places.{at_place_lem}
use Rattle.rack.specs.declared.Rack.{Rack}
use Rattle.rack.specs.declared.events.RackEvent.{RackEvent}
use Rattle.rack.specs.declared.events.RackEvent.TheVariants.{Reset, BeginRead, EndCycle, BeginWrite, OutsideLevels}
use Rattle.rack.specs.Bases.{no_card_number}
use Rattle.rack.specs.State.{number_at}
use Rattle.rack.specs.Targets.{Target, target_from, bases_in, is_place, target_at, target_of}
use Rattle.rack.specs.Step.{device, step_at, step_of}
use Rattle.rack.specs.Answers.{event_numbered, stepped}

module _ (r : Rack) (k x y z : ℕ) where
  -- A read that begins has no byte.
  read_at : (t : Option Target) → step_at r t kinds.begin_read y ≡ step_at r t kinds.begin_read 0
  unfolding step_in number_of is_kind
  read_at None = refl
  read_at (Some t) = refl

  pub named : (e : RackEvent) → Some e ≡ event_numbered k x y z → step_of r k x y z ≡ stepped r e
  unfolding step_of target_of step_in number_of is_kind
  named e is =
      by_kind (λ k. Some e ≡ event_numbered k x y z → step_of r k x y z ≡ stepped r e)
      (λ is. ap (λ o. stepped r (unwrap_or o Reset)) (sym is))
      (λ is. read_at (target_from 0 (bases_in r.count r.bases) x) ∙ ap (λ o. stepped r (unwrap_or o Reset)) (sym is))
      (λ is. ap (λ o. stepped r (unwrap_or o Reset)) (sym is))
      (λ is. ap (λ o. stepped r (unwrap_or o Reset)) (sym is))
      (λ is. ap (λ o. stepped r (unwrap_or o Reset)) (sym is))
      (λ k none is. absurd (none-some e (sym (is ∙ last_choice _ _ _ _ _ None k none))))
      k is

  pub unnamed : None ≡ event_numbered k x y z → step_of r k x y z ≡ refused_in r 1
  unfolding step_of target_of is_kind
  unnamed is =
      by_kind (λ k. None ≡ event_numbered k x y z → step_of r k x y z ≡ refused_in r 1)
      (λ is. absurd (none-some Reset is))
      (λ is. absurd (none-some (BeginRead x) is))
      (λ is. absurd (none-some EndCycle is))
      (λ is. absurd (none-some (BeginWrite x y) is))
      (λ is. absurd (none-some (OutsideLevels x y z) is))
      (λ k none is.
      rw (
        no_kind_differs k kinds.begin_read none refl,
        no_kind_differs k kinds.begin_write none refl,
        no_kind_differs k kinds.outside_levels none refl,
      )
      (no_kind_refused device r k 0 y none))
      k is

pub ruleset by_numbers = (named, unnamed)

-- What the rack makes of an event, on its own bus at the number of a card and a register; levels on a port above the last as on the first above it.
module _ (r : Rack) where
  pub reset_placed : stepped r Reset ≡ step_in device r kinds.reset 0 0
  unfolding step_of target_of step_in number_of is_kind
  reset_placed = refl

  pub end_placed : stepped r EndCycle ≡ step_in device r kinds.end_cycle 0 0
  unfolding step_of target_of
  end_placed = refl

  pub read_placed : (a : ℕ) → stepped r (BeginRead a) ≡ step_at r (target_from 0 (bases_in r.count r.bases) a) kinds.begin_read 0
  unfolding step_of target_of
  read_placed a = refl

  pub write_placed : (a d : ℕ) → stepped r (BeginWrite a d) ≡ step_at r (target_from 0 (bases_in r.count r.bases) a) kinds.begin_write d
  unfolding step_of target_of
  write_placed a d = refl

  pub levels_placed : (i p d : ℕ) → stepped r (OutsideLevels i p d)
      ≡ cond (is_place r.count i) (step_in device r kinds.outside_levels (number_at i (min p 3)) d) (refused_in r no_card_number)
  unfolding step_of target_of target_at
  levels_placed i p d = go (is_place r.count i)
    where
      alike : step_in device r kinds.outside_levels (number_at i p) d ≡ step_in device r kinds.outside_levels (number_at i (min p 3)) d
      alike = by (ltb p 3) refl
        where
          by : (t : Bool) → ltb p 3 ≡ t → step_in device r kinds.outside_levels (number_at i p) d ≡ step_in device r kinds.outside_levels (number_at i (min p 3)) d
          by true below = ap (λ q. step_in device r kinds.outside_levels (number_at i q) d) (omega (arith, ltb-true p 3 below))
          by false above =
              (at_place_lem device r (number_at i p) d).levels_nowhere (omega (arith, ltb-false p 3 above))
              ∙ sym ((at_place_lem device r (number_at i (min p 3)) d).levels_nowhere (omega (arith, ltb-false p 3 above)))

      go : (t : Bool) → step_at r (cond t (Some (i, p)) None) kinds.outside_levels d
          ≡ cond t (step_in device r kinds.outside_levels (number_at i (min p 3)) d) (refused_in r no_card_number)
      go true = alike
      go false = refl

pub ruleset placed = (reset_placed, end_placed, read_placed, write_placed, levels_placed)
