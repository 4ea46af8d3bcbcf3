-- The number of a run by what it comes to, and the room that it says there is.
-- Rests on nothing.
use Rattle.std.proofs.Common.{◌≡◌, ◌∙◌, refl, ap, Bool, true, false, cond, List, ℕ, zero, suc, ◌≤◌, arith, ltb, ltb-false, ne_eqb}
use Rattle.script.specs.Run.{Ran, too_long, room_for, too_long_number, no_room_number, run_number, ran_by, ran_of}

module _ (w : ℕ) (text : List ℕ) (room : ℕ) where
  -- The number that a run tells is the run's.
  pub number_given : (r : Ran) → r ≡ ran_of w text room → r.number ≡ run_number w text room
  number_given r is = ap (λ (r : Ran). r.number) is ∙ go (run_number w text room)
    where
      go : (n : ℕ) → (ran_by n text).number ≡ n
      go zero = refl
      go (suc n) = rw (ne_eqb (suc n) 0 (λ e. omega (arith, e)))

  -- An accepted run has room for its answers.
  pub has_room_lem : run_number w text room ≡ 0 → room_for w text ≤ room
  unfolding run_number
  has_room_lem e = go (too_long text) (ltb room (room_for w text)) refl e
    where
      go : (long short : Bool) → ltb room (room_for w text) ≡ short → cond long too_long_number (cond short no_room_number 0) ≡ 0
          → room_for w text ≤ room
      go true short t e = absurd (omega (arith, e))
      go false true t e = absurd (omega (arith, e))
      go false false t e = ltb-false room (room_for w text) t
