-- On any device a cycle that runs after a history was begun by the last accepted beginning in it, or ran before.
-- Rests on Outcomes.
use Rattle.std.proofs.Common.{◌≡◌, ◌∙◌, refl, ap, sym, Bool, true, false, cond, List, [], ◌∷◌, ◌⊎◌, inl, inr, ⊎_elim, ℕ, eqb}
use Rattle.bus.specs.Event.{Event}
use Rattle.bus.specs.declared.Phase.{Phase}
use Rattle.bus.specs.declared.Phase.TheVariants.{Idle, Reading, Writing}
use Rattle.bus.specs.Device.{Device, Given, gives, reset_in, read_begun_in, cycle_ended_in, write_begun_in, levels_put_in, byte_in, run_in}
use Rattle.bus.specs.Begun.{cycle_of, given_in, NoneBegins, BegunBy, Begun}
use Rattle.bus.proofs.Outcomes.{outcomes}

module _ {S R : Type 0} (dev : Device S R) where
  -- What an event leaves of the bus: the cycle ph that it began; nothing; or what was there, where it began none.
  abbrev Leaves : S → Phase → Given S → Type 0
  Leaves s ph o =
      ((o.number ≡ 0) × (dev.phase o.state ≡ ph))
      ⊎ ((dev.phase o.state ≡ Idle) ⊎ ((dev.phase o.state ≡ dev.phase s) × (o.number ≡ 0 → ph ≡ Idle)))

  leaves : (s : S) (e : Event) → Leaves s (cycle_of e) (given_in dev s e)
  leaves s e =
      outcomes dev s e.kind e.first e.second (Leaves s (cycle_of e))
      (λ no. inr (inr (refl, λ ok. absurd (no ok))))
      (λ ok. go e.first e.second (eqb e.kind 0) (eqb e.kind 1) (eqb e.kind 2) (eqb e.kind 3))
    where
      go : (x d : ℕ) (r b n w : Bool)
          → Leaves s (cond b (Reading x) (cond w (Writing x d) Idle))
          (gives (cond r (reset_in dev s) (cond b (read_begun_in dev s x) (cond n (cycle_ended_in dev s) (cond w (write_begun_in dev s x d) (levels_put_in dev s x d)))))
          0 (byte_in dev s e.kind x))
      go x d true b n w = inr (inl (dev.phase_on Idle _))
      go x d false true n w = inl (refl, dev.phase_on (Reading x) _)
      go x d false false true w = inr (inl (dev.phase_on Idle _))
      go x d false false false true = inl (refl, dev.phase_on (Writing x d) _)
      go x d false false false false = inr (inr (dev.phase_on (dev.phase s) _, λ ok. refl))

  -- What was begun among the later events was begun among all.
  earlier : (s : S) (e : Event) (es : List Event) (ph : Phase) → BegunBy dev (given_in dev s e).state es ph → BegunBy dev s (e ∷ es) ph
  earlier s e es ph b = record {
    before = e ∷ b.before;
    beginning = b.beginning;
    after = b.after;
    among = ap (λ (es : List Event). e ∷ es) b.among;
    accepted = b.accepted;
    names = b.names;
    last = b.last;
  }

  -- What ran before the later events was begun by the first, or ran before that one too.
  first : (s : S) (e : Event) (es : List Event) (ph : Phase) → ¬ (ph ≡ Idle)
      → (ph ≡ dev.phase (given_in dev s e).state) × NoneBegins dev (given_in dev s e).state es → Begun dev s (e ∷ es) ph
  first s e es ph runs ran =
      ⊎_elim
      (λ begins. inl (record {
        before = [];
        beginning = e;
        after = es;
        among = refl;
        accepted = begins.0;
        names = sym (ran.0 ∙ begins.1);
        last = ran.1;
      }))
      (⊎_elim (λ idle. absurd (runs (ran.0 ∙ idle))) (λ stays. inr (ran.0 ∙ stays.0, (stays.1, ran.1))))
      (leaves s e)

  pub begun : (s : S) (es : List Event) → ¬ (dev.phase (run_in dev s es) ≡ Idle) → Begun dev s es (dev.phase (run_in dev s es))
  begun s [] runs = inr (refl, tt)
  begun s (e ∷ es) runs =
      let next = (given_in dev s e).state in
      let ph = dev.phase (run_in dev next es) in
      ⊎_elim (λ later. inl (earlier s e es ph later)) (first s e es ph runs) (begun next es runs)
