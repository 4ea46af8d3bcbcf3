-- What each move of a channel leaves of its latch, of its flag and of a byte that was given, in the account's shapes.
-- Rests on bits' Logic, chip's ConditionsLeft and laws' Forcing.
use Rattle.std.proofs.Common.{◌≡◌, ◌∙◌, refl, ap, sym, Bool, true, false, cond, not, ◌&&◌, ◌||◌, ℕ}
use mathlib.Core.Bool.{and-false, and-true, or-false, or-true}
use Rattle.bits.proofs.Logic.{either_way}
use Rattle.chip.specs.declared.channel.Side.{Side}
use Rattle.chip.specs.declared.channel.Side.TheVariants.{Input, Output}
use Rattle.chip.specs.declared.channel.Fill.{Fill}
use Rattle.chip.specs.declared.channel.Fill.TheVariants.{Empty, Waiting, Fetching}
use Rattle.chip.specs.declared.channel.Channel.{Channel}
use Rattle.chip.specs.Channel.{is_waiting, is_empty, flag_of}
use Rattle.chip.specs.Moves.{after_offer, after_follow, after_hand_over, after_end_read, after_force}
use Rattle.chip.proofs.ConditionsLeft.{leaves, offer_waits, offer_latches, follow_stays, follow_latches, hand_over_leaves, hand_over_keeps, end_read_empties, end_read_keeps, forced_to, force_leaves, force_keeps}
use Rattle.chip.specs.declared.Port.{Port}
use Rattle.chip.specs.State.{with_output}
use Rattle.chip.specs.Write.{stored_in}
use Rattle.laws.specs.Forcing.{is_fetching}
use Rattle.laws.proofs.Forcing.{forced_flag}

-- IBF and OBF of a channel.
abbrev pub full : Channel → Bool
full ch = not (is_empty ch.fill)

abbrev pub vacant : Channel → Bool
vacant ch = not (is_waiting ch.fill)

-- A read has been given the byte.
abbrev pub given : Channel → Bool
given ch = is_fetching ch.fill

-- A port after a write: own, to this port; out, an output; on, a strobed one.
module _ (p : Port) (d : ℕ) where
  abbrev after : Bool → Bool → Bool → Port
  after own out on = cond own (cond out (with_output p (stored_in p.output on d)) p) p

  pub written_input : (own out on : Bool) → (after own out on).input ≡ p.input
  written_input true true on = refl
  written_input true false on = refl
  written_input false out on = refl

  pub written_latch : (own out on : Bool) → (after own out on).output.latch ≡ cond (own && out) d p.output.latch
  written_latch true true true = offer_latches p.output d
  written_latch true true false = refl
  written_latch true false on = refl
  written_latch false out on = refl

  pub written_vacant : (own out on : Bool) → (on ≡ true → out ≡ true) → vacant (after own out on).output ≡ (vacant p.output && not (own && on))
  written_vacant true true true sure = rw (offer_waits p.output d) (sym (and-false (vacant p.output)))
  written_vacant true true false sure = sym (and-true (vacant p.output))
  written_vacant true false true sure = cc (sure refl)
  written_vacant true false false sure = sym (and-true (vacant p.output))
  written_vacant false out on sure = sym (and-true (vacant p.output))

module _ (ch : Channel) where
  -- A read that begins, and one that ends, where the channel takes part.
  pub begun_full : (b : Bool) → full (cond b (after_hand_over ch Fetching) ch) ≡ full ch
  begun_full true = ap (λ (f : Fill). not (is_empty f)) (hand_over_leaves ch Fetching) ∙ go ch.fill
    where
      go : (f : Fill) → not (is_empty (leaves f Fetching)) ≡ not (is_empty f)
      go Empty = refl
      go Waiting = refl
      go Fetching = refl
  begun_full false = refl

  pub ended_full : (on own : Bool) → full (cond (on && own) (after_end_read ch) ch) ≡ (full ch && not (own && on))
  ended_full true true = rw (end_read_empties ch) (sym (and-false (full ch)))
  ended_full true false = sym (and-true (full ch))
  ended_full false true = sym (and-true (full ch))
  ended_full false false = sym (and-true (full ch))

  pub begun_given : (on own : Bool) → given (cond (on && own) (after_hand_over ch Fetching) ch) ≡ (given ch || (full ch && (own && on)))
  begun_given true true = ap is_fetching (hand_over_leaves ch Fetching) ∙ go ch.fill
    where
      go : (f : Fill) → is_fetching (leaves f Fetching) ≡ (is_fetching f || (not (is_empty f) && true))
      go Empty = refl
      go Waiting = refl
      go Fetching = refl
  begun_given true false = rw (and-false (full ch)) (sym (or-false (given ch)))
  begun_given false true = rw (and-false (full ch)) (sym (or-false (given ch)))
  begun_given false false = rw (and-false (full ch)) (sym (or-false (given ch)))

  pub ended_given : (on own : Bool) → given (cond (on && own) (after_end_read ch) ch) ≡ (given ch && not (own && on))
  ended_given true true = rw (end_read_empties ch) (sym (and-false (given ch)))
  ended_given true false = sym (and-true (given ch))
  ended_given false true = sym (and-true (given ch))
  ended_given false false = sym (and-true (given ch))

  -- A flag that is forced, where the channel takes part.
  pub forced_full : (b v : Bool) → full (cond b (after_force Input v ch) ch) ≡ cond b (v || given ch) (full ch)
  unfolding flag_of
  forced_full true v = ap (flag_of Input) (force_leaves Input v ch) ∙ forced_flag Input v ch.fill
  forced_full false v = refl

  pub forced_vacant : (b v : Bool) → vacant (cond b (after_force Output v ch) ch) ≡ cond b v (vacant ch)
  unfolding flag_of
  forced_vacant true v = ap (flag_of Output) (force_leaves Output v ch) ∙ forced_flag Output v ch.fill
  forced_vacant false v = refl

  pub forced_given : (b v : Bool) → given (cond b (after_force Input v ch) ch) ≡ given ch
  forced_given true v = ap is_fetching (force_leaves Input v ch) ∙ go v ch.fill
    where
      go : (v : Bool) (f : Fill) → is_fetching (forced_to Input v f) ≡ is_fetching f
      go true Empty = refl
      go true Waiting = refl
      go true Fetching = refl
      go false Empty = refl
      go false Waiting = refl
      go false Fetching = refl
  forced_given false v = refl

  pub forced_latch : (s : Side) (b v : Bool) → (cond b (after_force s v ch) ch).latch ≡ ch.latch
  forced_latch s b v = either_way (λ (r : Channel). r.latch) ch.latch b (after_force s v ch) ch (force_keeps s v ch) refl

  pub handed_latch : (left : Fill) (b : Bool) → (cond b (after_hand_over ch left) ch).latch ≡ ch.latch
  handed_latch left b = either_way (λ (r : Channel). r.latch) ch.latch b (after_hand_over ch left) ch (hand_over_keeps ch left) refl

  pub ended_latch : (b : Bool) → (cond b (after_end_read ch) ch).latch ≡ ch.latch
  ended_latch b = either_way (λ (r : Channel). r.latch) ch.latch b (after_end_read ch) ch (end_read_keeps ch) refl

  -- Levels, to an input: two, on port C; on, strobed; fell and low, the line; own, on the port's lines.
  abbrev under : ℕ → ℕ → Bool → Bool → Channel
  under l d falls through = cond falls (after_offer ch l) (cond through (after_follow ch d) ch)

  pub under_latch : (l d : ℕ) (two on fell own low : Bool)
      → (under l d (two && (on && fell)) (own && (on && low))).latch ≡ cond on (cond (two && fell) l (cond (own && low) d ch.latch)) ch.latch
  under_latch l d two true fell own low = go (two && fell) (own && low)
    where
      go : (a b : Bool) → (under l d a b).latch ≡ cond a l (cond b d ch.latch)
      go true b = offer_latches ch l
      go false true = follow_latches ch d
      go false false = refl
  under_latch l d two false fell own low = rw (and-false two, and-false own)

  pub under_full : (l d : ℕ) (two on fell b : Bool) → full (under l d (two && (on && fell)) b) ≡ (full ch || (on && (two && fell)))
  under_full l d two true fell b = go (two && fell) b
    where
      go : (a b : Bool) → full (under l d a b) ≡ (full ch || a)
      go true b = rw (offer_waits ch l) (sym (or-true (full ch)))
      go false true = rw (follow_stays ch d) (sym (or-false (full ch)))
      go false false = sym (or-false (full ch))
  under_full l d two false fell b =
      rw (and-false two)
      (either_way full (full ch || false) b (after_follow ch d) ch (rw (follow_stays ch d) (sym (or-false (full ch)))) (sym (or-false (full ch))))

  pub under_given : (l d : ℕ) (two on fell b : Bool) → given (under l d (two && (on && fell)) b) ≡ (given ch && not (on && (two && fell)))
  under_given l d two true fell b = go (two && fell) b
    where
      go : (a b : Bool) → given (under l d a b) ≡ (given ch && not a)
      go true b = rw (offer_waits ch l) (sym (and-false (given ch)))
      go false true = rw (follow_stays ch d) (sym (and-true (given ch)))
      go false false = sym (and-true (given ch))
  under_given l d two false fell b =
      rw (and-false two)
      (either_way given (given ch && true) b (after_follow ch d) ch (rw (follow_stays ch d) (sym (and-true (given ch)))) (sym (and-true (given ch))))

  -- The fall of ACK, to an output.
  pub taken_vacant : (two on fell : Bool) → vacant (cond (two && (on && fell)) (after_hand_over ch Empty) ch) ≡ (vacant ch || (on && (two && fell)))
  taken_vacant two true fell = go (two && fell)
    where
      taken : (f : Fill) → not (is_waiting (leaves f Empty)) ≡ true
      taken Empty = refl
      taken Waiting = refl
      taken Fetching = refl

      go : (a : Bool) → vacant (cond a (after_hand_over ch Empty) ch) ≡ (vacant ch || a)
      go true = ap (λ (f : Fill). not (is_waiting f)) (hand_over_leaves ch Empty) ∙ taken ch.fill ∙ sym (or-true (vacant ch))
      go false = sym (or-false (vacant ch))
  taken_vacant two false fell = rw (and-false two) (sym (or-false (vacant ch)))
