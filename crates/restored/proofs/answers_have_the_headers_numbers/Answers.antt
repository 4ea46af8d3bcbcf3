-- What the calls answer of bytes that tell a chip, in the header's numbers.
-- Rests on Header, Having, Holds and Table, and on calls' HostStep.
use Rattle.std.proofs.Common.{◌≡◌, refl, ap, sym, List, ℕ, zero, suc, ◌*◌, ◌≤◌, arith, get_or, le-ltb}
use Rattle.chip.specs.declared.channel.Tally.{Tally}
use Rattle.chip.specs.declared.Chip.{Chip}
use Rattle.chip.specs.State.{tally_of}
use Rattle.calls.specs.Calls.{last_port, last_channel, last_tally, group_numbered, side_numbered, counter_numbered, tally_answer}
use Rattle.calls.proofs.HostStep.{host_answer}
use Rattle.restored.specs.Header.{by_channel, by_tally, entry, ByHeader}
use Rattle.restored.specs.Host.{Holds}
use Rattle.restored.proofs.Header.{channel_numbered}
use Rattle.restored.proofs.Having.{has_by}
use Rattle.restored.proofs.Holds.{pins_held, explain_held, tally_held}
use Rattle.restored.proofs.Table.{told_is, image_where}
use Rattle.restored.proofs.answers_have_the_headers_numbers.Goals as goal

-- The numbers by which the calls know tallies are those of the header's list, too.
tally_numbered : (t : Tally) (n : ℕ) → n ≤ last_tally → counter_numbered t n ≡ get_or (by_tally t) n 0
unfolding counter_numbered
tally_numbered t zero few = refl
tally_numbered t (suc zero) few = refl
tally_numbered t (suc (suc zero)) few = refl
tally_numbered t (suc (suc (suc zero))) few = refl
tally_numbered t (suc (suc (suc (suc zero)))) few = refl
tally_numbered t (suc (suc (suc (suc (suc zero))))) few = refl
tally_numbered t (suc (suc (suc (suc (suc (suc zero)))))) few = refl
tally_numbered t (suc (suc (suc (suc (suc (suc (suc n))))))) few = absurd (omega (arith, few))

tallies : (l : List ℕ) (c : Chip) → Holds l c → (k n : ℕ) → k ≤ last_channel → n ≤ last_tally
    → tally_answer l k n ≡ 256 * entry (by_channel (λ g s. by_tally (tally_of c g s))) k n
tallies l c h k n channel number =
    rw (tally_held l c h k n, le-ltb last_channel k channel, le-ltb last_tally n number, tally_numbered (tally_of c (group_numbered k) (side_numbered k)) n number)
    (ap (λ (here : List ℕ). 256 * get_or here n 0) (sym (channel_numbered (λ g s. by_tally (tally_of c g s)) k channel)))

by_header : (l : List ℕ) (c : Chip) → Holds l c → ByHeader l c
by_header l c h = record {
  step = λ k x d. rw (← h.state) (host_answer l k x d h.image);
  pins = λ p few. rw (pins_held l c h p, le-ltb last_port p few);
  tally = tallies l c h;
  explain = explain_held l c h;
}

pub returns : goal.returns
returns c = λ l c bytes has t.
    by_header l c
    (record { image = (image_where l bytes).1 (c, has, t); state = told_is l c bytes has t; has = has_by c has })
