-- Over every history, from every state and from power-up, all that can be seen of the 8355 is what the account says.
-- Rests on Account, Agrees and Ports.
use Rattle.std.proofs.Common.{◌≡◌, sym, List, [], ◌∷◌, ℕ, zero, suc, lit<}
use Rattle.bus.specs.Event.{Event}
use Rattle.i8355.specs.declared.Chip8355.{Chip8355}
use Rattle.i8355.specs.State.{power_up}
use Rattle.i8355.specs.Views.{pins_of}
use Rattle.laws8355.specs.Account.{Account, account_next, opened, mask_shown}
use Rattle.laws8355.specs.Promise.{run, over, account_of, Accounted}
use Rattle.laws8355.proofs.Ports.{above}
use Rattle.laws8355.proofs.Agrees.{Agrees, agrees_of, agrees_opened, agrees_next}
use Rattle.laws8355.proofs.Account.{levels_shown_lem, number_told_lem, byte_told_lem}

mask_shown_lem : (c : Chip8355) (a : Account) → Agrees c a → (p : ℕ) → (pins_of c p).driven ≡ mask_shown a p
unfolding pins_of
mask_shown_lem c a k zero = sym k.holds.1.0.0
mask_shown_lem c a k (suc zero) = sym k.holds.1.0.1
mask_shown_lem c a k (suc (suc p)) = rw (above p 0 (lit< tt), above p 1 (lit< tt))

-- Over a history. The 8255A has an induction of its own: `run` and `over` are other functions there, and no fold that both share.
agrees_over : (es : List Event) (c : Chip8355) (a : Account) → Agrees c a → Agrees (run c es) (over a es)
agrees_over [] c a k = k
agrees_over (e ∷ es) c a k = agrees_over es _ (account_next a e) (agrees_next c a e k)

accounted : (c : Chip8355) (a : Account) (es : List Event) → Agrees c a → Accounted c a es
accounted c a es start =
    let k = agrees_over es c a start in
    record {
      number = number_told_lem (run c es) (over a es) k;
      byte = byte_told_lem (run c es) (over a es) k;
      levels = levels_shown_lem (run c es) (over a es) k;
      driven = mask_shown_lem (run c es) (over a es) k;
    }

-- From any state, reached by a history or not.
pub account_from : (c : Chip8355) (es : List Event) → Accounted c (account_of c) es
account_from c es = accounted c (account_of c) es (agrees_of c)

-- From power-up.
pub account : (es : List Event) → Accounted power_up opened es
account es = accounted power_up opened es agrees_opened
