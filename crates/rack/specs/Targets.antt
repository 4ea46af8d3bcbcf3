-- The card that an event is for: by its address, or by its place ("A rack of cards").
use Rattle.std.specs.Prelude.{Bool, cond, ◌&&◌, List, [], ◌∷◌, ℕ, suc, ◌+◌, ◌-◌, ◌%◌, eqb, ltb, leb, take, Option, Some, None}
use Rattle.bus.specs.Kinds as kinds
use Rattle.rack.specs.Bases.{most_cards, card_width}

-- The place of a card, and a register or port there.
abbrev pub Target : Type 0
Target = ℕ × ℕ

-- A card with that base answers at the eight addresses from it on.
unfoldable pub answers_at : ℕ → ℕ → Bool
answers_at base address = leb base address && ltb address (base + card_width)

-- A card has four registers, and they are seen twice: the register is the place within the card modulo 4.
abbrev pub register_at : ℕ → ℕ → ℕ
register_at base address = (address - base) % 4

-- Of cards with these bases, at the places from i on, the first that answers at the address, and the register there.
unfoldable pub target_from : ℕ → List ℕ → ℕ → Option Target
target_from i [] address = None
target_from i (base ∷ later) address = cond (answers_at base address) (Some (i, register_at base address)) (target_from (suc i) later address)

-- The bases of the cards that there are, which are at most eight.
abbrev pub bases_in : ℕ → List ℕ → List ℕ
bases_in count bases = take most_cards (take count bases)

-- There is a card at the place.
unfoldable pub is_place : ℕ → ℕ → Bool
is_place count place = ltb place count && ltb place most_cards

-- The card at a place, and a port there.
unfoldable pub target_at : ℕ → ℕ → ℕ → Option Target
target_at count place port = cond (is_place count place) (Some (place, port)) None

-- The card and the register that an event of kind k is for: a cycle names an address, levels a place and a port there. A reset is for
-- every card, an end for the one on which the cycle runs: they name none, and what stands here for them is not asked.
unfoldable pub target_of : ℕ → List ℕ → ℕ → ℕ → ℕ → Option Target
target_of count bases k x y =
    cond (kinds.begins k) (target_from 0 (bases_in count bases) x)
    (cond (eqb k kinds.outside_levels) (target_at count x y)
    (Some (0, 0)))
