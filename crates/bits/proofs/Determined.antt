-- A contract determines what comes of a call: two outcomes that it allows are equal. It is said of what Rattle makes of a function, its
-- signature `ended` and `Reads.Learnt`, what its clauses tell a caller, and of no copy of these: a weaker clause breaks it. Rests on nothing.
use Rattle.std.proofs.Common.{◌≡◌, ◌∙◌, ap, ap₂, sym}
use contract.Lifetimes.{Lfts}
use denote.Triple.Entry.{Args, Res}
use denote.Triple.Clauses.{Ended, Lasts, AtExit, at_exit}

-- A function's signature says what its calls are and what can come of them.
module _ (function : Ended) where
  abbrev Lifetimes : Type 0
  Lifetimes = Lfts function.signature.lifetimes

  -- A call: its lifetimes and its arguments.
  abbrev pub Call : Type 0
  Call = (κs : Lifetimes) × Args function.signature κs

  -- What comes of it: the result, and the last value of each parameter that was lent to be written.
  abbrev pub Outcome : Call → Type 0
  Outcome c = Res function.signature c.0 × Lasts function c.0 c.1

  module _ (learnt : (κs : Lifetimes) → Args function.signature κs → Res function.signature κs → AtExit function κs → Type 0) where
    -- Whether the contract allows an outcome. It speaks of the parameters as they are at exit.
    abbrev pub Allows : (c : Call) → Outcome c → Type 0
    Allows c x = learnt c.0 c.1 x.0 (at_exit function c.0 c.1 x.1)

    -- Whatever two outcomes of a call the contract allows, they are one.
    abbrev pub Determines : Type 0
    Determines = (c : Call) (x y : Outcome c) → Allows c x → Allows c y → x ≡ y

    -- The same of the calls of which this holds.
    abbrev pub DeterminesWhere : (Call → Type 0) → Type 0
    DeterminesWhere Holds = (c : Call) → Holds c → (x y : Outcome c) → Allows c x → Allows c y → x ≡ y

-- So it is where a contract says what the result is, and nothing is lent to be written.
pub equation_determines : {R L : Type 0} {r s answer : R} {rest : L} → r ≡ answer → s ≡ answer → ◌≡◌ {A = R × L} (r, rest) (s, rest)
equation_determines {rest} p q = ap (λ r. (r, rest)) (p ∙ sym q)

-- And where it says what the result is, and what the first parameter holds at exit.
pub equations_determine : {R F L : Type 0} {r s answer : R} {f g left : F} {rest : L}
    → (r ≡ answer) × (f ≡ left) → (s ≡ answer) × (g ≡ left) → ◌≡◌ {A = R × (F × L)} (r, (f, rest)) (s, (g, rest))
equations_determine {rest} p q = ap₂ (λ r f. (r, (f, rest))) (p.0 ∙ sym q.0) (p.1 ∙ sym q.1)
