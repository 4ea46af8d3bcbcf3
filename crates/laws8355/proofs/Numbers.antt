-- The number of an event of the 8355 is that of its row in the account's table.
-- Rests on the bus's ByKind.
use Rattle.std.proofs.Common.{◌≡◌, refl, true, cond, ℕ, zero, suc, arith, le-ltb}
use Rattle.bus.specs.Kinds.{is_kind, no_kind}
use Rattle.bus.specs.Event.{event}
use Rattle.bus.proofs.ByKind.{by_kind, no_row}
use Rattle.bus.specs.declared.Phase.{Phase}
use Rattle.bus.specs.declared.Phase.TheVariants.{Idle, Reading, Writing}
use Rattle.bus.specs.Refusals.{is_busy, number_of}
use Rattle.i8355.specs.Step.{limits}
use Rattle.laws8355.specs.Table.{begun, unknown, row_of}

-- A cycle that begins, on an idle bus or not. The table has its own `begun`, as the account of the 8255A has, so that each says this of its own.
on_bus_lem : (ph : Phase) → ◌≡◌ {A = ℕ} (cond (is_busy ph) 4 0) (begun ph)
on_bus_lem Idle = refl
on_bus_lem (Reading x) = refl
on_bus_lem (Writing x d) = refl

-- The number of an event is that of its row.
abbrev Numbered : Phase → ℕ → ℕ → ℕ → Type 0
Numbered ph k x d = number_of limits ph k x ≡ (row_of ph (event k x d)).number

read_number : (ph : Phase) (x d : ℕ) → Numbered ph 1 x d
unfolding number_of is_kind
read_number ph zero d = on_bus_lem ph
read_number ph (suc zero) d = on_bus_lem ph
read_number ph (suc (suc zero)) d = refl
read_number ph (suc (suc (suc zero))) d = refl
read_number ph (suc (suc (suc (suc x)))) d = rw (le-ltb (suc (suc (suc (suc x)))) 4 (omega arith))

write_number : (ph : Phase) (x d : ℕ) → Numbered ph 3 x d
unfolding number_of is_kind
write_number ph zero d = on_bus_lem ph
write_number ph (suc zero) d = on_bus_lem ph
write_number ph (suc (suc zero)) d = on_bus_lem ph
write_number ph (suc (suc (suc zero))) d = on_bus_lem ph
write_number ph (suc (suc (suc (suc x)))) d = rw (le-ltb (suc (suc (suc (suc x)))) 4 (omega arith))

levels_number : (ph : Phase) (x d : ℕ) → Numbered ph 5 x d
unfolding number_of is_kind
levels_number ph zero d = refl
levels_number ph (suc zero) d = refl
levels_number ph (suc (suc x)) d = rw (le-ltb (suc (suc x)) 2 (omega arith))

end_number : (ph : Phase) (x d : ℕ) → Numbered ph 2 x d
unfolding number_of is_kind
end_number Idle x d = refl
end_number (Reading p) x d = refl
end_number (Writing p b) x d = refl

-- What is no kind has the row of what is none.
unknown_row : (ph : Phase) (k x d : ℕ) → no_kind k ≡ true → row_of ph (event k x d) ≡ unknown ph
unknown_row ph k x d none = no_row _ _ _ _ _ _ k none

pub number_same : (ph : Phase) (k x d : ℕ) → Numbered ph k x d
unfolding number_of is_kind
number_same ph k x d =
    by_kind (λ k. Numbered ph k x d)
    refl
    (read_number ph x d)
    (end_number ph x d)
    (write_number ph x d)
    (levels_number ph x d)
    (λ k none. rw (unknown_row ph k x d none, none))
    k
