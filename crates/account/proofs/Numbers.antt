-- The number of an event is the account's, place by place.
-- Rests on the bus's ByKind, and fates' Accepted.
use Rattle.std.proofs.Common.{◌≡◌, refl, cond, ℕ, zero, suc, arith, le-ltb}
use Rattle.bus.specs.Kinds.{is_kind}
use Rattle.bus.proofs.ByKind.{by_kind}
use Rattle.bus.specs.Event.{event}
use Rattle.bus.specs.Refusals.{is_busy, number_of}
use Rattle.bus.specs.declared.Phase.{Phase}
use Rattle.bus.specs.declared.Phase.TheVariants.{Idle, Reading, Writing}
use Rattle.chip.specs.declared.Edition.{Edition}
use Rattle.chip.specs.declared.Edition.TheVariants.{Older, Newer}
use Rattle.chip.specs.Step.{limits}
use Rattle.fates.specs.Kinds.{cycle_ended, read_begun, write_begun, new_levels, kind_of}
use Rattle.fates.proofs.Accepted.{no_name}
use Rattle.account.specs.Acts.{begun, number_by}

-- A cycle that begins on the bus, free or not. The account has its own `begun`, as that of the 8355 has, so that each says this of its own.
on_bus_lem : (ph : Phase) → ◌≡◌ {A = ℕ} (cond (is_busy ph) 4 0) (begun ph)
on_bus_lem Idle = refl
on_bus_lem (Reading x) = refl
on_bus_lem (Writing x d) = refl

read_number : (ed : Edition) (ph : Phase) (x : ℕ) → number_of (limits ed) ph 1 x ≡ number_by ed ph (read_begun x)
unfolding number_of is_kind
read_number Older ph zero = on_bus_lem ph
read_number Newer ph zero = on_bus_lem ph
read_number Older ph (suc zero) = on_bus_lem ph
read_number Newer ph (suc zero) = on_bus_lem ph
read_number Older ph (suc (suc zero)) = on_bus_lem ph
read_number Newer ph (suc (suc zero)) = on_bus_lem ph
read_number Older ph (suc (suc (suc zero))) = refl
read_number Newer ph (suc (suc (suc zero))) = on_bus_lem ph
read_number ed ph (suc (suc (suc (suc x)))) = rw (le-ltb (suc (suc (suc (suc x)))) 4 (omega arith))

write_number : (ed : Edition) (ph : Phase) (x d : ℕ) → number_of (limits ed) ph 3 x ≡ number_by ed ph (write_begun x d)
unfolding number_of is_kind
write_number ed ph zero d = on_bus_lem ph
write_number ed ph (suc zero) d = on_bus_lem ph
write_number ed ph (suc (suc zero)) d = on_bus_lem ph
write_number ed ph (suc (suc (suc zero))) d = on_bus_lem ph
write_number ed ph (suc (suc (suc (suc x)))) d = rw (le-ltb (suc (suc (suc (suc x)))) 4 (omega arith))

levels_number : (ed : Edition) (ph : Phase) (x d : ℕ) → number_of (limits ed) ph 5 x ≡ number_by ed ph (new_levels x d)
unfolding number_of is_kind
levels_number ed ph zero d = refl
levels_number ed ph (suc zero) d = refl
levels_number ed ph (suc (suc zero)) d = refl
levels_number ed ph (suc (suc (suc x))) d = rw (le-ltb (suc (suc (suc x))) 3 (omega arith))

end_number : (ed : Edition) (ph : Phase) (x : ℕ) → number_of (limits ed) ph 2 x ≡ number_by ed ph cycle_ended
unfolding number_of is_kind
end_number ed Idle x = refl
end_number ed (Reading p) x = refl
end_number ed (Writing p d) x = refl

pub number_same : (ed : Edition) (ph : Phase) (k x d : ℕ) → number_of (limits ed) ph k x ≡ number_by ed ph (kind_of (event k x d))
unfolding number_of is_kind
number_same ed ph k x d =
    by_kind (λ k. number_of (limits ed) ph k x ≡ number_by ed ph (kind_of (event k x d)))
    refl
    (read_number ed ph x)
    (end_number ed ph x)
    (write_number ed ph x d)
    (levels_number ed ph x d)
    (λ k none. rw (no_name k x d none, none))
    k
