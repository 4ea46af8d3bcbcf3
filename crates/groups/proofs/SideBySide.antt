-- The scale and the printer side by side, computed from the events.
-- Rests on nothing.
use Rattle.std.proofs.Common.{◌≡◌, refl, true}
use Rattle.bits.specs.Bit.{bit_of}
use Rattle.control.specs.declared.Group.TheVariants.{A, B}
use Rattle.groups.specs.Alone.{out_of_the_way}
use Rattle.groups.specs.SideBySide.{start, both_at_work, SideBySide, ReadInTheWay, StatusRead}

pub computed : SideBySide × ReadInTheWay × StatusRead
unfolding bit_of
computed = (
  record {
    printers_own = refl;
    not_the_scales = refl;
    scale = refl;
    printer = refl;
    both_out_of_the_way = λ g. elim g as (λ g. out_of_the_way g start both_at_work ≡ true) [ A ↦ refl | B ↦ refl ];
    digits = refl;
    digits_alone = refl;
    prints = refl;
    prints_alone = refl;
  },
  record { with_it = refl; without_it = refl; not_out_of_the_way = refl; others_out_of_the_way = refl },
  record { stays = refl; waits = refl },
)
