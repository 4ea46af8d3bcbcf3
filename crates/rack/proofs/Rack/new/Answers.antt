-- The bases stand before the zeros that are left of those of a rack of none.
use Rattle.std.proofs.Common.{ℕ, ◌∙◌, sym, le-leb, arith, length}
use Rattle.std.proofs.lemmas.List.{drop-replicate}
use Rattle.rack.specs.Bases.{most_cards, makes_rack}
use Rattle.rack.specs.State.{rack_of, built_of}
use Rattle.rack.proofs.Rack.new.Goals as goal

pub returns : goal.returns
unfolding rack_of built_of makes_rack
returns c =
    let bs = c.args.bases.now in
    rw (
      c.default.ensures,
      c.copy_from_slice.ensures.after,
      drop-replicate {X = ℕ} (length bs) most_cards 0,
      le-leb (length bs) most_cards (omega arith),
      sym c.are_bases.ensures ∙ c.if-not-are_bases.false,
    )
