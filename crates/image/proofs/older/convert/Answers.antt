-- `older::convert` meets its contract: both slices are as long as their arrays.
use Rattle.std.proofs.Common.{length, eq-eqb}
use Rattle.image.specs.Places as now
use Rattle.image.specs.OlderPlaces as places
use Rattle.image.specs.OlderSlices.{converted_in}
use Rattle.image.proofs.older.convert.Goals as goal

pub returns-in-Some-as_mut_array : goal.returns-in-Some-as_mut_array
unfolding converted_in
returns-in-Some-as_mut_array c =
    let older = c.in-Some.ensures.cases in
    let image = c.in-Some-as_mut_array.ensures.cases in
    rw (
      c.whole.ensures,
      older.same,
      eq-eqb (length c.args.older.now) places.length older.long,
      eq-eqb (length c.args.image.now) now.length image.long,
    )
