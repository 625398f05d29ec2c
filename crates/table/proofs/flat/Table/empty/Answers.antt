-- `Table::empty` meets its contract. Assumes nothing.
use Rattle.table.proofs.PlaceLaws.{zeros-inside, empty-in-place}
use mathlib.Core.Path.{refl}
use Rattle.table.proofs.flat.Table.empty.Goals as goal

pub invariant_of-result : goal.invariant_of-result
invariant_of-result c = zeros-inside _ refl

pub returns : goal.returns
returns c = empty-in-place _ refl
