-- `walk::takes` meets its contract. Assumes nothing.
use Rattle.boundary.specs.Walk.{takes}
use Rattle.boundary.proofs.walk.takes.Goals as goal

pub returns : goal.returns
unfolding takes
returns c = rw c.in_number.ensures
