-- `plane::corner` meets its contract: the two numbers that it reads are those of the corner. Assumes nothing.
use borrow.Author.Rules.{rules}
use Rattle.plane.specs.Corners.{corner_at}
use Rattle.plane.proofs.Corners.corner.Goals as goal

pub returns : goal.returns
unfolding corner_at
returns c = search rules
