-- `walk::Walk::feed_piece` meets its contract. Assumes nothing.
use Rattle.std.proofs.Common.{rules}
use Rattle.boundary.proofs.StepLaws.{walked_on, walked-told}
use Rattle.boundary.proofs.walk.Walk.feed_piece.Goals as goal

pub returns-then-takes : goal.returns-then-takes
returns-then-takes c = search (rules, walked-told)

pub returns-else-takes : goal.returns-else-takes
returns-else-takes c = search (rules, walked_on)
