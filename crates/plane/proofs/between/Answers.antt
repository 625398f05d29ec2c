-- `plane::between` meets its contract: the tests are those of the definition. Assumes nothing.
use borrow.Author.Rules.{rules}
use Rattle.geometry.specs.Tests.{between}
use Rattle.plane.proofs.between.Goals as goal

pub returns : goal.returns
unfolding between
returns c = search rules
