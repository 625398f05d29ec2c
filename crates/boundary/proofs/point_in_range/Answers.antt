-- `point_in_range` meets its contract. Assumes nothing.
use Rattle.std.proofs.Common.{rules}
use Rattle.boundary.proofs.CallLaws.{point-there, point-beside}
use Rattle.boundary.proofs.point_in_range.Goals as goal

pub returns-then-in_range : goal.returns-then-in_range
returns-then-in_range c = search (rules, point-there)

pub returns-else-in_range : goal.returns-else-in_range
returns-else-in_range c = search (rules, point-beside)
