-- `walk::Walk::all` meets its contract: the walk goes on from turn to turn. Assumes nothing.
use Rattle.std.proofs.Common.{◌-◌, length}
use Rattle.boundary.specs.Steps.{Stands}
use Rattle.boundary.proofs.walk.Walk.all.Given as goal

abbrev pub invariant-loop-self : goal.invariant-loop-self
invariant-loop-self l = Stands l.source.table.now l.source.text.now l.self l.corners

abbrev pub decreases-loop-self : goal.decreases-loop-self
decreases-loop-self l = length l.source.text.now - l.self.at
