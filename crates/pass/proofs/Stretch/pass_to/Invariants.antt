-- `Stretch::pass_to` meets its contract. The loop's invariant: the bytes before its place were passed over. Assumes nothing.
use Rattle.std.proofs.Common.{◌-◌}
use Rattle.pass.specs.Pass.{Stands}
use Rattle.pass.proofs.Stretch.pass_to.Given as goal

abbrev pub invariant-loop-m : goal.invariant-loop-m
invariant-loop-m l = Stands l.self.known l.top l.self.piece.now l.self.from l.self.end l.m l.g l.since l.i

abbrev pub decreases-loop-m : goal.decreases-loop-m
decreases-loop-m l = l.self.end - l.i
