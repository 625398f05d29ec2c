-- `Stretch::number_to` meets its contract. The loop's invariant: the bytes before its place were passed over. Assumes nothing.
use Rattle.std.proofs.Common.{◌-◌}
use Rattle.json_text.specs.declared.lexer.Mode.TheVariants as M
use Rattle.pass.specs.Pass.{Stands}
use Rattle.pass.proofs.Stretch.number_to.Given as goal

abbrev pub invariant-loop-b : goal.invariant-loop-b
invariant-loop-b l = Stands l.self.known l.top l.self.piece.now l.self.from l.self.end (M.Number l.n) l.g l.since l.i

abbrev pub decreases-loop-b : goal.decreases-loop-b
decreases-loop-b l = l.self.end - l.i
