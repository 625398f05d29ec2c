-- `whole`: the value of the digits so far. Assumes nothing.
use Rattle.coordinate.proofs.ReadLaws.{Reading}
use Rattle.coordinate.proofs.whole.Given as goal

abbrev pub invariant-loop-b : goal.invariant-loop-b
invariant-loop-b l = Reading l.digits l.value l.b-index
