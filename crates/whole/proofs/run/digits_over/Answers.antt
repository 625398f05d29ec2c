-- `run::digits_over` meets its contract, by the last byte that is no zero. Assumes nothing.
use Rattle.std.proofs.Common.{rules}
use Rattle.whole.proofs.RunLaws.{zeros-counted, other-counted}
use Rattle.whole.proofs.run.digits_over.Goals as goal

pub returns-in-None : goal.returns-in-None
returns-in-None c = search (rules, zeros-counted)

pub returns-in-Some : goal.returns-in-Some
returns-in-Some c = search (rules, other-counted)
