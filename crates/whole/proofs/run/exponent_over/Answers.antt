-- `run::exponent_over` meets its contract: it folds as the bytes are counted. Assumes nothing.
use Rattle.std.proofs.Common.{rules}
use Rattle.whole.proofs.RunLaws.{exponent-counted}
use Rattle.whole.proofs.run.exponent_over.Goals as goal

pub returns : goal.returns
returns c = search (rules, exponent-counted)
