-- `run::over` meets its contract: each arm is a way to count. Assumes nothing.
use Rattle.std.proofs.Common.{rules}
use Rattle.whole.proofs.RunLaws.{uncounted}
use Rattle.whole.proofs.run.over.Goals as goal

pub returns-in-Minus : goal.returns-in-Minus
returns-in-Minus c = search (rules, uncounted)
