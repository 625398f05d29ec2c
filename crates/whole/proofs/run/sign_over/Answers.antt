-- `run::sign_over` meets its contract: the last sign counts. Assumes nothing.
use Rattle.std.proofs.Common.{rules}
use Rattle.whole.proofs.RunLaws.{sign-counted}
use Rattle.whole.proofs.run.sign_over.Goals as goal

pub returns-in-Some : goal.returns-in-Some
returns-in-Some c = search (rules, sign-counted)
