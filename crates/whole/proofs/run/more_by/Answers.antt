-- `run::more_by` meets its contract: one more, k times, is k more. Assumes nothing.
use Rattle.std.proofs.Common.{rules, arith}
use Rattle.std.proofs.lemmas.Grind.{common_steps}
use Rattle.whole.proofs.RunLaws.{more_by-min}
use Rattle.whole.proofs.run.more_by.Goals as goal

pub returns : goal.returns
returns c = grind (arith, common_steps, more_by-min c.args.n c.args.k (search rules))
