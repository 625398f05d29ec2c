-- `finish` meets its contract: without room nothing, else a close and its line. Assumes nothing.
use Rattle.report.proofs.EndLaws.{finish-none, finish-closed}
use borrow.Author.Rules.{rules}
use Rattle.report.proofs.finish.Goals as goal

pub returns-then-out-lt64 : goal.returns-then-out-lt64
returns-then-out-lt64 c = search (rules, finish-none)

pub returns : goal.returns
returns c = search (rules, finish-closed)
