-- `report` meets its contract: the feeds still to come give what all give. Assumes nothing.
use Rattle.report.proofs.ReportLaws.{going-full, going-last, going-line}
use borrow.Author.Rules.{rules}
use Rattle.report.proofs.report.Goals as goal

pub returns-then-is_last : goal.returns-then-is_last
returns-then-is_last c = search (rules, going-last)

pub loop-preserved : goal.loop-preserved
loop-preserved c = (search rules, search rules, search rules, search (rules, going-line))

pub returns : goal.returns
returns c = search (rules, going-full)
