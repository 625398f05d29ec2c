-- `judge_fields` meets its contract. Assumes nothing.
use Rattle.line.proofs.LineLaws.{says-malformed, says-or}
use borrow.Author.Rules.{rules}
use Rattle.line.proofs.judge_fields.Goals as goal

pub returns-then-not-is_formed : goal.returns-then-not-is_formed
returns-then-not-is_formed c = search (rules, says-malformed)

pub returns : goal.returns
returns c = search (rules, says-or)
