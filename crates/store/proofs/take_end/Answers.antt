-- `take_end` meets its contract. Assumes nothing.
use Rattle.store.proofs.StoreLaws.{take_end-again, take_end-new}
use borrow.Author.Rules.{rules}
use Rattle.store.proofs.take_end.Goals as goal

pub returns-then-is_end : goal.returns-then-is_end
returns-then-is_end c = search (rules, take_end-again)

pub returns : goal.returns
returns c = search (rules, take_end-new)
