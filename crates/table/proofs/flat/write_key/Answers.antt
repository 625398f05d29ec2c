-- `write_key` meets its contract: what is left to write gives the whole. Assumes nothing.
use Rattle.table.proofs.PlaceLaws.{written-more, written-end, written-start}
use borrow.Author.Rules.{rules}
use Rattle.table.proofs.flat.write_key.Goals as goal

pub loop-i-init : goal.loop-i-init
loop-i-init c = written-start _ _ _

pub loop-i-preserved : goal.loop-i-preserved
loop-i-preserved c = search (rules, written-more)

pub returns : goal.returns
returns c = search (rules, written-end)
