-- `Table::line` meets its contract. Assumes nothing.
use Rattle.table.proofs.PlaceLaws.{line-in-place}
use borrow.Author.Rules.{rules}
use Rattle.table.proofs.flat.Table.line.Goals as goal

pub returns : goal.returns
returns c = search (rules, line-in-place)
