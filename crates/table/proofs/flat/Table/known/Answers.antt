-- `Table::known` meets its contract. Assumes nothing.
use Rattle.table.proofs.KeyLaws.{known-long, known-short}
use borrow.Author.Rules.{rules}
use Rattle.table.proofs.flat.Table.known.Goals as goal

pub returns-then-n-gt32 : goal.returns-then-n-gt32
returns-then-n-gt32 c = search (rules, known-long)

pub returns : goal.returns
returns c = known-short _ _ _ _ c.if-n-gt32.false (search rules)
