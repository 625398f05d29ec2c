-- `Table::key_text` meets its contract: the bytes are those of the definition, up to the end of all keys. Assumes nothing.
use borrow.Author.Rules.{rules}
use Rattle.table.proofs.KeyLaws.{key-past-keys, key-in-place}
use Rattle.table.proofs.flat.Table.key_text.Goals as goal

pub returns-then-k-ge128 : goal.returns-then-k-ge128
returns-then-k-ge128 c = key-past-keys _ _ _ c.self.view_is c.if-k-ge128.true

pub returns : goal.returns
returns c = key-in-place _ _ _ _ _ c.self.view_is c.if-k-ge128.false c.len.ensures (search rules)
