-- `Table::with_key` meets its contract. Assumes nothing.
use Rattle.table.proofs.PlaceLaws.{key-in-place}
use Rattle.table.proofs.flat.Table.with_key.Goals as goal

pub returns : goal.returns
returns c = key-in-place _ _ _ _ _ c.self.view_is c.self.invariant.size c.keys-at.ensures c.requires.0 c.requires.1 c.write_key.ensures
