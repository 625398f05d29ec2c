-- `Table::with_end` meets its contract. Assumes nothing.
use Rattle.table.proofs.PlaceLaws.{end-in-place}
use Rattle.table.proofs.flat.Table.with_end.Goals as goal

pub returns : goal.returns
returns c = rw (← c.number.ensures) (end-in-place _ _ _ _ _ _ c.self.view_is c.requires.0 c.requires.1 c.set_if.ensures)
