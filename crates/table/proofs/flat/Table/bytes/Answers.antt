-- `Table::bytes` meets its contract. Assumes nothing.
use mathlib.Core.Path.{sym}
use Rattle.table.specs.Inverse.{bytes_of-inside}
use Rattle.table.proofs.flat.Table.bytes.Goals as goal

pub returns : goal.returns
returns c = rw (← c.self.view_is) (sym (bytes_of-inside _ c.self.invariant))
