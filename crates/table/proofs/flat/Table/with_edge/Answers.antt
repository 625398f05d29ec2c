-- `Table::with_edge` meets its contract. Assumes nothing.
use Rattle.table.proofs.PlaceLaws.{edge-in-place}
use Rattle.table.proofs.flat.Table.with_edge.Goals as goal

pub returns : goal.returns
returns c = rw (← c.number.ensures) (edge-in-place _ _ _ _ _ _ c.self.view_is c.self.invariant.size c.edges-at.ensures c.requires.0 c.requires.1)
