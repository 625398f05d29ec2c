-- `Table::number` meets its contract. Assumes nothing.
use mathlib.Core.Path.{◌∙◌}
use Rattle.table.proofs.KeyLaws.{found-known}
use Rattle.table.proofs.flat.Table.number.Goals as goal

pub returns : goal.returns
returns c = c.unwrap_or.ensures ∙ found-known _ _ _ _ c.known.ensures
