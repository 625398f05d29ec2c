-- `Table::no_forms` meets its contract. Assumes nothing.
use Rattle.table.proofs.PlaceLaws.{no_forms}
use Rattle.table.proofs.flat.Table.no_forms.Goals as goal

pub returns : goal.returns
returns c = no_forms _ _ _ _ c.self.view_is c.requires c.quiet.ensures
