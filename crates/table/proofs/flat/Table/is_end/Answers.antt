-- `Table::is_end` meets its contract. Assumes nothing.
use mathlib.Core.Path.{ap, ◌∙◌}
use Rattle.laws.specs.Bits.{bit_at}
use Rattle.table.specs.Table.{Table}
use Rattle.table.specs.Flat.{part, table_in}
use Rattle.table.proofs.flat.Table.is_end.Goals as goal

pub returns : goal.returns
unfolding part table_in
returns c = c.get_bit.ensures ∙ ap (λ (t : Table). bit_at t.ends c.args.i) c.self.view_is
