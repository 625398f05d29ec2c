-- `string_move` meets its contract: the lent table gives each byte its class. Assumes nothing.
use mathlib.Core.Path.{◌∙◌}
use Rattle.std.proofs.Common.{rules}
use Rattle.chars.proofs.GivenLaws.{move_by-class_table}
use Rattle.chars.proofs.string.string_move.Goals as goal

pub returns : goal.returns
returns c = c.string_move_in.ensures ∙ rw c.table.ensures (move_by-class_table c.args.s c.args.b (search rules))
