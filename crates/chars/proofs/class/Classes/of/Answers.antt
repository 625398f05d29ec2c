-- `Classes::of` meets its contract: the table gives each byte its class. Assumes nothing.
use mathlib.Core.Path.{◌∙◌}
use Rattle.std.proofs.Common.{rules}
use Rattle.chars.proofs.TableLaws.{class_at-class_table}
use Rattle.chars.proofs.class.Classes.of.Goals as goal

pub returns : goal.returns
returns c = c.class_in.ensures ∙ rw c.args.self.now.told (class_at-class_table c.args.b (search rules))
