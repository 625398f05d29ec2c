-- `step` meets its contract: the lent table gives each byte its class. Assumes nothing.
use mathlib.Core.Path.{◌∙◌}
use Rattle.std.proofs.Common.{rules}
use Rattle.lexer.proofs.GivenLaws.{step_by-class_table}
use Rattle.lexer.proofs.step.step.Goals as goal

pub returns : goal.returns
returns c = c.step_in.ensures ∙ rw c.table.ensures (step_by-class_table c.args.m c.args.top c.args.b (search rules))
