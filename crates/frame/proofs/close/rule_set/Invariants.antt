-- `close::rule_set` meets its contract. The loop has the set of the rules below 4 i. Assumes nothing.
use Rattle.std.proofs.Common.{◌≡◌, ◌*◌}
use Rattle.table.specs.Kind.{form_number}
use Rattle.frame.specs.Ops.{rule_set}
use Rattle.frame.specs.InTable.{accepting_in}
use Rattle.frame.proofs.close.rule_set.Given as goal

abbrev pub invariant-loop-i : goal.invariant-loop-i
invariant-loop-i l = l.set ≡ rule_set (accepting_in l.table (form_number l.form) l.states) (4 * l.i)
