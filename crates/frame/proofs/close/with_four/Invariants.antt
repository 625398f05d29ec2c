-- `close::with_four` meets its contract. The loop has the set of the rules below r. Assumes nothing.
use Rattle.std.proofs.Common.{◌≡◌}
use Rattle.table.specs.Kind.{form_number}
use Rattle.frame.specs.Ops.{rule_set}
use Rattle.frame.specs.InTable.{accepting_in}
use Rattle.frame.proofs.close.with_four.Given as goal

abbrev pub invariant-loop-r : goal.invariant-loop-r
invariant-loop-r l = l.all ≡ rule_set (accepting_in l.table (form_number l.form) l.states) l.r
