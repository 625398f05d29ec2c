-- `read::take_lines` meets its contract: the lines that are left, into the table so far, give what all give. Each line has at least its LF, so that
-- there are no more lines than bytes. Assumes nothing.
use mathlib.Core.Path.{◌≡◌}
use Prim.Native.Nat.{◌≤◌, ◌+◌}
use lib.ListN.{length}
use Rattle.table.specs.Flat.{empty_table}
use Rattle.book.specs.Text.{split}
use Rattle.load.specs.Step.{take_lines}
use Rattle.load.proofs.read.take_lines.Given as goal

abbrev pub invariant-loop-l : goal.invariant-loop-l
invariant-loop-l l = (l.n + length l.rest ≤ 65507) × (take_lines l.n l.table (split 10 l.rest) ≡ take_lines 2 empty_table (split 10 l.lines))

abbrev pub decreases-loop-l : goal.decreases-loop-l
decreases-loop-l l = length l.rest
