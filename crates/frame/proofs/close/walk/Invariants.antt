-- `close::walk` meets its contract. The loop has walked the keys of the bytes below i. Assumes nothing.
use Rattle.std.proofs.Common.{◌≡◌, ◌*◌}
use Rattle.frame.specs.Edges.{edges_in}
use Rattle.frame.specs.Ops.{walked, start_states}
use Rattle.frame.proofs.close.walk.Given as goal

abbrev pub invariant-loop-i : goal.invariant-loop-i
invariant-loop-i l = l.states ≡ walked (edges_in l.table) l.frame 0 (start_states l.table.forms 1) (8 * l.i)
