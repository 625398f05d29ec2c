-- `close::walk_byte` meets its contract. The loop has walked the keys of the byte below j. Assumes nothing.
use Rattle.std.proofs.Common.{◌≡◌, ◌*◌}
use Rattle.frame.specs.Edges.{edges_in}
use Rattle.frame.specs.Ops.{walked}
use Rattle.frame.proofs.close.walk_byte.Given as goal

abbrev pub invariant-loop-j : goal.invariant-loop-j
invariant-loop-j l = l.states ≡ walked (edges_in l.table) l.frame (8 * l.i) l.initial.states l.j
