-- `write_key` meets its contract: what is left to write gives the whole. Assumes nothing.
use mathlib.Core.Path.{◌≡◌}
use Prim.Native.Nat.{◌+◌}
use lib.ListN.{drop}
use Rattle.table.specs.Cells.{written}
use Rattle.table.proofs.flat.write_key.Given as goal

abbrev pub invariant-loop-i : goal.invariant-loop-i
invariant-loop-i l = written l.bytes (l.a + l.i) (drop l.i l.key) ≡ written l.initial.bytes l.a l.key
