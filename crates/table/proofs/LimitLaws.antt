-- The test of a table's limits, and the bounds that it gives. Assumes nothing.
use mathlib.Core.Bool.{true}
use mathlib.Core.Path.{◌≡◌}
use lib.Dec.{T, leb}
use borrow.Author.Tests.{le-leb, leb-true}
use Rattle.laws.proofs.TestLaws.{true-of-T, T-and-left, T-and-right}
use Rattle.table.specs.Table.{Table}
use Rattle.table.specs.Limits.{WithinLimits, within_limits}

-- a table that passes the test has its counts within their limits
pub within_limits-sound : (t : Table) → T (within_limits t) → WithinLimits t
unfolding within_limits
within_limits-sound t h =
    let a = leb t.edges 512 in
    let b = leb t.keys 128 in
    record {
      edges = leb-true t.edges 512 (true-of-T a (T-and-left a b h));
      keys = leb-true t.keys 128 (true-of-T b (T-and-right a b h));
    }

-- a table that has its counts within their limits passes the test
pub within_limits-complete : (t : Table) → WithinLimits t → within_limits t ≡ true
unfolding within_limits
within_limits-complete t w = rw (le-leb t.edges 512 w.edges, le-leb t.keys 128 w.keys)
