-- The limits of a table's numbers, which refusal 23 tests: docs/LIMITS.md. Only its two counts have one; every value of its other bytes
-- has a meaning. Stated. Assumes nothing.
use Rattle.std.specs.Prelude.{Bool, ◌&&◌, ◌≤◌, leb}
use Rattle.table.specs.Table.{Table}

-- the counts of edges and keys are within their limits
pub record WithinLimits (t : Table) : Type 0 where
  pub edges : t.edges ≤ 512
  pub keys : t.keys ≤ 128

-- the test whether the counts of edges and keys are within their limits: refusal 23 lets a table pass that passes the test
unfoldable pub within_limits : Table → Bool
within_limits t = leb t.edges 512 && leb t.keys 128
