-- Corners in lent memory: two numbers each, one after the other: LIMITS.md. Stated. Assumes nothing.
use Rattle.std.specs.Prelude.{List, ℕ, ◌+◌, ◌*◌, ◌≤◌, ℤ, pos, length, get_or}
use Rattle.laws.specs.Tab.{tab}
use Rattle.coordinate.specs.Coordinate.{InRange}
use Rattle.geometry.specs.declared.Point.{Point}

-- the numbers of corner i stand at 2 i and 2 i + 1
unfoldable pub corner_at : List ℤ → ℕ → Point
corner_at l i = record { x = get_or l (2 * i) (pos 0); y = get_or l (2 * i + 1) (pos 0) }

-- the first n corners
unfoldable pub corners_in : List ℤ → ℕ → List Point
corners_in l n = tab (corner_at l) 0 n

-- memory with n corners, at least one and at most 1,024, all of whose numbers are in range
pub record Held (l : List ℤ) (n : ℕ) : Type 0 where
  pub least : 1 ≤ n
  pub most : n ≤ 1024
  pub room : 2 * n ≤ length l
  pub near : (k : ℕ) → InRange (get_or l k (pos 0))

-- a point both of whose numbers are in range
pub record PointInRange (p : Point) : Type 0 where
  pub across : InRange p.x
  pub up : InRange p.y
