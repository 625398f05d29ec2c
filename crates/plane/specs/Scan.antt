-- What is known after each corner, where the corners are gone through once, from number 0 up. Derived: `scanned-begun` in proofs/ joins
-- `scanned` to `located` of crate geometry. Assumes nothing.
use Rattle.std.specs.Prelude.{false, not, cond, ◌||◌, Bool, List, [], ◌∷◌, ◌≡◌, ℕ, suc, ◌-◌, ◌≤◌, ℤ, pos}
use Rattle.std.specs.Bool.{beq}
use Rattle.std.specs.Int.Signed.{lt_z}
use Rattle.geometry.specs.declared.Point.{Point}
use Rattle.geometry.specs.declared.Located.{Located}
use Rattle.geometry.specs.declared.Place.TheVariants as Is
use Rattle.geometry.specs.Plane.{distance}
use Rattle.geometry.specs.Tests.{on_segment, crosses, located}
use Rattle.laws.specs.Tab.{tab}
use Rattle.plane.specs.Corners.{corner_at, corners_in, PointInRange}
use Rattle.plane.specs.declared.Scan.{Scan}

-- before the first corner: a is the last one, which stands before it, and no corner in range is so far
unfoldable pub begun : Point → Scan
begun a = record { before = a; edge = false; odd = false; nearest = 0; distance = pos 8000000000001 }

-- exactly one of two tests holds
unfoldable pub differ : Bool → Bool → Bool
differ a b = not (beq a b)

-- after corner i, which is c
unfoldable pub stepped : Point → ℕ → Point → Scan → Scan
stepped p i c s =
    record {
      before = c;
      edge = s.edge || on_segment s.before c p;
      odd = differ s.odd (crosses s.before c p);
      nearest = cond (lt_z (distance c p) s.distance) i s.nearest;
      distance = cond (lt_z (distance c p) s.distance) (distance c p) s.distance;
    }

-- after the last corner
unfoldable pub answer : Scan → Located
answer s = record { place = cond s.edge Is.Edge (cond s.odd Is.Inside Is.Outside); nearest = s.nearest }

-- after the corners that are left, from number i on
unfoldable pub scanned : Point → ℕ → Scan → List Point → Located
scanned p i s [] = answer s
scanned p i s (c ∷ cs) = scanned p (suc i) (stepped p i c s) cs

-- s is known after the first i of the n corners in l, and the corners that are left give where p lies
pub record Scanned (l : List ℤ) (n : ℕ) (p : Point) (i : ℕ) (s : Scan) : Type 0 where
  pub most : i ≤ n
  pub range : PointInRange s.before
  pub rest : scanned p i s (tab (corner_at l) i (n - i)) ≡ located (corners_in l n) p
