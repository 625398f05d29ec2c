-- How large the products and the squared distances of points in range get. Assumes nothing.
use mathlib.Core.Path.{◌≡◌, ap, ◌∙◌}
use Prim.Native.Nat.{◌≤◌}
use lib.IntN.{ℤ, nat_abs, ◌-ℤ◌, ◌*ℤ◌}
use mir.Facts.{to_z-of_z}
use mir.Syntax.{w32, w64}
use mir.Val.{SFits, to_z, of_z}
use Rattle.integers.proofs.BoundLaws as Bound
use Rattle.integers.proofs.BoundLaws.{ReadsAs, sum-within, product-within, sfits-of-within, reads-of-within}
use Rattle.geometry.specs.declared.Point.{Point}
use Rattle.geometry.specs.Plane.{distance}
use Rattle.geometry.specs.Tests.{cross}
use Rattle.coordinate.specs.Coordinate.{InRange}
use Rattle.plane.specs.Corners.{PointInRange}

-- a difference of numbers in range is within 2,000,000
pub difference-within : (a b : ℤ) → InRange a → InRange b → nat_abs (a -ℤ b) ≤ 2000000
difference-within a b h k = Bound.difference-within a b h k

-- a product of two such differences is within 4 * 10^12
product-of-differences : (a b c d : ℤ) → InRange a → InRange b → InRange c → InRange d → nat_abs ((a -ℤ b) *ℤ (c -ℤ d)) ≤ 4000000000000
product-of-differences a b c d h i j k = product-within (a -ℤ b) (c -ℤ d) (difference-within a b h i) (difference-within c d j k)

-- a cross product of points in range is within 8 * 10^12
pub cross-within : (a b p : Point) → PointInRange a → PointInRange b → PointInRange p → nat_abs (cross a b p) ≤ 8000000000000
unfolding cross
cross-within a b p ha hb hp =
    Bound.difference-within ((b.x -ℤ a.x) *ℤ (p.y -ℤ a.y)) ((b.y -ℤ a.y) *ℤ (p.x -ℤ a.x))
    (product-of-differences b.x a.x p.y a.y hb.across ha.across hp.up ha.up)
    (product-of-differences b.y a.y p.x a.x hb.up ha.up hp.across ha.across)

-- a squared distance of points in range is within 8 * 10^12
pub distance-within : (c p : Point) → PointInRange c → PointInRange p → nat_abs (distance c p) ≤ 8000000000000
unfolding distance
distance-within c p hc hp =
    sum-within ((c.x -ℤ p.x) *ℤ (c.x -ℤ p.x)) ((c.y -ℤ p.y) *ℤ (c.y -ℤ p.y))
    (product-of-differences c.x p.x c.x p.x hc.across hp.across hc.across hp.across)
    (product-of-differences c.y p.y c.y p.y hc.up hp.up hc.up hp.up)

-- no cross product of points in range leaves 64 bits
pub cross-fits : (a b p : Point) → PointInRange a → PointInRange b → PointInRange p → SFits w64 (cross a b p)
cross-fits a b p ha hb hp = sfits-of-within w64 8000000000000 (cross-within a b p ha hb hp) tt

-- no squared distance of points in range leaves 64 bits
pub distance-fits : (c p : Point) → PointInRange c → PointInRange p → SFits w64 (distance c p)
distance-fits c p hc hp = sfits-of-within w64 8000000000000 (distance-within c p hc hp) tt

-- ---- numbers read back

-- a number in range fits 32 bits
pub fits-of-in_range : (z : ℤ) → InRange z → SFits w32 z
fits-of-in_range z h = sfits-of-within w32 1000000 h tt

-- a number in range is read back from 32 bits as it was
pub back-of-in_range : (z : ℤ) → InRange z → to_z w32 (of_z w32 z) ≡ z
back-of-in_range z h = to_z-of_z (fits-of-in_range z h)

-- a difference of numbers in range that were read back reads as their difference
pub reads-difference : {r : ℤ} (a b : ℤ) → InRange a → InRange b → r ≡ to_z w32 (of_z w32 a) -ℤ to_z w32 (of_z w32 b) → ReadsAs r (a -ℤ b) 2000000
reads-difference a b h k e =
    reads-of-within
    (e ∙ ap (λ (i : ℤ). i -ℤ to_z w32 (of_z w32 b)) (back-of-in_range a h) ∙ ap (λ (i : ℤ). a -ℤ i) (back-of-in_range b k))
    (difference-within a b h k) tt

-- a product of differences of numbers in range that were read back reads as that of the numbers
pub reads-product : {r : ℤ} (a b c d : ℤ) → InRange a → InRange b → InRange c → InRange d → r ≡ (to_z w32 (of_z w32 a) -ℤ to_z w32 (of_z w32 b)) *ℤ (to_z w32 (of_z w32 c) -ℤ to_z w32 (of_z w32 d)) → ReadsAs r ((a -ℤ b) *ℤ (c -ℤ d)) 4000000000000
reads-product a b c d h i j k e = reads-of-within (e ∙ same) (product-of-differences a b c d h i j k) tt
  where
    same : (to_z w32 (of_z w32 a) -ℤ to_z w32 (of_z w32 b)) *ℤ (to_z w32 (of_z w32 c) -ℤ to_z w32 (of_z w32 d)) ≡ (a -ℤ b) *ℤ (c -ℤ d)
    same = cc (back-of-in_range a h, back-of-in_range b i, back-of-in_range c j, back-of-in_range d k)
