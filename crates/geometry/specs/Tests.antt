-- The same, as tests that compute, in the products that the code compares. Derived: `placed-iff` in proofs/ joins `located` to `Plane.Placed`,
-- `on_segment-iff` and `crosses-iff` the tests of a side. Assumes nothing.
use Rattle.std.specs.Prelude.{Bool, true, false, cond, ◌&&◌, ◌||◌, List, [], ◌∷◌, ℕ, suc, ℤ, pos, ◌-ℤ◌, ◌*ℤ◌}
use Rattle.std.specs.Int.Signed.{le_z, lt_z}
use Rattle.laws.specs.Lists.{any}
use Rattle.geometry.specs.declared.Point.{Point}
use Rattle.geometry.specs.declared.Located.{Located}
use Rattle.geometry.specs.declared.Place.{Place}
use Rattle.geometry.specs.declared.Place.TheVariants as Is
use Rattle.geometry.specs.Plane.{Side, sides, distance}

-- across b - a times up p - a, less up b - a times across p - a: twice the area of the triangle a, b, p, with a sign
unfoldable pub cross : Point → Point → Point → ℤ
cross a b p = (b.x -ℤ a.x) *ℤ (p.y -ℤ a.y) -ℤ (b.y -ℤ a.y) *ℤ (p.x -ℤ a.x)

-- p is from a to b, or from b to a
unfoldable pub between : ℤ → ℤ → ℤ → Bool
between a b p = (le_z a p && le_z p b) || (le_z b p && le_z p a)

-- the number is 0
unfoldable pub is_zero : ℤ → Bool
is_zero z = le_z z (pos 0) && le_z (pos 0) z

-- p stands in line with a and b, and in the box that they span
unfoldable pub on_segment : Point → Point → Point → Bool
on_segment a b p = is_zero (cross a b p) && (between a.x b.x p.x && between a.y b.y p.y)

-- a side that rises past the height of p is to its right where the cross product is above 0, one that falls past it where it is below
unfoldable pub crosses : Point → Point → Point → Bool
crosses a b p =
    cond (le_z a.y p.y) (lt_z p.y b.y && lt_z (pos 0) (cross a b p)) (le_z b.y p.y && lt_z (cross a b p) (pos 0))

unfoldable pub on_side : Point → Side → Bool
on_side p s = on_segment s.from s.to p

unfoldable pub crosses_side : Point → Side → Bool
crosses_side p s = crosses s.from s.to p

-- an odd number of sides crosses
unfoldable pub odd_crossings : Point → List Side → Bool
odd_crossings p [] = false
odd_crossings p (s ∷ ss) = cond (crosses_side p s) (cond (odd_crossings p ss) false true) (odd_crossings p ss)

-- the corners from number i on, where corner m is the nearest so far, at the squared distance d
unfoldable pub nearest_from : Point → ℕ → ℕ → ℤ → List Point → ℕ
nearest_from p i m d [] = m
nearest_from p i m d (c ∷ cs) = cond (lt_z (distance c p) d) (nearest_from p (suc i) i (distance c p) cs) (nearest_from p (suc i) m d cs)

unfoldable pub nearest : List Point → Point → ℕ
nearest [] p = 0
nearest (c ∷ cs) p = nearest_from p 1 0 (distance c p) cs

-- on the edge, or else inside where an odd number of sides crosses
unfoldable pub place : List Point → Point → Place
place cs p = cond (any (on_side p) (sides cs)) Is.Edge (cond (odd_crossings p (sides cs)) Is.Inside Is.Outside)

unfoldable pub located : List Point → Point → Located
located cs p = record { place = place cs p; nearest = nearest cs p }
