-- The worked cases of REQUIREMENT.md, section 9: where a point lies, as the tests compute it. Assumes nothing.
use mathlib.Core.List.{List, [], ◌∷◌}
use mathlib.Core.Path.{◌≡◌, refl}
use Prim.Native.Nat.{ℕ}
use lib.IntN.{ℤ, pos, negsuc}
use Rattle.laws.specs.Lists.{any}
use Rattle.geometry.specs.declared.Located.{Located}
use Rattle.geometry.specs.declared.Place.{Place}
use Rattle.geometry.specs.declared.Place.TheVariants.{Outside, Inside, Edge}
use Rattle.geometry.specs.Plane.{distance}
use Rattle.geometry.specs.Tests.{cross, between, is_zero, on_segment, crosses, on_side, crosses_side, odd_crossings, nearest_from, nearest, place, located}
use Rattle.plane.specs.Corners.{corner_at, corners_in}

-- where x, y lies to the first n corners of l
at : List ℤ → ℕ → ℤ → ℤ → Located
at l n x y = located (corners_in l n) (record { x = x; y = y })

-- a place, and corner i nearest
is : Place → ℕ → Located
is w i = record { place = w; nearest = i }

-- 0,0 10,0 10,10 0,10
square : List ℤ
square = pos 0 ∷ pos 0 ∷ pos 10 ∷ pos 0 ∷ pos 10 ∷ pos 10 ∷ pos 0 ∷ pos 10 ∷ []

-- 0,0 10,10 10,0 0,10
bow_tie : List ℤ
bow_tie = pos 0 ∷ pos 0 ∷ pos 10 ∷ pos 10 ∷ pos 10 ∷ pos 0 ∷ pos 0 ∷ pos 10 ∷ []

-- 3,3 three times
one_spot : List ℤ
one_spot = pos 3 ∷ pos 3 ∷ pos 3 ∷ pos 3 ∷ pos 3 ∷ pos 3 ∷ []

-- inside; on the edge, as near to corner 0 as to corner 1; outside
square-cases : (at square 4 (pos 5) (pos 5) ≡ is Inside 0) × (at square 4 (pos 5) (pos 0) ≡ is Edge 0) × (at square 4 (negsuc 0) (pos 10) ≡ is Outside 3)
unfolding at is square corners_in corner_at any distance cross between is_zero on_segment crosses on_side crosses_side odd_crossings nearest_from nearest place located
square-cases = (refl, refl, refl)

-- on the edge, where two sides meet; inside; outside
bow_tie-cases : (at bow_tie 4 (pos 5) (pos 5) ≡ is Edge 0) × (at bow_tie 4 (pos 9) (pos 5) ≡ is Inside 1) × (at bow_tie 4 (pos 5) (pos 1) ≡ is Outside 0)
unfolding at is bow_tie corners_in corner_at any distance cross between is_zero on_segment crosses on_side crosses_side odd_crossings nearest_from nearest place located
bow_tie-cases = (refl, refl, refl)

-- on the edge; outside
one_spot-cases : (at one_spot 3 (pos 3) (pos 3) ≡ is Edge 0) × (at one_spot 3 (pos 3) (pos 4) ≡ is Outside 0)
unfolding at is one_spot corners_in corner_at any distance cross between is_zero on_segment crosses on_side crosses_side odd_crossings nearest_from nearest place located
one_spot-cases = (refl, refl)
