-- The corners in lent memory, as the points that they are. Stated. Assumes nothing.
use Rattle.std.specs.Prelude.{List, ◌/◌, length}
use Rattle.geometry.specs.declared.Point.{Point}
use Rattle.plane.specs.Corners.{corners_in}
use Rattle.plane.specs.declared.Corners.{Corners}

-- all corners, two numbers each
unfoldable pub corners_of : Corners → List Point
corners_of c = corners_in c.numbers.now (length c.numbers.now / 2)
