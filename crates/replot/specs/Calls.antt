-- What the call of this crate gives and leaves in lent memory. Derived: `replots-iff` in proofs/ and the laws of crate boundary join `Exact` to what is
-- stated. Assumes nothing.
use Rattle.std.specs.Prelude.{List, ◌≡◌, ℕ, ℤ, Result}
use Rattle.table.specs.Table.{Table}
use Rattle.boundary.specs.declared.Refusal.{Refusal}
use Rattle.boundary.specs.Exact.{boundary_of, left_corners}
use Rattle.boundary.specs.Calls.{LoadsB}
use Rattle.replot.specs.declared.TrackPoint.{TrackPoint}
use Rattle.replot.specs.Exact.{track_of}

-- what replot gives for the text s and the track t, and leaves in the track, the lent corners and the lent table
pub record ReplotOf (s : List ℕ) (t : List TrackPoint) (r : Result ℕ Refusal) (u : List TrackPoint) (corners : List ℤ) (table : Table) : Type 0 where
  pub boundary : r ≡ boundary_of s
  pub track : u ≡ track_of s t
  pub corners_left : corners ≡ left_corners s
  pub table_left : LoadsB table
