-- What the library's calls for a field give and leave in lent memory. Derived: `answered-iff`, `leaves-left`, `read-bounds` and `read-refuses` of crate
-- boundary join `query_of`, `left_corners` and `boundary_of` to what is stated there, `replots-iff` of crate replot `track_of`. Assumes nothing.
use Rattle.std.specs.Prelude.{List, ◌≡◌, ℕ, ℤ}
use Rattle.table.specs.Table.{Table}
use Rattle.geometry.specs.declared.Point.{Point}
use Rattle.boundary.specs.Exact.{boundary_of, left_corners, query_of}
use Rattle.boundary.specs.Calls.{LoadsB}
use Rattle.replot.specs.declared.TrackPoint.{TrackPoint}
use Rattle.replot.specs.Exact.{track_of}
use Rattle.replot.specs.Numbers.{answer_number, nearest_in}
use Rattle.fieldtext.specs.Field.{corner_count, text_refusal}

-- what a call for the corners of the text s gives and leaves
pub record CornersSaid (s : List ℕ) (count : ℕ) (table : Table) (corners : List ℤ) (refusal : ℕ) : Type 0 where
  pub count_is : count ≡ corner_count (boundary_of s)
  pub refusal_is : refusal ≡ text_refusal (boundary_of s)
  pub corners_left : corners ≡ left_corners s
  pub table_left : LoadsB table

-- what a call for the text s and the point p gives and leaves
pub record PointSaid (s : List ℕ) (p : Point) (number : ℕ) (table : Table) (corners : List ℤ) (nearest : ℕ) : Type 0 where
  pub number_is : number ≡ answer_number (query_of s p)
  pub nearest_is : nearest ≡ nearest_in (query_of s p)
  pub corners_left : corners ≡ left_corners s
  pub table_left : LoadsB table

-- what a call for the text s and the track t gives and leaves
pub record TrackSaid (s : List ℕ) (t : List TrackPoint) (number : ℕ) (table : Table) (corners : List ℤ) (track : List TrackPoint) : Type 0 where
  pub number_is : number ≡ text_refusal (boundary_of s)
  pub track_is : track ≡ track_of s t
  pub corners_left : corners ≡ left_corners s
  pub table_left : LoadsB table
