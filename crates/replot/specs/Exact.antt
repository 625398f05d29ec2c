-- The same, computed. Derived: `replots-iff` in proofs/ joins `track_of` to `Track.Replots`. Assumes nothing.
use Rattle.std.specs.Prelude.{List, map, ℕ, ℤ, Result, Ok, Err}
use Rattle.geometry.specs.declared.Point.{Point}
use Rattle.plane.specs.Corners.{corners_in}
use Rattle.boundary.specs.declared.Refusal.{Refusal}
use Rattle.boundary.specs.Exact.{boundary_of, left_corners, answer_at}
use Rattle.replot.specs.declared.TrackPoint.{TrackPoint}
use Rattle.replot.specs.Track.{point_of, with_answer}

-- an entry with its answer, to the boundary cs
unfoldable pub answered_by : List Point → TrackPoint → TrackPoint
answered_by cs p = with_answer p (answer_at cs (point_of p))

-- a track after that, where b was read of the text and the memory l holds its corners
abbrev pub track_by : Result ℕ Refusal → List ℤ → List TrackPoint → List TrackPoint
track_by (Ok n) l t = map (answered_by (corners_in l n)) t
track_by (Err k) l t = t

-- a track after the text s is read
unfoldable pub track_of : List ℕ → List TrackPoint → List TrackPoint
track_of s t = track_by (boundary_of s) (left_corners s) t
