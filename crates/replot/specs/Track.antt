-- A whole track in one pass: REQUIREMENT.md, section 10. Stated. Assumes nothing.
use Rattle.std.specs.Prelude.{List, [], ◌∷◌, ℕ, Result}
use Rattle.geometry.specs.declared.Point.{Point}
use Rattle.geometry.specs.declared.Located.{Located}
use Rattle.boundary.specs.declared.Refusal.{Refusal}
use Rattle.boundary.specs.Boundary.{Bounds, Refuses, Answered}
use Rattle.replot.specs.declared.TrackPoint.{TrackPoint}
use Rattle.replot.specs.Numbers.{answer_number, nearest_in}

-- the point of an entry of a track
abbrev pub point_of : TrackPoint → Point
point_of p = record { x = p.x; y = p.y }

-- the entry with an answer in its room: its point stays
abbrev pub with_answer : TrackPoint → Result Located Refusal → TrackPoint
with_answer p a = record { x = p.x; y = p.y; answer = answer_number a; nearest = nearest_in a }

-- each entry has what is answered for the text s and its point alone
pub data EachAnswered (s : List ℕ) : List TrackPoint → List TrackPoint → Type 0 where
  no_entries : EachAnswered s [] []
  entry : {p : TrackPoint} {a : Result Located Refusal} {t u : List TrackPoint} → Answered s (point_of p) a → EachAnswered s t u → EachAnswered s (p ∷ t) (with_answer p a ∷ u)

-- the track t after the call: where the text has a boundary, each entry has its answer; where the text or a corner is refused, every entry is untouched
pub data Replots (s : List ℕ) (t : List TrackPoint) : List TrackPoint → Type 0 where
  answered : {ps : List Point} {u : List TrackPoint} → Bounds s ps → EachAnswered s t u → Replots s t u
  untouched : {k : Refusal} → Refuses s k → Replots s t t
