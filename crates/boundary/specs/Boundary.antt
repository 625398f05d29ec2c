-- What is answered for a text and a point: REQUIREMENT.md, section 9. Stated. Assumes nothing.
use Rattle.std.specs.Prelude.{List, [], ◌∷◌, ◌++◌, ℕ, ◌-◌, ◌*◌, ◌≤◌, ◌<◌, ℤ, pos, length, replicate, Result, Ok, Err}
use Rattle.json_text.specs.Tree.{Json}
use Rattle.geometry.specs.declared.Point.{Point}
use Rattle.geometry.specs.declared.Located.{Located}
use Rattle.geometry.specs.Plane.{Placed}
use Rattle.coordinate.specs.Coordinate.{Plain, InRange}
use Rattle.corners.specs.Corners.{ValidB, Corner, CornersOf}
use Rattle.boundary.specs.declared.Refusal.{Refusal}
use Rattle.boundary.specs.declared.Refusal.TheVariants as No

-- the number of each refusal
abbrev pub refusal_number : Refusal → ℕ
refusal_number No.NotValid = 31
refusal_number No.Count = 32
refusal_number No.Range = 33

-- corners whose numbers are in plain digits and in range, as points
pub data Points : List Corner → List Point → Type 0 where
  no_points : Points [] []
  points : {c : Corner} {x y : ℤ} {cs : List Corner} {ps : List Point} → Plain c.x x → InRange x → Plain c.y y → InRange y → Points cs ps
      → Points (c ∷ cs) (record { x = x; y = y } ∷ ps)

-- the points of the text's boundary
pub data Bounds (s : List ℕ) : List Point → Type 0 where
  bounds : {t : Json} {cs : List Corner} {ps : List Point} → ValidB s t → CornersOf t cs → 3 ≤ length cs → length cs ≤ 1024 → Points cs ps → Bounds s ps

-- why the text has none: each refusal, where none before it holds
pub data Refuses (s : List ℕ) : Refusal → Type 0 where
  not_valid : ((t : Json) → ValidB s t → ⊥) → Refuses s No.NotValid
  too_few : {t : Json} {cs : List Corner} → ValidB s t → CornersOf t cs → length cs < 3 → Refuses s No.Count
  too_many : {t : Json} {cs : List Corner} → ValidB s t → CornersOf t cs → 1024 < length cs → Refuses s No.Count
  unfit_corner : {t : Json} {cs : List Corner} → ValidB s t → CornersOf t cs → 3 ≤ length cs → length cs ≤ 1024 → ((ps : List Point) → Points cs ps → ⊥)
      → Refuses s No.Range

-- the numbers of points, one after the other
abbrev pub numbers_in : List Point → List ℤ
numbers_in [] = []
numbers_in (p ∷ ps) = p.x ∷ p.y ∷ numbers_in ps

-- the lent memory after the text is read: the numbers of its points, and zeros behind them; zeros alone where it is refused
pub data Leaves (s : List ℕ) : List ℤ → Type 0 where
  leaves_points : {ps : List Point} → Bounds s ps → Leaves s (numbers_in ps ++ replicate (2048 - 2 * length ps) (pos 0))
  leaves_none : {k : Refusal} → Refuses s k → Leaves s (replicate 2048 (pos 0))

-- what is answered for the text s and the point p: where the point lies, or why it or the text is refused
pub data Answered (s : List ℕ) (p : Point) : Result Located Refusal → Type 0 where
  refused : {k : Refusal} → Refuses s k → Answered s p (Err k)
  unfit_point : {ps : List Point} → Bounds s ps → (InRange p.x → InRange p.y → ⊥) → Answered s p (Err No.Range)
  placed : {ps : List Point} {l : Located} → Bounds s ps → InRange p.x → InRange p.y → Placed ps p l → Answered s p (Ok l)
