-- Where a point lies to a boundary, and which corner is nearest: REQUIREMENT.md, section 9. Numbers are whole; the height of a point is its second
-- number. A fraction is written by its two numbers, so nothing is divided. Stated. Assumes nothing.
use mathlib.Core.List.{List, [], ◌∷◌, Memᴰ}
use Rattle.std.specs.Prelude.{◌⊎◌, ◌≡◌, ℕ, suc, ◌+◌, ◌*◌, ◌≤◌, ◌<◌, ℤ, pos, ◌+ℤ◌, ◌-ℤ◌, ◌*ℤ◌, ◌≤ℤ◌, ◌<ℤ◌}
use Rattle.std.proofs.Math.Option.{some}
use Rattle.std.proofs.Math.ListN.{get_elem?}
use Rattle.geometry.specs.declared.Point.{Point}
use Rattle.geometry.specs.declared.Located.{Located}
use Rattle.geometry.specs.declared.Place.TheVariants as Is

-- ---- segments

-- p is a point of the closed segment from a to b: it lies n / d of the way from a, none of it or all of it included
pub record OnSegment (a b p : Point) : Type 0 where
  pub n : ℕ
  pub d : ℕ
  pub some : 0 < d
  pub part : n ≤ d
  pub across : pos d *ℤ (p.x -ℤ a.x) ≡ pos n *ℤ (b.x -ℤ a.x)
  pub up : pos d *ℤ (p.y -ℤ a.y) ≡ pos n *ℤ (b.y -ℤ a.y)

-- exactly one end of the segment is above the height of p
abbrev pub OneAbove : Point → Point → Point → Type 0
OneAbove a b p = ((a.y ≤ℤ p.y) × (p.y <ℤ b.y)) ⊎ ((b.y ≤ℤ p.y) × (p.y <ℤ a.y))

-- some point of the segment, n / d of the way from a, has the height of p and lies to the right of it
pub record RightOf (a b p : Point) : Type 0 where
  pub n : ℕ
  pub d : ℕ
  pub some : 0 < d
  pub part : n ≤ d
  pub level : pos d *ℤ (p.y -ℤ a.y) ≡ pos n *ℤ (b.y -ℤ a.y)
  pub right : (pos d *ℤ (p.x -ℤ a.x)) <ℤ (pos n *ℤ (b.x -ℤ a.x))

-- the segment has exactly one end above the height of p, and crosses that height to the right of p
abbrev pub CrossesRight : Point → Point → Point → Type 0
CrossesRight a b p = OneAbove a b p × RightOf a b p

-- ---- boundaries

-- a segment of a boundary, from one corner to the next
pub record Side : Type 0 where
  pub from : Point
  pub to : Point

abbrev pub side : Point → Point → Side
side a b = record { from = a; to = b }

-- each corner with the one before it; a stands before the first
abbrev pub sides_after : Point → List Point → List Side
sides_after a [] = []
sides_after a (b ∷ cs) = side a b ∷ sides_after b cs

-- the last of c and the corners after it
abbrev pub last_of : Point → List Point → Point
last_of c [] = c
last_of c (b ∷ cs) = last_of b cs

-- the sides of a boundary: the closing one, from the last corner to the first, and those from each corner to the next
abbrev pub sides : List Point → List Side
sides [] = []
sides (c ∷ cs) = sides_after (last_of c cs) (c ∷ cs)

-- p lies on the boundary: on some side
pub record OnBoundary (cs : List Point) (p : Point) : Type 0 where
  pub on : Side
  pub among : Memᴰ on (sides cs)
  pub segment : OnSegment on.from on.to p

-- how many of the sides cross the height of p to its right
pub data Crossings (p : Point) : List Side → ℕ → Type 0 where
  no_sides : Crossings p [] 0
  crosses : {s : Side} {ss : List Side} {n : ℕ} → CrossesRight s.from s.to p → Crossings p ss n → Crossings p (s ∷ ss) (suc n)
  misses : {s : Side} {ss : List Side} {n : ℕ} → (CrossesRight s.from s.to p → ⊥) → Crossings p ss n → Crossings p (s ∷ ss) n

pub record Odd (n : ℕ) : Type 0 where
  pub half : ℕ
  pub is : n ≡ 2 * half + 1

-- ---- the nearest corner

-- the squared distance of c and p
unfoldable pub distance : Point → Point → ℤ
distance c p = (c.x -ℤ p.x) *ℤ (c.x -ℤ p.x) +ℤ (c.y -ℤ p.y) *ℤ (c.y -ℤ p.y)

-- corner i, of the corners numbered from 0, is nearest to p; of corners as near it has the lowest number
pub record Nearest (cs : List Point) (p : Point) (i : ℕ) : Type 0 where
  pub corner : Point
  pub is : get_elem? cs i ≡ some corner
  pub least : (j : ℕ) (c : Point) → get_elem? cs j ≡ some c → distance corner p ≤ℤ distance c p
  pub lowest : (j : ℕ) (c : Point) → j < i → get_elem? cs j ≡ some c → distance corner p <ℤ distance c p

-- ---- the answer

pub data Placed (cs : List Point) (p : Point) : Located → Type 0 where
  on_the_edge : {i : ℕ} → OnBoundary cs p → Nearest cs p i → Placed cs p (record { place = Is.Edge; nearest = i })
  -- otherwise it is inside when the number of crossings is odd
  inside : {i n : ℕ} → (OnBoundary cs p → ⊥) → Crossings p (sides cs) n → Odd n → Nearest cs p i → Placed cs p (record { place = Is.Inside; nearest = i })
  outside : {i n : ℕ} → (OnBoundary cs p → ⊥) → Crossings p (sides cs) n → (Odd n → ⊥) → Nearest cs p i → Placed cs p (record { place = Is.Outside; nearest = i })
