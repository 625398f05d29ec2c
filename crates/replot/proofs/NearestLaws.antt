-- The numbers of an answer: its nearest corner is one of the corners, so it fits in its room. Assumes nothing.
use mathlib.Core.Bool.{Bool, true, false, cond}
use mathlib.Core.List.{List, [], ◌∷◌}
use mathlib.Core.Option.{some}
use mathlib.Core.Path.{◌≡◌}
use Prim.Native.Nat.{ℕ, zero, suc, ◌≤◌, ◌<◌}
use native.Mathlib.Omega.{arith}
use lib.ListN.{length, get_elem?}
use Rattle.laws.proofs.TabLaws.{length-tab}
use Rattle.laws.proofs.TestLaws.{none-neq-some}
use Rattle.geometry.specs.declared.Point.{Point}
use Rattle.geometry.specs.declared.Located.{Located}
use Rattle.geometry.specs.Plane.{Placed, on_the_edge, inside, outside}
use Rattle.geometry.specs.Tests.{located}
use Rattle.geometry.proofs.PlacedLaws.{placed-located}
use Rattle.plane.specs.Corners.{corner_at, corners_in, Held}
use Rattle.plane.specs.Lent.{corners_of}
use Rattle.plane.specs.declared.Corners.{Corners}
use Rattle.std.specs.Prelude.{Result, Ok, Err, ◌/◌, ℤ}
use Rattle.boundary.specs.declared.Refusal.{Refusal}
use Rattle.boundary.specs.declared.Refusal.TheVariants as No
use Rattle.boundary.specs.Exact.{in_range, answer_at, answer_by, HeldBy}
use Rattle.replot.specs.Numbers.{nearest_in}

-- an element of a list stands below its length
place-lt : {A : Type 0} (l : List A) (i : ℕ) {x : A} → get_elem? l i ≡ some x → i < length l
place-lt [] i e = absurd (none-neq-some e)
place-lt (y ∷ l) zero e = omega arith
place-lt (y ∷ l) (suc i) e = omega (arith, place-lt l i e)

nearest-lt : {cs : List Point} {p : Point} {l : Located} → Placed cs p l → l.nearest < length cs
nearest-lt {cs} (on_the_edge {i} b n) = place-lt cs i n.is
nearest-lt {cs} (inside {i} b x o n) = place-lt cs i n.is
nearest-lt {cs} (outside {i} b x o n) = place-lt cs i n.is

located-lt : (cs : List Point) (p : Point) → 1 ≤ length cs → (located cs p).nearest < length cs
located-lt [] p h = absurd (omega (arith, h))
located-lt (c ∷ cs) p h = nearest-lt (placed-located c cs p)

pub nearest-below : (cs : List Point) (p : Point) → 1 ≤ length cs → nearest_in (answer_at cs p) < length cs
unfolding answer_at
nearest-below cs p h = go (in_range p)
  where
    go : (v : Bool) → nearest_in (cond v (Ok (located cs p)) (Err No.Range)) < length cs
    go true = located-lt cs p h
    go false = h

-- so it fits in 32 bits, where n corners are held
corners-fit : (l : List ℤ) (n : ℕ) (p : Point) → Held l n → nearest_in (answer_at (corners_in l n) p) < 4294967296
unfolding corners_in
corners-fit l n p h =
    let count : length (corners_in l n) ≡ n = length-tab (corner_at l) 0 n in
    omega (arith, nearest-below (corners_in l n) p (omega (arith, count, h.least)), count, h.most)

-- the answer by the corners in lent memory
pub lent-fits : (c : Corners) (p : Point) → nearest_in (answer_at (corners_of c) p) < 4294967296
unfolding corners_of
lent-fits c p = corners-fit c.numbers.now (length c.numbers.now / 2) p c.held

-- the answer by what was read of a text, a refusal too
pub nearest-fits : (b : Result ℕ Refusal) (l : List ℤ) (p : Point) → HeldBy b l → nearest_in (answer_by b l p) < 4294967296
nearest-fits (Ok n) l p h = corners-fit l n p h
nearest-fits (Err k) l p h = omega arith
