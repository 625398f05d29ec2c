-- The points of corners: there are such points, one list of them, exactly where no number is unfit; and the memory that holds them. Assumes nothing.
use mathlib.Core.Bool.{true, false}
use mathlib.Core.List.{List, [], ◌∷◌, ◌++◌}
use mathlib.Core.Path.{◌≡◌, refl, sym, ap, ◌∙◌}
use Prim.Native.Nat.{ℕ, zero, suc, ◌+◌, ◌-◌, ◌*◌, ◌≤◌, ◌<◌}
use native.Mathlib.Omega.{arith}
use lib.IntN.{ℤ, pos}
use lib.ListN.{length, get_or, replicate, length-append}
use lib.Seq.{ext_get_or}
use Rattle.laws.specs.Lists.{any}
use Rattle.laws.specs.Tab.{tab}
use Rattle.laws.proofs.TabLaws.{length-tab, get_d-tab}
use Rattle.geometry.specs.declared.Point.{Point}
use Rattle.std.specs.Prelude.{Option, Some, None}
use Rattle.coordinate.specs.Coordinate.{Plain, InRange, Reads, reads_at, reads_unfit}
use Rattle.coordinate.specs.Exact.{coordinate_of}
use Rattle.coordinate.proofs.CoordinateLaws.{reads-coordinate_of, reads-unique}
use Rattle.corners.specs.Corners.{Corner}
use Rattle.corners.specs.Numbers.{flat}
use Rattle.plane.specs.Corners.{corner_at, corners_in}
use Rattle.boundary.specs.Boundary.{Points, no_points, points, numbers_in}
use Rattle.boundary.specs.Exact.{value_of, unfit_in, number_at, filled}

-- ---- a number

-- a number that is fit is read as it is
read-of-plain : (ds : List ℕ) (z : ℤ) → Plain ds z → InRange z → coordinate_of ds ≡ Some z
read-of-plain ds z p r = reads-unique (reads-coordinate_of ds) (reads_at p r)

-- a number is fit, with its value, or unfit
data Fit (ds : List ℕ) : Type 0 where
  fit : {z : ℤ} → Plain ds z → InRange z → coordinate_of ds ≡ Some z → Fit ds
  unfit : ((z : ℤ) → Plain ds z → InRange z → ⊥) → coordinate_of ds ≡ None → Fit ds

fit-or-not : (ds : List ℕ) → Fit ds
fit-or-not ds = go (coordinate_of ds) refl (reads-coordinate_of ds)
  where
    go : (c : Option ℤ) → coordinate_of ds ≡ c → Reads ds c → Fit ds
    go (Some z) e (reads_at p r) = fit p r e
    go None e (reads_unfit f) = unfit f e

-- ---- corners

-- the corners have points, and no number is unfit; or they have none, and one is
pub data Fits (cs : List Corner) : Type 0 where
  fits : {ps : List Point} → Points cs ps → unfit_in (flat cs) ≡ false → Fits cs
  fits_not : ((ps : List Point) → Points cs ps → ⊥) → unfit_in (flat cs) ≡ true → Fits cs

pub fits-or-not : (cs : List Corner) → Fits cs
unfolding unfit_in any
fits-or-not [] = fits no_points refl
fits-or-not (c ∷ cs) = go (fit-or-not c.x) (fit-or-not c.y) (fits-or-not cs)
  where
    go : Fit c.x → Fit c.y → Fits cs → Fits (c ∷ cs)
    go (fit p r e) (fit q s f) (fits h u) = fits (points p r q s h) (rw (e, f) u)
    go (fit p r e) (fit q s f) (fits_not h u) = fits_not none (rw (e, f) u)
      where
        none : (ps : List Point) → Points (c ∷ cs) ps → ⊥
        none _ (points a b d g k) = h _ k
    go (fit p r e) (unfit g f) k = fits_not none (rw (e, f) refl)
      where
        none : (ps : List Point) → Points (c ∷ cs) ps → ⊥
        none _ (points a b d i j) = g _ d i
    go (unfit g e) y k = fits_not none (rw e refl)
      where
        none : (ps : List Point) → Points (c ∷ cs) ps → ⊥
        none _ (points a b d i j) = g _ a b

-- corners with points have as many, and no number is unfit
pub length-points : {cs : List Corner} {ps : List Point} → Points cs ps → length ps ≡ length cs
length-points no_points = refl
length-points (points a b c d h) = ap suc (length-points h)

pub fit-points : {cs : List Corner} {ps : List Point} → Points cs ps → unfit_in (flat cs) ≡ false
unfolding unfit_in any
fit-points no_points = refl
fit-points (points {c} {x} {y} a b d e h) = rw (read-of-plain c.x x a b, read-of-plain c.y y d e) (fit-points h)

pub length-flat : (cs : List Corner) → length (flat cs) ≡ 2 * length cs
length-flat [] = refl
length-flat (c ∷ cs) = omega (arith, length-flat cs)

-- ---- the memory

number-zero : (i : ℕ) → number_at [] i ≡ pos 0
unfolding number_at coordinate_of
number-zero i = refl

get_d-zeros : (n i : ℕ) → get_or (replicate n (pos 0)) i (pos 0) ≡ pos 0
get_d-zeros zero i = refl
get_d-zeros (suc n) zero = refl
get_d-zeros (suc n) (suc i) = get_d-zeros n i

get_d-numbers : {cs : List Corner} {ps : List Point} → Points cs ps → (n i : ℕ) → get_or (numbers_in ps ++ replicate n (pos 0)) i (pos 0) ≡ number_at (flat cs) i
unfolding number_at
get_d-numbers no_points n i = get_d-zeros n i ∙ sym (number-zero i)
get_d-numbers (points {c} {x} a b d e h) n zero = sym (ap value_of (read-of-plain c.x x a b))
get_d-numbers (points {c} {x} {y} a b d e h) n (suc zero) = sym (ap value_of (read-of-plain c.y y d e))
get_d-numbers (points a b d e h) n (suc (suc i)) = get_d-numbers h n i

length-numbers : (ps : List Point) → length (numbers_in ps) ≡ 2 * length ps
length-numbers [] = refl
length-numbers (p ∷ ps) = omega (arith, length-numbers ps)

length-zeros : (n : ℕ) → length (replicate n (pos 0)) ≡ n
length-zeros zero = refl
length-zeros (suc n) = ap suc (length-zeros n)

-- the memory with the numbers of corners holds their points
pub filled-points : {cs : List Corner} {ps : List Point} → Points cs ps → length cs ≤ 1024 → filled (flat cs) ≡ numbers_in ps ++ replicate (2048 - 2 * length ps) (pos 0)
unfolding filled
filled-points {cs} {ps} h g =
    ext_get_or (pos 0) (tab (number_at (flat cs)) 0 2048) (numbers_in ps ++ replicate (2048 - 2 * length ps) (pos 0))
    (length-tab (number_at (flat cs)) 0 2048
    ∙ sym (length-append (numbers_in ps) (replicate (2048 - 2 * length ps) (pos 0)) ∙ rw (length-numbers ps, length-zeros (2048 - 2 * length ps)) (omega (arith, length-points h))))
    (λ i l. get_d-tab (number_at (flat cs)) (pos 0) 2048 i (omega (arith, length-tab (number_at (flat cs)) 0 2048)) ∙ sym (get_d-numbers h (2048 - 2 * length ps) i))

-- ---- the corners in the memory

get_d-across : (ps : List Point) (z : List ℤ) (d : Point) (i : ℕ) → i < length ps → get_or (numbers_in ps ++ z) (2 * i) (pos 0) ≡ (get_or ps i d).x
get_d-across [] z d i h = absurd (omega (arith, h))
get_d-across (p ∷ ps) z d zero h = refl
get_d-across (p ∷ ps) z d (suc i) h =
    let e : 2 * suc i ≡ suc (suc (2 * i)) = omega arith in
    rw e (get_d-across ps z d i (omega arith))

get_d-up : (ps : List Point) (z : List ℤ) (d : Point) (i : ℕ) → i < length ps → get_or (numbers_in ps ++ z) (2 * i + 1) (pos 0) ≡ (get_or ps i d).y
get_d-up [] z d i h = absurd (omega (arith, h))
get_d-up (p ∷ ps) z d zero h = refl
get_d-up (p ∷ ps) z d (suc i) h =
    let e : 2 * suc i + 1 ≡ suc (suc (2 * i + 1)) = omega arith in
    rw e (get_d-up ps z d i (omega arith))

abbrev origin : Point
origin = record { x = pos 0; y = pos 0 }

abbrev point : ℤ → ℤ → Point
point x y = record { x = x; y = y }

-- the corners in memory that holds the numbers of points are these points
pub corners-points : (ps : List Point) (z : List ℤ) → corners_in (numbers_in ps ++ z) (length ps) ≡ ps
unfolding corners_in corner_at
corners-points ps z =
    ext_get_or origin (tab (corner_at (numbers_in ps ++ z)) 0 (length ps)) ps (length-tab (corner_at (numbers_in ps ++ z)) 0 (length ps))
    (λ i l. let h : i < length ps = omega (arith, length-tab (corner_at (numbers_in ps ++ z)) 0 (length ps)) in
    get_d-tab (corner_at (numbers_in ps ++ z)) origin (length ps) i h
    ∙ ap (λ (x : ℤ). point x (get_or (numbers_in ps ++ z) (2 * i + 1) (pos 0))) (get_d-across ps z origin i h)
    ∙ ap (λ (y : ℤ). point (get_or ps i origin).x y) (get_d-up ps z origin i h))
