-- What is computed is what is stated: `answered-iff` for a text and a point, `leaves-left` for the lent memory, `read-bounds` and
-- `read-refuses` for a text alone. Assumes nothing.
use mathlib.Core.Bool.{Bool, true, false, cond, ◌&&◌}
use mathlib.Core.List.{List, [], ◌∷◌, ◌++◌}
use mathlib.Core.Logic.{◌↔◌}
use mathlib.Core.Path.{◌≡◌, refl, sym, ap, subst, ◌∙◌}
use Prim.Native.Nat.{ℕ, ◌-◌, ◌*◌, ◌/◌, ◌≤◌, ◌<◌}
use native.Mathlib.Decide.{dec_le}
use native.Mathlib.Omega.{arith}
use lib.Dec.{leb, leb→le}
use lib.IntN.{pos, nat_abs}
use lib.ListN.{length, replicate}
use borrow.Author.Tests.{lt-ltb, le-ltb, le-leb}
use Rattle.laws.proofs.TestLaws.{true-neq-false, T-and-left, T-and-right, T-of-true}
use Rattle.json_text.specs.Tree.{Json}
use Rattle.geometry.specs.declared.Point.{Point}
use Rattle.geometry.specs.declared.Located.{Located}
use Rattle.geometry.specs.Plane.{Placed}
use Rattle.geometry.specs.Tests.{located}
use Rattle.geometry.proofs.PlacedLaws.{placed-located, placed-unique}
use Rattle.coordinate.specs.Coordinate.{InRange}
use Rattle.corners.specs.Corners.{ValidB, Corner, CornersOf}
use Rattle.corners.specs.Numbers.{flat, numbers_of}
use Rattle.corners.proofs.FieldLaws.{HasCorners, has-corners}
use Rattle.corners.proofs.ValidLaws.{corners-of-valid, numbers-of-valid}
use Rattle.boundary.specs.declared.Refusal.{Refusal}
use Rattle.boundary.specs.declared.Refusal.TheVariants as No
use Rattle.std.specs.Prelude.{Result, Ok, Err}
use Rattle.boundary.specs.Boundary.{Points, Bounds, bounds, Refuses, not_valid, too_few, too_many, unfit_corner, numbers_in, Leaves, leaves_points, leaves_none, Answered, refused, unfit_point, placed}
use Rattle.boundary.specs.Exact.{valid_b, unfit_in, counted, boundary_of, left_by, left_corners, in_range, answer_at, answer_by, query_of}
use Rattle.boundary.proofs.StepLaws.{valid-of-test, test-of-valid}
use Rattle.boundary.proofs.PointLaws.{Fits, fits, fits_not, fits-or-not, length-points, fit-points, length-flat, filled-points, corners-points}

-- ---- the boundary of a valid text

module _ {s : List ℕ} {t : Json} {cs : List Corner} (v : ValidB s t) (c : CornersOf t cs) where
  boundary-of-valid : boundary_of s ≡ counted (flat cs)
  unfolding boundary_of
  boundary-of-valid = rw (test-of-valid v, numbers-of-valid v c) refl

  boundary-few : length cs < 3 → boundary_of s ≡ Err No.Count
  unfolding counted
  boundary-few h = boundary-of-valid ∙ rw (lt-ltb (length (flat cs)) 6 (omega (arith, length-flat cs))) refl

  boundary-many : 1024 < length cs → boundary_of s ≡ Err No.Count
  unfolding counted
  boundary-many h =
      boundary-of-valid ∙ rw (le-ltb (length (flat cs)) 6 (omega (arith, length-flat cs)), lt-ltb 2048 (length (flat cs)) (omega (arith, length-flat cs))) refl

  module _ (h : 3 ≤ length cs) (g : length cs ≤ 1024) where
    boundary-unfit : unfit_in (flat cs) ≡ true → boundary_of s ≡ Err No.Range
    unfolding counted
    boundary-unfit u =
        boundary-of-valid ∙ rw (le-ltb (length (flat cs)) 6 (omega (arith, length-flat cs)), le-ltb 2048 (length (flat cs)) (omega (arith, length-flat cs)), u) refl

    boundary-corners : {ps : List Point} → Points cs ps → boundary_of s ≡ Ok (length ps)
    unfolding counted
    boundary-corners {ps} p =
        let e : length (flat cs) / 2 ≡ length ps = omega (arith, length-flat cs, length-points p) in
        boundary-of-valid
        ∙ rw (le-ltb (length (flat cs)) 6 (omega (arith, length-flat cs)), le-ltb 2048 (length (flat cs)) (omega (arith, length-flat cs)), fit-points p, e) refl

    left-corners : {ps : List Point} → Points cs ps → left_corners s ≡ numbers_in ps ++ replicate (2048 - 2 * length ps) (pos 0)
    unfolding left_corners
    left-corners p = rw (boundary-corners p, numbers-of-valid v c) (filled-points p g)

-- ---- the two ways of a text

-- what is read of a text that has a boundary
pub record Has-points (s : List ℕ) (ps : List Point) : Type 0 where
  pub boundary : boundary_of s ≡ Ok (length ps)
  pub left : left_corners s ≡ numbers_in ps ++ replicate (2048 - 2 * length ps) (pos 0)
  pub some : 3 ≤ length ps

pub read-bounds : {s : List ℕ} {ps : List Point} → Bounds s ps → Has-points s ps
read-bounds (bounds v c h g p) = record { boundary = boundary-corners v c h g p; left = left-corners v c h g p; some = rw (length-points p) h }

pub read-refuses : {s : List ℕ} {k : Refusal} → Refuses s k → boundary_of s ≡ Err k
unfolding boundary_of
read-refuses {s} (not_valid f) = go (valid_b s) refl
  where
    go : (b : Bool) → valid_b s ≡ b → cond (valid_b s) (counted (numbers_of s)) (Err No.NotValid) ≡ Err No.NotValid
    go true e = absurd (f _ (valid-of-test s e).1)
    go false e = rw e refl
read-refuses (too_few v c h) = boundary-few v c h
read-refuses (too_many v c h) = boundary-many v c h
read-refuses {s} (unfit_corner {cs = cs} v c h g f) = go (fits-or-not cs)
  where
    go : Fits cs → boundary_of s ≡ Err No.Range
    go (fits {ps} p u) = absurd (f ps p)
    go (fits_not n u) = boundary-unfit v c h g u

-- every text has a boundary, or is refused
pub data Either (s : List ℕ) : Type 0 where
  has-bounds : {ps : List Point} → Bounds s ps → Either s
  is-refused : {k : Refusal} → Refuses s k → Either s

pub either : (s : List ℕ) → Either s
either s = by-test (valid_b s) refl
  where
    by-fit : {t : Json} {cs : List Corner} → ValidB s t → CornersOf t cs → 3 ≤ length cs → length cs ≤ 1024 → Fits cs → Either s
    by-fit v c h g (fits p u) = has-bounds (bounds v c h g p)
    by-fit v c h g (fits_not n u) = is-refused (unfit_corner v c h g n)

    by_most : {t : Json} {cs : List Corner} → ValidB s t → CornersOf t cs → 3 ≤ length cs → Dec (length cs ≤ 1024) → Either s
    by_most {cs = cs} v c h (yes g) = by-fit v c h g (fits-or-not cs)
    by_most v c h (no g) = is-refused (too_many v c (omega arith))

    by-least : {t : Json} {cs : List Corner} → ValidB s t → CornersOf t cs → Dec (3 ≤ length cs) → Either s
    by-least {cs = cs} v c (yes h) = by_most v c h (dec_le (length cs) 1024)
    by-least v c (no h) = is-refused (too_few v c (omega arith))

    by-corners : {t : Json} → ValidB s t → HasCorners t → Either s
    by-corners v (has-corners {cs} c) = by-least v c (dec_le 3 (length cs))

    by-test : (b : Bool) → valid_b s ≡ b → Either s
    by-test true e = let v = (valid-of-test s e).1 in by-corners v (corners-of-valid v)
    by-test false e = is-refused (not_valid (λ t v. true-neq-false (sym (test-of-valid v) ∙ e)))

-- ---- the lent memory

pub leaves-left : (s : List ℕ) → Leaves s (left_corners s)
unfolding left_corners
leaves-left s = go (either s)
  where
    go : Either s → Leaves s (left_corners s)
    go (has-bounds b) = subst (Leaves s) (sym (read-bounds b).left) (leaves_points b)
    go (is-refused r) = subst (λ (x : Result ℕ Refusal). Leaves s (left_by x (numbers_of s))) (sym (read-refuses r)) (leaves_none r)

-- ---- the point

range-true : (p : Point) → InRange p.x → InRange p.y → in_range p ≡ true
unfolding in_range
range-true p h g = rw (le-leb (nat_abs p.x) 1000000 h, le-leb (nat_abs p.y) 1000000 g) refl

range-false : (p : Point) → (InRange p.x → InRange p.y → ⊥) → in_range p ≡ false
unfolding in_range
range-false p f = go (leb (nat_abs p.x) 1000000 && leb (nat_abs p.y) 1000000) refl
  where
    go : (v : Bool) → (leb (nat_abs p.x) 1000000 && leb (nat_abs p.y) 1000000) ≡ v → v ≡ false
    go true e =
        absurd (f (leb→le (nat_abs p.x) 1000000 (T-and-left (leb (nat_abs p.x) 1000000) _ (T-of-true _ e)))
        (leb→le (nat_abs p.y) 1000000 (T-and-right (leb (nat_abs p.x) 1000000) _ (T-of-true _ e))))
    go false e = refl

module _ {s : List ℕ} {ps : List Point} (b : Bounds s ps) (p : Point) where
  query-at : query_of s p ≡ answer_at ps p
  unfolding query_of
  query-at = rw ((read-bounds b).boundary, (read-bounds b).left, corners-points ps (replicate (2048 - 2 * length ps) (pos 0))) refl

  query-beside : in_range p ≡ false → query_of s p ≡ Err No.Range
  unfolding answer_at
  query-beside e = query-at ∙ rw e refl

  query-there : in_range p ≡ true → query_of s p ≡ Ok (located ps p)
  unfolding answer_at
  query-there e = query-at ∙ rw e refl

-- where there are points, one of them lies there
placed-there : (ps : List Point) (p : Point) → 3 ≤ length ps → Placed ps p (located ps p)
placed-there [] p h = absurd (omega (arith, h))
placed-there (c ∷ ps) p h = placed-located c ps p

-- what is computed is answered
pub answered-query : (s : List ℕ) (p : Point) → Answered s p (query_of s p)
unfolding query_of in_range
answered-query s p = go (either s)
  where
    by-range : {ps : List Point} → Bounds s ps → (v : Bool) → in_range p ≡ v → Answered s p (query_of s p)
    by-range {ps} b true e =
        subst (Answered s p) (sym (query-there b p e))
        (placed b (leb→le (nat_abs p.x) 1000000 (T-and-left (leb (nat_abs p.x) 1000000) _ (T-of-true _ e)))
        (leb→le (nat_abs p.y) 1000000 (T-and-right (leb (nat_abs p.x) 1000000) _ (T-of-true _ e))) (placed-there ps p (read-bounds b).some))
    by-range b false e = subst (Answered s p) (sym (query-beside b p e)) (unfit_point b (λ h g. true-neq-false (sym (range-true p h g) ∙ e)))

    go : Either s → Answered s p (query_of s p)
    go (has-bounds b) = by-range b (in_range p) refl
    go (is-refused r) = subst (λ (x : Result ℕ Refusal). Answered s p (answer_by x (left_corners s) p)) (sym (read-refuses r)) (refused r)

-- what is answered is computed
pub query-answered : {s : List ℕ} {p : Point} {a : Result Located Refusal} → Answered s p a → a ≡ query_of s p
unfolding query_of
query-answered {s} {p} (refused r) = sym (ap (λ (x : Result ℕ Refusal). answer_by x (left_corners s) p) (read-refuses r))
query-answered {s} {p} (unfit_point b f) = sym (query-beside b p (range-false p f))
query-answered {s} {p} (placed {ps} {l} b h g x) =
    ap Ok (placed-unique x (placed-there ps p (read-bounds b).some)) ∙ sym (query-there b p (range-true p h g))

-- exactly one answer is the answer, and it is the one that is computed
pub answered-iff : (s : List ℕ) (p : Point) (a : Result Located Refusal) → Answered s p a ↔ (a ≡ query_of s p)
answered-iff s p a = (query-answered, λ e. subst (Answered s p) (sym e) (answered-query s p))
