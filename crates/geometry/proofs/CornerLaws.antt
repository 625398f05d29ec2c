-- A corner of a boundary is on the edge, and nearest to itself. Assumes nothing.
use mathlib.Core.List.{List, [], ◌∷◌, Memᴰ}
use mathlib.Core.Option.{some, some-injective}
use mathlib.Core.Path.{◌≡◌, refl, ap, subst, ◌∙◌}
use Prim.Native.Nat.{ℕ, zero, suc, ◌≤◌, ◌<◌}
use native.Mathlib.Nat.{le_of_suc-le-suc, lt_of_not-le}
use native.Mathlib.Omega.{arith}
use lib.IntN.{ℤ, pos, ◌-ℤ◌, ◌*ℤ◌, +ℤ_invr}
use lib.ListN.{get_elem?}
use lib.Signed.{◌≤ℤ◌, ◌<ℤ◌, clash_ℤ}
use Rattle.laws.proofs.TestLaws.{none-neq-some}
use Rattle.integers.proofs.RingLaws.{at, lit, plus, minus, eq-of-linear, linear-of-eq}
use Rattle.integers.proofs.OrderLaws.{le-of-linear, linear-of-le, square-nonneg, zero-of-square}
use Rattle.geometry.specs.declared.Point.{Point}
use Rattle.geometry.specs.declared.Place.TheVariants as Is
use Rattle.geometry.specs.Plane.{OnSegment, Side, side, sides_after, last_of, sides, distance, OnBoundary, Nearest, on_the_edge}
use Rattle.geometry.specs.Tests.{nearest, located}
use Rattle.geometry.proofs.PlacedLaws.{nearest-nearest, placed-located, placed-unique}

-- the end of a segment is on it
on_segment-end : (a b : Point) → OnSegment a b b
on_segment-end a b = record { n = 1; d = 1; some = omega arith; part = omega arith; across = refl; up = refl }

-- each corner is the end of a side
side-to-corner : (a : Point) (cs : List Point) (i : ℕ) {p : Point} → get_elem? cs i ≡ some p → (s : Side) × Memᴰ s (sides_after a cs) × (s.to ≡ p)
side-to-corner a [] i e = none-neq-some e
side-to-corner a (b ∷ cs) zero {p} e = (side a b, Memᴰ.head refl, some-injective b p e)
side-to-corner a (b ∷ cs) (suc i) {p} e = further (side-to-corner b cs i e)
  where
    further : (s : Side) × Memᴰ s (sides_after b cs) × (s.to ≡ p) → (s : Side) × Memᴰ s (sides_after a (b ∷ cs)) × (s.to ≡ p)
    further (s, m, f) = (s, Memᴰ.tail m, f)

-- a corner is on the edge
pub on_boundary-of-corner : (cs : List Point) (i : ℕ) {p : Point} → get_elem? cs i ≡ some p → OnBoundary cs p
on_boundary-of-corner [] i e = none-neq-some e
on_boundary-of-corner (c ∷ cs) i {p} e = make (side-to-corner (last_of c cs) (c ∷ cs) i e)
  where
    make : (s : Side) × Memᴰ s (sides (c ∷ cs)) × (s.to ≡ p) → OnBoundary (c ∷ cs) p
    make (s, m, f) = record { on = s; among = m; segment = subst (λ q. OnSegment s.from s.to q) f (on_segment-end s.from s.to) }

-- the squared distance of a point to itself is 0
pub distance_self : (p : Point) → distance p p ≡ pos 0
unfolding distance
distance_self p = rw (+ℤ_invr p.x, +ℤ_invr p.y)

-- points with the same numbers are the same
eq-of-coordinates : (c p : Point) → c.x ≡ p.x → c.y ≡ p.y → c ≡ p
eq-of-coordinates c p e f = ap {B = Point} (λ z. record { x = z; y = c.y }) e ∙ ap {B = Point} (λ z. record { x = p.x; y = z }) f

-- two points whose squared distance is not above 0 are the same
pub eq-of-distance : (c p : Point) → distance c p ≤ℤ pos 0 → c ≡ p
unfolding distance
eq-of-distance c p h = eq-of-coordinates c p (same c.x p.x across) (same c.y p.y up)
  where
    dx : ℤ
    dx = (c.x -ℤ p.x) *ℤ (c.x -ℤ p.x)

    dy : ℤ
    dy = (c.y -ℤ p.y) *ℤ (c.y -ℤ p.y)

    across : dx ≤ℤ pos 0
    across =
        le-of-linear
        (at dx)
        (lit 0)
        (omega (arith, linear-of-le (plus (at dx) (at dy)) (lit 0) h, linear-of-le (lit 0) (at dy) (square-nonneg (c.y -ℤ p.y))))

    up : dy ≤ℤ pos 0
    up =
        le-of-linear
        (at dy)
        (lit 0)
        (omega (arith, linear-of-le (plus (at dx) (at dy)) (lit 0) h, linear-of-le (lit 0) (at dx) (square-nonneg (c.x -ℤ p.x))))

    same : (m k : ℤ) → ((m -ℤ k) *ℤ (m -ℤ k)) ≤ℤ pos 0 → m ≡ k
    same m k h = eq-of-linear (at m) (at k) (omega (arith, linear-of-eq (minus (at m) (at k)) (lit 0) (zero-of-square (m -ℤ k) h)))

-- no squared distance is below 0
pub distance-nonneg : (c p : Point) → pos 0 ≤ℤ distance c p
unfolding distance
distance-nonneg c p =
    le-of-linear
    (lit 0)
    (plus (at ((c.x -ℤ p.x) *ℤ (c.x -ℤ p.x))) (at ((c.y -ℤ p.y) *ℤ (c.y -ℤ p.y))))
    (omega (
      arith,
      linear-of-le (lit 0) (at ((c.x -ℤ p.x) *ℤ (c.x -ℤ p.x))) (square-nonneg (c.x -ℤ p.x)),
      linear-of-le (lit 0) (at ((c.y -ℤ p.y) *ℤ (c.y -ℤ p.y))) (square-nonneg (c.y -ℤ p.y)),
    ))

-- nearest to a corner is the corner itself, under the lowest number that it has
pub nearest-of-corner : (cs : List Point) (i : ℕ) {p : Point} {k : ℕ} → get_elem? cs i ≡ some p → Nearest cs p k → (k ≤ i) × (get_elem? cs k ≡ some p)
nearest-of-corner cs i {p} {k} e n = (
  le_of_suc-le-suc (lt_of_not-le (λ (h : i < k). clash_ℤ (subst (λ d. distance n.corner p <ℤ d) (distance_self p) (n.lowest i p h e)) (distance-nonneg n.corner p))),
  n.is ∙ ap some (eq-of-distance n.corner p (subst (λ d. distance n.corner p ≤ℤ d) (distance_self p) (n.least i p e))),
)

-- a corner is located on the edge, and nearest to itself
pub located-corner : (cs : List Point) (i : ℕ) {p : Point} → get_elem? cs i ≡ some p → (k : ℕ) × (located cs p ≡ record { place = Is.Edge; nearest = k }) × (k ≤ i) × (get_elem? cs k ≡ some p)
located-corner [] i e = none-neq-some e
located-corner (c ∷ cs) i {p} e = make (nearest-of-corner (c ∷ cs) i e (nearest-nearest c cs p))
  where
    make : (nearest (c ∷ cs) p ≤ i) × (get_elem? (c ∷ cs) (nearest (c ∷ cs) p) ≡ some p) → (k : ℕ) × (located (c ∷ cs) p ≡ record { place = Is.Edge; nearest = k }) × (k ≤ i) × (get_elem? (c ∷ cs) k ≡ some p)
    make (l, f) = (
      nearest (c ∷ cs) p,
      placed-unique (placed-located c cs p) (on_the_edge (on_boundary-of-corner (c ∷ cs) i e) (nearest-nearest c cs p)),
      l,
      f,
    )
