-- Where a point lies, and the nearest corner, stay as the corners and the point are shifted alike. Assumes nothing.
use mathlib.Core.List.{List, [], ◌∷◌, map}
use mathlib.Core.Path.{◌≡◌, refl, ap, ◌∙◌}
use Prim.Native.Nat.{ℕ, suc}
use native.Mathlib.Omega.{arith}
use lib.IntN.{ℤ, ◌+ℤ◌, ◌-ℤ◌}
use lib.Signed.{le_z, lt_z}
use Rattle.laws.specs.Lists.{any}
use Rattle.integers.proofs.RingLaws.{at, plus, minus, eq-of-linear}
use Rattle.integers.proofs.OrderLaws.{le_z-linear, lt_z-linear}
use Rattle.geometry.specs.declared.Point.{Point}
use Rattle.geometry.specs.Plane.{Side, side, sides_after, last_of, sides, distance}
use Rattle.geometry.specs.Tests.{cross, between, on_segment, crosses, on_side, crosses_side, odd_crossings, nearest_from, nearest, place, located}

-- a point moved by dx across and dy up
unfoldable pub shift : ℤ → ℤ → Point → Point
shift dx dy p = record { x = p.x +ℤ dx; y = p.y +ℤ dy }

-- differences and orders of two numbers stay as both are moved
diff-shift : (d a b : ℤ) → (b +ℤ d) -ℤ (a +ℤ d) ≡ b -ℤ a
diff-shift d a b = eq-of-linear (minus (plus (at b) (at d)) (plus (at a) (at d))) (minus (at b) (at a)) (omega arith)

le_z-shift : (d a b : ℤ) → le_z (a +ℤ d) (b +ℤ d) ≡ le_z a b
le_z-shift d a b = le_z-linear (plus (at a) (at d)) (plus (at b) (at d)) (at a) (at b) (λ h. omega arith) (λ h. omega arith)

lt_z-shift : (d a b : ℤ) → lt_z (a +ℤ d) (b +ℤ d) ≡ lt_z a b
lt_z-shift d a b = lt_z-linear (plus (at a) (at d)) (plus (at b) (at d)) (at a) (at b) (λ h. omega arith) (λ h. omega arith)

between-shift : (d a b p : ℤ) → between (a +ℤ d) (b +ℤ d) (p +ℤ d) ≡ between a b p
unfolding between
between-shift d a b p = cc (le_z-shift d a p, le_z-shift d p b, le_z-shift d b p, le_z-shift d p a)

module _ (dx dy : ℤ) where
  -- the tests of a segment and the squared distance stay
  pub cross-shift : (a b p : Point) → cross (shift dx dy a) (shift dx dy b) (shift dx dy p) ≡ cross a b p
  unfolding cross shift
  cross-shift a b p =
      cc (diff-shift dx a.x b.x, diff-shift dx a.x p.x, diff-shift dy a.y b.y, diff-shift dy a.y p.y)

  pub distance_shift : (c p : Point) → distance (shift dx dy c) (shift dx dy p) ≡ distance c p
  unfolding distance shift
  distance_shift c p = cc (diff-shift dx p.x c.x, diff-shift dy p.y c.y)

  pub on_segment-shift : (a b p : Point) → on_segment (shift dx dy a) (shift dx dy b) (shift dx dy p) ≡ on_segment a b p
  unfolding on_segment shift
  on_segment-shift a b p = cc (cross-shift a b p, between-shift dx a.x b.x p.x, between-shift dy a.y b.y p.y)

  pub crosses-shift : (a b p : Point) → crosses (shift dx dy a) (shift dx dy b) (shift dx dy p) ≡ crosses a b p
  unfolding crosses shift
  crosses-shift a b p =
      cc (cross-shift a b p, le_z-shift dy a.y p.y, le_z-shift dy b.y p.y, lt_z-shift dy p.y b.y)

  shift_side : Side → Side
  shift_side s = side (shift dx dy s.from) (shift dx dy s.to)

  last_of-shift : (c : Point) (cs : List Point) → last_of (shift dx dy c) (map (shift dx dy) cs) ≡ shift dx dy (last_of c cs)
  last_of-shift c [] = refl
  last_of-shift c (b ∷ cs) = last_of-shift b cs

  sides_after-shift : (a : Point) (cs : List Point) → sides_after (shift dx dy a) (map (shift dx dy) cs) ≡ map shift_side (sides_after a cs)
  unfolding shift_side
  sides_after-shift a [] = refl
  sides_after-shift a (b ∷ cs) = ap (λ ss. side (shift dx dy a) (shift dx dy b) ∷ ss) (sides_after-shift b cs)

  sides-shift : (cs : List Point) → sides (map (shift dx dy) cs) ≡ map shift_side (sides cs)
  sides-shift [] = refl
  sides-shift (c ∷ cs) = ap (λ a. sides_after a (map (shift dx dy) (c ∷ cs))) (last_of-shift c cs) ∙ sides_after-shift (last_of c cs) (c ∷ cs)

  any-shift : (p : Point) (ss : List Side) → any (on_side (shift dx dy p)) (map shift_side ss) ≡ any (on_side p) ss
  unfolding any on_side shift_side
  any-shift p [] = refl
  any-shift p (s ∷ ss) = cc (on_segment-shift s.from s.to p, any-shift p ss)

  odd_crossings-shift : (p : Point) (ss : List Side) → odd_crossings (shift dx dy p) (map shift_side ss) ≡ odd_crossings p ss
  unfolding odd_crossings crosses_side shift_side
  odd_crossings-shift p [] = refl
  odd_crossings-shift p (s ∷ ss) = cc (crosses-shift s.from s.to p, odd_crossings-shift p ss)

  nearest_from-shift : (p : Point) (i m : ℕ) (d : ℤ) (cs : List Point) → nearest_from (shift dx dy p) i m d (map (shift dx dy) cs) ≡ nearest_from p i m d cs
  unfolding nearest_from
  nearest_from-shift p i m d [] = refl
  nearest_from-shift p i m d (c ∷ cs) =
      cc (distance_shift c p, nearest_from-shift p (suc i) i (distance c p) cs, nearest_from-shift p (suc i) m d cs)

  nearest-shift : (cs : List Point) (p : Point) → nearest (map (shift dx dy) cs) (shift dx dy p) ≡ nearest cs p
  unfolding nearest
  nearest-shift [] p = refl
  nearest-shift (c ∷ cs) p = cc (distance_shift c p, nearest_from-shift p 1 0 (distance c p) cs)

  -- where a point lies, and the nearest corner, stay as the corners and the point are shifted alike
  pub located-shift : (cs : List Point) (p : Point) → located (map (shift dx dy) cs) (shift dx dy p) ≡ located cs p
  unfolding place located
  located-shift cs p =
      cc (
        sides-shift cs,
        any-shift p (sides cs),
        odd_crossings-shift p (sides cs),
        nearest-shift cs p,
      )
