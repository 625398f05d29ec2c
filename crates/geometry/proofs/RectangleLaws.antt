-- Laws of a rectangle with upright sides: inside it is what is strictly between its sides. Assumes nothing.
use mathlib.Core.Bool.{Bool, true, false, cond, ◌&&◌}
use mathlib.Core.List.{List, [], ◌∷◌}
use mathlib.Core.Logic.{inl, inr, ⊎_elim, ◌↔◌}
use mathlib.Core.Path.{◌≡◌, refl, sym, ap, subst, ◌∙◌}
use Prim.Native.Nat.{ℕ}
use native.Mathlib.Omega.{arith}
use lib.Dec.{T}
use lib.IntN.{ℤ, pos, ◌-ℤ◌, ◌*ℤ◌, +ℤ_invr, zero-*ℤ, *ℤ-zero}
use lib.Signed.{◌≤ℤ◌, ◌<ℤ◌, ≤ℤ_refl, <ℤ-≤ℤ_trans, <ℤ_irrefl, clash_ℤ}
use Rattle.laws.specs.Lists.{any}
use Rattle.laws.proofs.TestLaws.{T_and, T-and-left, T-and-right, T-or-elim, T-or-left, T-or-right}
use Rattle.integers.proofs.RingLaws.{at, lit, minus}
use Rattle.integers.proofs.OrderLaws.{le-of-linear, linear-of-le, lt-of-linear, linear-of-lt, le_of_lt, eq-of-le-of-le, le-or-gt, times-lt, lt-of-times}
use Rattle.geometry.specs.declared.Point.{Point}
use Rattle.geometry.specs.Plane.{OneAbove, RightOf, CrossesRight, sides}
use Rattle.geometry.specs.declared.Place.TheVariants.{Outside, Inside, Edge}
use Rattle.geometry.specs.Tests.{cross, between, is_zero, on_segment, crosses, on_side, crosses_side, odd_crossings, place, located}
use Rattle.geometry.proofs.FractionLaws.{Ratio, ratio-of-le, times-of-ratio, is_zero-of-eq, between-up, between-down, between-cases}
use Rattle.geometry.proofs.SegmentLaws.{crosses-of-test, test-of-crosses, crosses-swap}
use Rattle.geometry.proofs.BoundaryLaws.{odd_of}

-- the point x across and y up
abbrev pub point : ℤ → ℤ → Point
point x y = record { x = x; y = y }

-- the corners of a rectangle, from the left lower one on
abbrev pub rectangle : ℤ → ℤ → ℤ → ℤ → List Point
rectangle x₀ x₁ y₀ y₁ = point x₀ y₀ ∷ point x₁ y₀ ∷ point x₁ y₁ ∷ point x₀ y₁ ∷ []

-- ---- upright and level segments

-- an upright segment crosses the heights from its lower end to below its upper one, to the right of what is left of it
pub crosses-upright : (x y y' : ℤ) (p : Point) → y <ℤ y' → T (crosses (point x y) (point x y') p) → (y ≤ℤ p.y) × (p.y <ℤ y') × (p.x <ℤ x)
crosses-upright x y y' p rise h = make (crosses-of-test (point x y) (point x y') p h)
  where
    left : RightOf (point x y) (point x y') p → p.x <ℤ x
    left s =
        lt-of-linear
        (at p.x)
        (at x)
        (omega (
          arith,
          linear-of-lt
              (minus (at p.x) (at x))
              (lit 0)
              (lt-of-times
              s.d
              (subst
              (λ z. (pos s.d *ℤ (p.x -ℤ x)) <ℤ z)
              (ap (λ z. pos s.n *ℤ z) (+ℤ_invr x) ∙ *ℤ-zero (pos s.n) ∙ sym (*ℤ-zero (pos s.d)))
              s.right)),
        ))

    make : CrossesRight (point x y) (point x y') p → (y ≤ℤ p.y) × (p.y <ℤ y') × (p.x <ℤ x)
    make (inl (low, high), s) = (low, high, left s)
    make (inr (low, high), s) = clash_ℤ (<ℤ-≤ℤ_trans rise low) (le_of_lt high)

-- a point left of an upright segment, at such a height, has it cross to its right
pub upright-crosses : (x y y' : ℤ) (p : Point) → y ≤ℤ p.y → p.y <ℤ y' → p.x <ℤ x → T (crosses (point x y) (point x y') p)
upright-crosses x y y' p low high left =
    test-of-crosses {a = point x y} {b = point x y'} {p = p} (
      inl (low, high),
      record { n = f.n; d = f.d; some = f.some; part = f.part; level = times-of-ratio f (p.y -ℤ y) (y' -ℤ y) refl; right = right },
    )
  where
    f : Ratio (y' -ℤ y) (p.y -ℤ y)
    f =
        ratio-of-le
        (le-of-linear (lit 0) (minus (at p.y) (at y)) (omega (arith, linear-of-le (at y) (at p.y) low)))
        (le-of-linear (minus (at p.y) (at y)) (minus (at y') (at y)) (omega (arith, linear-of-lt (at p.y) (at y') high)))
        (lt-of-linear (lit 0) (minus (at y') (at y)) (omega (arith, linear-of-le (at y) (at p.y) low, linear-of-lt (at p.y) (at y') high)))

    right : (pos f.d *ℤ (p.x -ℤ x)) <ℤ (pos f.n *ℤ (x -ℤ x))
    right =
        subst
        (λ z. (pos f.d *ℤ (p.x -ℤ x)) <ℤ z)
        (*ℤ-zero (pos f.d) ∙ sym (ap (λ z. pos f.n *ℤ z) (+ℤ_invr x) ∙ *ℤ-zero (pos f.n)))
        (times-lt f.d f.some (lt-of-linear (minus (at p.x) (at x)) (lit 0) (omega (arith, linear-of-lt (at p.x) (at x) left))))

-- a level segment crosses no height
pub level-misses : (x x' y : ℤ) (p : Point) → T (crosses (point x y) (point x' y) p) → ⊥
level-misses x x' y p h = make (crosses-of-test (point x y) (point x' y) p h).0
  where
    make : OneAbove (point x y) (point x' y) p → ⊥
    make (inl (low, high)) = clash_ℤ high low
    make (inr (low, high)) = clash_ℤ high low

between-same : (x z : ℤ) → T (between x x z) → z ≡ x
between-same x z h = between-cases x x z (λ low high. eq-of-le-of-le high low) (λ low high. eq-of-le-of-le high low) h

-- a point on an upright segment is as far across as it
pub across-upright : (x y y' : ℤ) (p : Point) → T (on_segment (point x y) (point x y') p) → p.x ≡ x
unfolding on_segment
across-upright x y y' p h =
    between-same x p.x (T-and-left (between x x p.x) (between y y' p.y) (T-and-right (is_zero (cross (point x y) (point x y') p)) (between x x p.x && between y y' p.y) h))

-- a point on a level segment is as far up as it
pub up-level : (x x' y : ℤ) (p : Point) → T (on_segment (point x y) (point x' y) p) → p.y ≡ y
unfolding on_segment
up-level x x' y p h =
    between-same y p.y (T-and-right (between x x' p.x) (between y y p.y) (T-and-right (is_zero (cross (point x y) (point x' y) p)) (between x x' p.x && between y y p.y) h))

-- a point as far across as an upright segment, between its ends, is on it
pub on_segment-upright : (x y y' : ℤ) (p : Point) → p.x ≡ x → T (between y y' p.y) → T (on_segment (point x y) (point x y') p)
unfolding on_segment cross
on_segment-upright x y y' p e h =
    T_and
    (is_zero (cross (point x y) (point x y') p))
    (between x x p.x && between y y' p.y)
    (is_zero-of-eq ((x -ℤ x) *ℤ (p.y -ℤ y)) ((y' -ℤ y) *ℤ (p.x -ℤ x)) flat)
    (T_and (between x x p.x) (between y y' p.y) (subst (λ z. T (between x x z)) (sym e) (between-up (≤ℤ_refl x) (≤ℤ_refl x))) h)
  where
    flat : (x -ℤ x) *ℤ (p.y -ℤ y) ≡ (y' -ℤ y) *ℤ (p.x -ℤ x)
    flat =
        ap (λ z. z *ℤ (p.y -ℤ y)) (+ℤ_invr x) ∙
        zero-*ℤ (p.y -ℤ y) ∙
        sym (ap (λ z. (y' -ℤ y) *ℤ (z -ℤ x)) e ∙ ap (λ z. (y' -ℤ y) *ℤ z) (+ℤ_invr x) ∙ *ℤ-zero (y' -ℤ y))

-- a point as far up as a level segment, between its ends, is on it
pub on_segment-level : (x x' y : ℤ) (p : Point) → p.y ≡ y → T (between x x' p.x) → T (on_segment (point x y) (point x' y) p)
unfolding on_segment cross
on_segment-level x x' y p e h =
    T_and
    (is_zero (cross (point x y) (point x' y) p))
    (between x x' p.x && between y y p.y)
    (is_zero-of-eq ((x' -ℤ x) *ℤ (p.y -ℤ y)) ((y -ℤ y) *ℤ (p.x -ℤ x)) flat)
    (T_and (between x x' p.x) (between y y p.y) h (subst (λ z. T (between y y z)) (sym e) (between-up (≤ℤ_refl y) (≤ℤ_refl y))))
  where
    flat : (x' -ℤ x) *ℤ (p.y -ℤ y) ≡ (y -ℤ y) *ℤ (p.x -ℤ x)
    flat =
        ap (λ z. (x' -ℤ x) *ℤ (z -ℤ y)) e ∙
        ap (λ z. (x' -ℤ x) *ℤ z) (+ℤ_invr y) ∙
        *ℤ-zero (x' -ℤ x) ∙
        sym (ap (λ z. z *ℤ (p.x -ℤ x)) (+ℤ_invr y) ∙ zero-*ℤ (p.x -ℤ x))

-- ---- inside

-- inside is on no side, with an odd number of crossings
tests-of-inside : (on odd : Bool) → cond on Edge (cond odd Inside Outside) ≡ Inside → (T on → ⊥) × T odd
tests-of-inside true odd e = let z : ◌≡◌ {A = ℕ} 0 1 = cc in absurd (omega arith)
tests-of-inside false true e = (λ t. t, tt)
tests-of-inside false false e = let z : ◌≡◌ {A = ℕ} 0 1 = cc in absurd (omega arith)

inside-of-tests : (on odd : Bool) → (T on → ⊥) → T odd → cond on Edge (cond odd Inside Outside) ≡ Inside
inside-of-tests true odd f t = absurd (f tt)
inside-of-tests false true f t = refl
inside-of-tests false false f t = absurd t

-- of four sides in turn the second and the fourth are not crossed, and the third is where the first is: an odd number is crossed where the third is and
-- the first is not
only_third : (a b c d : Bool) → (T b → ⊥) → (T d → ⊥) → (T a → T c) → T (odd_of a (odd_of b (odd_of c (odd_of d false)))) → (T a → ⊥) × T c
unfolding odd_of
only_third a true c d f g h t = absurd (f tt)
only_third a false c true f g h t = absurd (g tt)
only_third true false true false f g h t = absurd t
only_third true false false false f g h t = absurd (h tt)
only_third false false true false f g h t = (λ u. u, tt)
only_third false false false false f g h t = absurd t

odd-of-third : (a b c d : Bool) → (T a → ⊥) → (T b → ⊥) → T c → (T d → ⊥) → T (odd_of a (odd_of b (odd_of c (odd_of d false))))
unfolding odd_of
odd-of-third true b c d e f g h = absurd (e tt)
odd-of-third false true c d e f g h = absurd (f tt)
odd-of-third false false true true e f g h = absurd (h tt)
odd-of-third false false true false e f g h = tt
odd-of-third false false false d e f g h = absurd g

module _ (x₀ x₁ y₀ y₁ : ℤ) (wide : x₀ <ℤ x₁) (tall : y₀ <ℤ y₁) (p : Point) where
  left-crosses : T (crosses (point x₀ y₁) (point x₀ y₀) p) → (y₀ ≤ℤ p.y) × (p.y <ℤ y₁) × (p.x <ℤ x₀)
  left-crosses t = crosses-upright x₀ y₀ y₁ p tall (subst T (crosses-swap (point x₀ y₁) (point x₀ y₀) p) t)

  crosses-left : y₀ ≤ℤ p.y → p.y <ℤ y₁ → p.x <ℤ x₀ → T (crosses (point x₀ y₁) (point x₀ y₀) p)
  crosses-left low high l = subst T (crosses-swap (point x₀ y₀) (point x₀ y₁) p) (upright-crosses x₀ y₀ y₁ p low high l)

  -- what is inside the rectangle is strictly between its sides
  pub between-of-inside : (located (rectangle x₀ x₁ y₀ y₁) p).place ≡ Inside → (x₀ <ℤ p.x) × (p.x <ℤ x₁) × (y₀ <ℤ p.y) × (p.y <ℤ y₁)
  unfolding any on_side odd_crossings crosses_side odd_of place located
  between-of-inside e =
      answer
      (only_third
      (crosses (point x₀ y₁) (point x₀ y₀) p)
      (crosses (point x₀ y₀) (point x₁ y₀) p)
      (crosses (point x₁ y₀) (point x₁ y₁) p)
      (crosses (point x₁ y₁) (point x₀ y₁) p)
      (λ h. level-misses x₀ x₁ y₀ p h)
      (λ h. level-misses x₁ x₀ y₁ p h)
      (λ h. further (left-crosses h))
      tests.1)
    where
      tests : (T (any (on_side p) (sides (rectangle x₀ x₁ y₀ y₁))) → ⊥) × T (odd_crossings p (sides (rectangle x₀ x₁ y₀ y₁)))
      tests = tests-of-inside (any (on_side p) (sides (rectangle x₀ x₁ y₀ y₁))) (odd_crossings p (sides (rectangle x₀ x₁ y₀ y₁))) e

      further : (y₀ ≤ℤ p.y) × (p.y <ℤ y₁) × (p.x <ℤ x₀) → T (crosses (point x₁ y₀) (point x₁ y₁) p)
      further (low, high, l) = upright-crosses x₁ y₀ y₁ p low high (<ℤ-≤ℤ_trans l (le_of_lt wide))

      off-left : T (on_segment (point x₀ y₁) (point x₀ y₀) p) → ⊥
      off-left h = tests.0 (T-or-left (on_segment (point x₀ y₁) (point x₀ y₀) p) _ h)

      off-lower : T (on_segment (point x₀ y₀) (point x₁ y₀) p) → ⊥
      off-lower h = tests.0 (T-or-right (on_segment (point x₀ y₁) (point x₀ y₀) p) _ (T-or-left (on_segment (point x₀ y₀) (point x₁ y₀) p) _ h))

      answer : (T (crosses (point x₀ y₁) (point x₀ y₀) p) → ⊥) × T (crosses (point x₁ y₀) (point x₁ y₁) p) → (x₀ <ℤ p.x) × (p.x <ℤ x₁) × (y₀ <ℤ p.y) × (p.y <ℤ y₁)
      answer (f, h) = strict (crosses-upright x₁ y₀ y₁ p tall h)
        where
          strict : (y₀ ≤ℤ p.y) × (p.y <ℤ y₁) × (p.x <ℤ x₁) → (x₀ <ℤ p.x) × (p.x <ℤ x₁) × (y₀ <ℤ p.y) × (p.y <ℤ y₁)
          strict (low, high, r) = (over, r, up, high)
            where
              from : x₀ ≤ℤ p.x
              from = ⊎_elim (λ (k : x₀ ≤ℤ p.x). k) (λ (k : p.x <ℤ x₀). absurd (f (crosses-left low high k))) (le-or-gt x₀ p.x)

              over : x₀ <ℤ p.x
              over =
                  ⊎_elim
                  (λ (k : p.x ≤ℤ x₀). absurd (off-left (on_segment-upright x₀ y₁ y₀ p (eq-of-le-of-le k from) (between-down low (le_of_lt high)))))
                  (λ (k : x₀ <ℤ p.x). k)
                  (le-or-gt p.x x₀)

              up : y₀ <ℤ p.y
              up =
                  ⊎_elim
                  (λ (k : p.y ≤ℤ y₀). absurd (off-lower (on_segment-level x₀ x₁ y₀ p (eq-of-le-of-le k low) (between-up from (le_of_lt r)))))
                  (λ (k : y₀ <ℤ p.y). k)
                  (le-or-gt p.y y₀)

  -- what is strictly between the sides of the rectangle is inside it
  pub inside-of-between : x₀ <ℤ p.x → p.x <ℤ x₁ → y₀ <ℤ p.y → p.y <ℤ y₁ → (located (rectangle x₀ x₁ y₀ y₁) p).place ≡ Inside
  unfolding any on_side odd_crossings crosses_side odd_of place located
  inside-of-between l r b t = inside-of-tests (any (on_side p) (sides (rectangle x₀ x₁ y₀ y₁))) (odd_crossings p (sides (rectangle x₀ x₁ y₀ y₁))) off odd
    where
      off : T (any (on_side p) (sides (rectangle x₀ x₁ y₀ y₁))) → ⊥
      off h =
          T-or-elim (on_segment (point x₀ y₁) (point x₀ y₀) p) _ (λ k. <ℤ_irrefl (subst (λ z. x₀ <ℤ z) (across-upright x₀ y₁ y₀ p k) l))
          (λ h.
          T-or-elim (on_segment (point x₀ y₀) (point x₁ y₀) p) _ (λ k. <ℤ_irrefl (subst (λ z. y₀ <ℤ z) (up-level x₀ x₁ y₀ p k) b))
          (λ h.
          T-or-elim (on_segment (point x₁ y₀) (point x₁ y₁) p) _ (λ k. <ℤ_irrefl (subst (λ z. z <ℤ x₁) (across-upright x₁ y₀ y₁ p k) r))
          (λ h.
          T-or-elim (on_segment (point x₁ y₁) (point x₀ y₁) p) false (λ k. <ℤ_irrefl (subst (λ z. z <ℤ y₁) (up-level x₁ x₀ y₁ p k) t)) (λ k. k) h) h) h) h

      odd : T (odd_crossings p (sides (rectangle x₀ x₁ y₀ y₁)))
      odd =
          odd-of-third
          (crosses (point x₀ y₁) (point x₀ y₀) p)
          (crosses (point x₀ y₀) (point x₁ y₀) p)
          (crosses (point x₁ y₀) (point x₁ y₁) p)
          (crosses (point x₁ y₁) (point x₀ y₁) p)
          (λ h. clash_ℤ (left-crosses h).2 (le_of_lt l))
          (λ h. level-misses x₀ x₁ y₀ p h)
          (upright-crosses x₁ y₀ y₁ p (le_of_lt b) t r)
          (λ h. level-misses x₁ x₀ y₁ p h)

  -- inside is what is strictly between the sides
  pub rectangle-iff : ((located (rectangle x₀ x₁ y₀ y₁) p).place ≡ Inside) ↔ ((x₀ <ℤ p.x) × (p.x <ℤ x₁) × (y₀ <ℤ p.y) × (p.y <ℤ y₁))
  rectangle-iff = (between-of-inside, λ h. inside-of-between h.0 h.1 h.2 h.3)
