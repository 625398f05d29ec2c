-- Laws of a segment: its tests say what is stated, and its ends may change places. Assumes nothing.
use mathlib.Core.Bool.{Bool, true, false, not, cond, ◌&&◌, and_comm, or_comm}
use mathlib.Core.Logic.{◌⊎◌, inl, inr, ⊎_elim, ◌↔◌}
use mathlib.Core.Path.{◌≡◌, refl, sym, ap, subst, ◌∙◌}
use Prim.Native.Nat.{ℕ, ◌<◌}
use native.Mathlib.Omega.{arith}
use lib.Dec.{T}
use lib.IntN.{ℤ, pos, neg_ℤ, ◌-ℤ◌, ◌*ℤ◌, *ℤ_comm, zero-*ℤ}
use lib.Signed.{le_z, lt_z, le_z_yes, lt_z_yes, ◌≤ℤ◌, ◌<ℤ◌}
use Rattle.laws.proofs.TestLaws.{T_and, T-and-left, T-and-right, cond_yes, cond_no}
use Rattle.integers.proofs.RingLaws.{at, lit, neg, minus, eq-of-linear, negℤ-*ℤ, *ℤ-negℤ, *ℤ-left-comm, *ℤ--ℤ}
use Rattle.integers.proofs.OrderLaws.{le-of-linear, linear-of-le, lt-of-linear, linear-of-lt, lt_of_not_le, not_le_of_lt, lt_z_not_le_z, le_z-linear, lt_z-linear, times-lt, lt-of-times, eq-of-times, nat-of-lt}
use Rattle.geometry.specs.declared.Point.{Point}
use Rattle.geometry.specs.Plane.{OnSegment, CrossesRight}
use Rattle.geometry.specs.Tests.{cross, between, is_zero, on_segment, crosses}
use Rattle.geometry.proofs.FractionLaws.{Ratio, ratio-of-le, ratio-of-ge, times-of-ratio, neg-crosswise, is_zero-of-eq, eq-of-is_zero, fraction-of-between, between-of-fraction}

-- ---- a point on a segment

-- two steps that are the same fraction of two others have the same products crosswise
pub crosswise-of-fraction : (u v q r : ℤ) (n : ℕ) {d : ℕ} → 0 < d → pos d *ℤ r ≡ pos n *ℤ u → pos d *ℤ q ≡ pos n *ℤ v → u *ℤ q ≡ v *ℤ r
crosswise-of-fraction u v q r n {d} some e f =
    eq-of-times d some
    (*ℤ-left-comm (pos d) u q ∙
    ap (λ z. u *ℤ z) f ∙
    *ℤ-left-comm u (pos n) v ∙
    ap (λ z. pos n *ℤ z) (*ℤ_comm u v) ∙
    *ℤ-left-comm (pos n) v u ∙
    ap (λ z. v *ℤ z) (sym e) ∙
    *ℤ-left-comm v (pos d) r)

-- a point of the segment passes the test
pub test-of-on_segment : {a b p : Point} → OnSegment a b p → T (on_segment a b p)
unfolding on_segment cross
test-of-on_segment {a} {b} {p} s =
    T_and
    (is_zero (cross a b p))
    (between a.x b.x p.x && between a.y b.y p.y)
    (is_zero-of-eq
    ((b.x -ℤ a.x) *ℤ (p.y -ℤ a.y))
    ((b.y -ℤ a.y) *ℤ (p.x -ℤ a.x))
    (crosswise-of-fraction (b.x -ℤ a.x) (b.y -ℤ a.y) (p.y -ℤ a.y) (p.x -ℤ a.x) s.n s.some s.across s.up))
    (T_and
    (between a.x b.x p.x)
    (between a.y b.y p.y)
    (between-of-fraction a.x b.x p.x s.some s.part s.across)
    (between-of-fraction a.y b.y p.y s.some s.part s.up))

-- a point that passes the test is one of the segment
pub on_segment-of-test : (a b p : Point) → T (on_segment a b p) → OnSegment a b p
unfolding on_segment cross
on_segment-of-test a b p h = by-x (fraction-of-between a.x b.x p.x between-x)
  where
    u : ℤ
    u = b.x -ℤ a.x

    v : ℤ
    v = b.y -ℤ a.y

    q : ℤ
    q = p.y -ℤ a.y

    r : ℤ
    r = p.x -ℤ a.x

    between-x : T (between a.x b.x p.x)
    between-x = T-and-left (between a.x b.x p.x) (between a.y b.y p.y) (T-and-right (is_zero (cross a b p)) (between a.x b.x p.x && between a.y b.y p.y) h)

    between-y : T (between a.y b.y p.y)
    between-y = T-and-right (between a.x b.x p.x) (between a.y b.y p.y) (T-and-right (is_zero (cross a b p)) (between a.x b.x p.x && between a.y b.y p.y) h)

    crosswise : u *ℤ q ≡ v *ℤ r
    crosswise = eq-of-is_zero (u *ℤ q) (v *ℤ r) (T-and-left (is_zero (cross a b p)) (between a.x b.x p.x && between a.y b.y p.y) h)

    by-y : r ≡ pos 0 → ((v ≡ pos 0) × (q ≡ pos 0)) ⊎ (Ratio v q ⊎ Ratio (neg_ℤ v) (neg_ℤ q)) → OnSegment a b p
    by-y e (inl (_, g)) =
        record { n = 0; d = 1; some = omega arith; part = omega arith; across = ap (λ z. pos 1 *ℤ z) e ∙ sym (zero-*ℤ u); up = ap (λ z. pos 1 *ℤ z) g ∙ sym (zero-*ℤ v) }
    by-y e (inr (inl f)) =
        record { n = f.n; d = f.d; some = f.some; part = f.part; across = times-of-ratio f r u (sym crosswise); up = times-of-ratio f q v refl }
    by-y e (inr (inr f)) =
        record { n = f.n; d = f.d; some = f.some; part = f.part; across = times-of-ratio f r u (neg-crosswise v q r u (sym crosswise)); up = times-of-ratio f q v (neg-crosswise v q q v refl) }

    by-x : ((u ≡ pos 0) × (r ≡ pos 0)) ⊎ (Ratio u r ⊎ Ratio (neg_ℤ u) (neg_ℤ r)) → OnSegment a b p
    by-x (inl (_, g)) = by-y g (fraction-of-between a.y b.y p.y between-y)
    by-x (inr (inl f)) =
        record { n = f.n; d = f.d; some = f.some; part = f.part; across = times-of-ratio f r u refl; up = times-of-ratio f q v crosswise }
    by-x (inr (inr f)) =
        record { n = f.n; d = f.d; some = f.some; part = f.part; across = times-of-ratio f r u (neg-crosswise u r r u refl); up = times-of-ratio f q v (neg-crosswise u r q v crosswise) }

-- the points of a segment are those that pass its test
pub on_segment-iff : (a b p : Point) → T (on_segment a b p) ↔ OnSegment a b p
on_segment-iff a b p = (on_segment-of-test a b p, test-of-on_segment)

-- ---- a segment that crosses to the right

-- a choice that holds does so by one of its arms
T-cond : (b s t : Bool) → T (cond b s t) → (T b × T s) ⊎ (T (not b) × T t)
T-cond true s t h = inl (tt, h)
T-cond false s t h = inr (tt, h)

-- v is above 0, q is n / d of it, and r is below n / d of u: the products crosswise are in that order
crosswise-lt : (u v q r : ℤ) (n d : ℕ) → pos 0 <ℤ v → pos d *ℤ q ≡ pos n *ℤ v → (pos d *ℤ r) <ℤ (pos n *ℤ u) → (v *ℤ r) <ℤ (u *ℤ q)
crosswise-lt u v q r n d h level right = make (nat-of-lt h)
  where
    make : (k : ℕ) × (0 < k) × (v ≡ pos k) → (v *ℤ r) <ℤ (u *ℤ q)
    make (k, some, e) = lt-of-times d (subst (λ z. z <ℤ (pos d *ℤ (u *ℤ q))) left (subst (λ z. (pos k *ℤ (pos d *ℤ r)) <ℤ z) same (times-lt k some right)))
      where
        left : pos k *ℤ (pos d *ℤ r) ≡ pos d *ℤ (v *ℤ r)
        left = *ℤ-left-comm (pos k) (pos d) r ∙ ap (λ z. pos d *ℤ (z *ℤ r)) (sym e)

        same : pos k *ℤ (pos n *ℤ u) ≡ pos d *ℤ (u *ℤ q)
        same =
            ap (λ z. z *ℤ (pos n *ℤ u)) (sym e) ∙
            *ℤ-left-comm v (pos n) u ∙
            ap (λ z. pos n *ℤ z) (*ℤ_comm v u) ∙
            *ℤ-left-comm (pos n) u v ∙
            ap (λ z. u *ℤ z) (sym level) ∙
            *ℤ-left-comm u (pos d) q

-- a segment that crosses passes the test
pub test-of-crosses : {a b p : Point} → CrossesRight a b p → T (crosses a b p)
unfolding crosses cross
test-of-crosses {a} {b} {p} (one, s) = ⊎_elim rises falls one
  where
    u : ℤ
    u = b.x -ℤ a.x

    v : ℤ
    v = b.y -ℤ a.y

    q : ℤ
    q = p.y -ℤ a.y

    r : ℤ
    r = p.x -ℤ a.x

    rises : (a.y ≤ℤ p.y) × (p.y <ℤ b.y) → T (crosses a b p)
    rises (h, k) =
        cond_yes T (le_z a.y p.y) (le_z b.y p.y && lt_z (cross a b p) (pos 0)) h.le
        (T_and (lt_z p.y b.y) (lt_z (pos 0) (cross a b p)) k.lt
        (lt-of-linear (lit 0) (minus (at (u *ℤ q)) (at (v *ℤ r)))
        (omega (arith, linear-of-lt (at (v *ℤ r)) (at (u *ℤ q)) (crosswise-lt u v q r s.n s.d up s.level s.right)))).lt)
      where
        up : pos 0 <ℤ v
        up = lt-of-linear (lit 0) (minus (at b.y) (at a.y)) (omega (arith, linear-of-le (at a.y) (at p.y) h, linear-of-lt (at p.y) (at b.y) k))

    falls : (b.y ≤ℤ p.y) × (p.y <ℤ a.y) → T (crosses a b p)
    falls (h, k) =
        cond_no T (le_z a.y p.y) (lt_z p.y b.y && lt_z (pos 0) (cross a b p)) (not_le_of_lt k)
        (T_and (le_z b.y p.y) (lt_z (cross a b p) (pos 0)) h.le
        (lt-of-linear (minus (at (u *ℤ q)) (at (v *ℤ r))) (lit 0)
        (omega (arith, linear-of-lt (neg (at (v *ℤ r))) (neg (at (u *ℤ q))) turned))).lt)
      where
        down : pos 0 <ℤ neg_ℤ v
        down = lt-of-linear (lit 0) (neg (minus (at b.y) (at a.y))) (omega (arith, linear-of-le (at b.y) (at p.y) h, linear-of-lt (at p.y) (at a.y) k))

        level : pos s.d *ℤ neg_ℤ q ≡ pos s.n *ℤ neg_ℤ v
        level = *ℤ-negℤ (pos s.d) q ∙ ap neg_ℤ s.level ∙ sym (*ℤ-negℤ (pos s.n) v)

        turned : neg_ℤ (v *ℤ r) <ℤ neg_ℤ (u *ℤ q)
        turned = subst (λ z. z <ℤ neg_ℤ (u *ℤ q)) (negℤ-*ℤ v r) (subst (λ z. (neg_ℤ v *ℤ r) <ℤ z) (*ℤ-negℤ u q) (crosswise-lt u (neg_ℤ v) (neg_ℤ q) r s.n s.d down level s.right))

-- a segment that passes the test crosses
pub crosses-of-test : (a b p : Point) → T (crosses a b p) → CrossesRight a b p
unfolding crosses cross
crosses-of-test a b p h =
    ⊎_elim rises falls (T-cond (le_z a.y p.y) (lt_z p.y b.y && lt_z (pos 0) (cross a b p)) (le_z b.y p.y && lt_z (cross a b p) (pos 0)) h)
  where
    u : ℤ
    u = b.x -ℤ a.x

    v : ℤ
    v = b.y -ℤ a.y

    q : ℤ
    q = p.y -ℤ a.y

    r : ℤ
    r = p.x -ℤ a.x

    rises : T (le_z a.y p.y) × T (lt_z p.y b.y && lt_z (pos 0) (cross a b p)) → CrossesRight a b p
    rises (h, t) = (inl (low, high), record { n = f.n; d = f.d; some = f.some; part = f.part; level = times-of-ratio f q v refl; right = right })
      where
        low : a.y ≤ℤ p.y
        low = le_z_yes h

        high : p.y <ℤ b.y
        high = lt_z_yes (T-and-left (lt_z p.y b.y) (lt_z (pos 0) (cross a b p)) t)

        over : pos 0 <ℤ (u *ℤ q -ℤ v *ℤ r)
        over = lt_z_yes (T-and-right (lt_z p.y b.y) (lt_z (pos 0) (cross a b p)) t)

        f : Ratio v q
        f =
            ratio-of-le
            (le-of-linear (lit 0) (minus (at p.y) (at a.y)) (omega (arith, linear-of-le (at a.y) (at p.y) low)))
            (le-of-linear (minus (at p.y) (at a.y)) (minus (at b.y) (at a.y)) (omega (arith, linear-of-lt (at p.y) (at b.y) high)))
            (lt-of-linear (lit 0) (minus (at b.y) (at a.y)) (omega (arith, linear-of-le (at a.y) (at p.y) low, linear-of-lt (at p.y) (at b.y) high)))

        right : (pos f.d *ℤ r) <ℤ (pos f.n *ℤ u)
        right =
            subst (λ z. (pos f.d *ℤ r) <ℤ z) (*ℤ_comm u q ∙ ap (λ z. z *ℤ u) (sym f.piece))
            (subst (λ z. (z *ℤ r) <ℤ (u *ℤ q)) (sym f.whole)
            (lt-of-linear (at (v *ℤ r)) (at (u *ℤ q)) (omega (arith, linear-of-lt (lit 0) (minus (at (u *ℤ q)) (at (v *ℤ r))) over))))

    falls : T (not (le_z a.y p.y)) × T (le_z b.y p.y && lt_z (cross a b p) (pos 0)) → CrossesRight a b p
    falls (h, t) = (inr (low, high), record { n = f.n; d = f.d; some = f.some; part = f.part; level = times-of-ratio f q v (neg-crosswise v q q v refl); right = right })
      where
        low : b.y ≤ℤ p.y
        low = le_z_yes (T-and-left (le_z b.y p.y) (lt_z (cross a b p) (pos 0)) t)

        high : p.y <ℤ a.y
        high = lt_of_not_le a.y p.y h

        under : (u *ℤ q -ℤ v *ℤ r) <ℤ pos 0
        under = lt_z_yes (T-and-right (le_z b.y p.y) (lt_z (cross a b p) (pos 0)) t)

        f : Ratio (neg_ℤ v) (neg_ℤ q)
        f =
            ratio-of-ge v q
            (le-of-linear (minus (at p.y) (at a.y)) (lit 0) (omega (arith, linear-of-lt (at p.y) (at a.y) high)))
            (le-of-linear (minus (at b.y) (at a.y)) (minus (at p.y) (at a.y)) (omega (arith, linear-of-le (at b.y) (at p.y) low)))
            (lt-of-linear (minus (at b.y) (at a.y)) (lit 0) (omega (arith, linear-of-le (at b.y) (at p.y) low, linear-of-lt (at p.y) (at a.y) high)))

        right : (pos f.d *ℤ r) <ℤ (pos f.n *ℤ u)
        right =
            subst (λ z. (pos f.d *ℤ r) <ℤ z) (sym (*ℤ-negℤ u q) ∙ *ℤ_comm u (neg_ℤ q) ∙ ap (λ z. z *ℤ u) (sym f.piece))
            (subst (λ z. z <ℤ neg_ℤ (u *ℤ q)) (sym (negℤ-*ℤ v r) ∙ ap (λ z. z *ℤ r) (sym f.whole))
            (lt-of-linear (neg (at (v *ℤ r))) (neg (at (u *ℤ q))) (omega (arith, linear-of-lt (minus (at (u *ℤ q)) (at (v *ℤ r))) (lit 0) under))))

-- the segments that cross are those that pass the test
pub crosses-iff : (a b p : Point) → T (crosses a b p) ↔ CrossesRight a b p
crosses-iff a b p = (crosses-of-test a b p, test-of-crosses)

-- ---- the ends change places

-- the cross product changes its sign
pub cross-swap : (a b p : Point) → cross b a p ≡ neg_ℤ (cross a b p)
unfolding cross
cross-swap a b p =
    ap (λ z. z *ℤ (p.y -ℤ b.y) -ℤ (a.y -ℤ b.y) *ℤ (p.x -ℤ b.x)) (back a.x b.x) ∙
    ap (λ z. neg_ℤ u *ℤ z -ℤ (a.y -ℤ b.y) *ℤ (p.x -ℤ b.x)) (less a.y b.y p.y) ∙
    ap (λ z. neg_ℤ u *ℤ (q -ℤ v) -ℤ z *ℤ (p.x -ℤ b.x)) (back a.y b.y) ∙
    ap (λ z. neg_ℤ u *ℤ (q -ℤ v) -ℤ neg_ℤ v *ℤ z) (less a.x b.x p.x) ∙
    cc (negℤ-*ℤ u (q -ℤ v), *ℤ--ℤ u q v, negℤ-*ℤ v (r -ℤ u), *ℤ--ℤ v r u, *ℤ_comm v u) ∙
    eq-of-linear
    (minus (neg (minus (at (u *ℤ q)) (at (u *ℤ v)))) (neg (minus (at (v *ℤ r)) (at (u *ℤ v)))))
    (neg (minus (at (u *ℤ q)) (at (v *ℤ r))))
    (omega arith)
  where
    u : ℤ
    u = b.x -ℤ a.x

    v : ℤ
    v = b.y -ℤ a.y

    q : ℤ
    q = p.y -ℤ a.y

    r : ℤ
    r = p.x -ℤ a.x

    back : (m k : ℤ) → m -ℤ k ≡ neg_ℤ (k -ℤ m)
    back m k = eq-of-linear (minus (at m) (at k)) (neg (minus (at k) (at m))) (omega arith)

    less : (m k l : ℤ) → l -ℤ k ≡ (l -ℤ m) -ℤ (k -ℤ m)
    less m k l = eq-of-linear (minus (at l) (at k)) (minus (minus (at l) (at m)) (minus (at k) (at m))) (omega arith)

-- a number is 0 where its negation is
is_zero-neg : (z : ℤ) → is_zero (neg_ℤ z) ≡ is_zero z
unfolding is_zero
is_zero-neg z = cc (below, above, and_comm (le_z (pos 0) z) (le_z z (pos 0)))
  where
    below : le_z (neg_ℤ z) (pos 0) ≡ le_z (pos 0) z
    below = le_z-linear (neg (at z)) (lit 0) (lit 0) (at z) (λ h. omega arith) (λ h. omega arith)

    above : le_z (pos 0) (neg_ℤ z) ≡ le_z z (pos 0)
    above = le_z-linear (lit 0) (neg (at z)) (at z) (lit 0) (λ h. omega arith) (λ h. omega arith)

between-swap : (a b p : ℤ) → between b a p ≡ between a b p
unfolding between
between-swap a b p = or_comm (le_z b p && le_z p a) (le_z a p && le_z p b)

-- a point is on a segment from either end
pub on_segment-swap : (a b p : Point) → on_segment a b p ≡ on_segment b a p
unfolding on_segment
on_segment-swap a b p = cc (cross-swap a b p, is_zero-neg (cross a b p), between-swap a.x b.x p.x, between-swap a.y b.y p.y)

-- the choice that `crosses` makes, by the two heights and the sign of the cross product, is the same either way
choice-swap : (s t m n : Bool) → cond s (not t && m) (t && n) ≡ cond t (not s && n) (s && m)
choice-swap true true m n = refl
choice-swap true false m n = refl
choice-swap false true m n = refl
choice-swap false false m n = refl

-- a segment crosses from either end
pub crosses-swap : (a b p : Point) → crosses a b p ≡ crosses b a p
unfolding crosses
crosses-swap a b p =
    cc (
      choice-swap (le_z a.y p.y) (le_z b.y p.y) (lt_z (pos 0) (cross a b p)) (lt_z (cross a b p) (pos 0)),
      lt_z_not_le_z p.y b.y,
      lt_z_not_le_z p.y a.y,
      cross-swap a b p,
      below,
      above,
    )
  where
    below : lt_z (neg_ℤ (cross a b p)) (pos 0) ≡ lt_z (pos 0) (cross a b p)
    below = lt_z-linear (neg (at (cross a b p))) (lit 0) (lit 0) (at (cross a b p)) (λ h. omega arith) (λ h. omega arith)

    above : lt_z (pos 0) (neg_ℤ (cross a b p)) ≡ lt_z (cross a b p) (pos 0)
    above = lt_z-linear (lit 0) (neg (at (cross a b p))) (at (cross a b p)) (lit 0) (λ h. omega arith) (λ h. omega arith)
