-- Fractions of a number, and the tests `is_zero` and `between` of whole numbers. Assumes nothing.
use mathlib.Core.Bool.{◌&&◌}
use mathlib.Core.Logic.{◌⊎◌, inl, inr, ⊎_elim}
use mathlib.Core.Path.{◌≡◌, sym, ap, subst, ◌∙◌}
use Prim.Native.Nat.{ℕ, ◌≤◌, ◌<◌}
use native.Mathlib.Omega.{arith}
use lib.Dec.{T, leb→le}
use lib.IntN.{ℤ, pos, neg_ℤ, ◌-ℤ◌, ◌*ℤ◌, *ℤ_comm, *ℤ-zero}
use lib.Signed.{le_z, le_z_yes, ◌≤ℤ◌, ◌<ℤ◌}
use Rattle.laws.proofs.TestLaws.{T_and, T-and-left, T-and-right, T-or-elim, T-or-left, T-or-right}
use Rattle.integers.proofs.RingLaws.{at, lit, neg, minus, eq-of-linear, linear-of-eq, negℤ-*ℤ, *ℤ-negℤ}
use Rattle.integers.proofs.OrderLaws.{le-of-linear, linear-of-le, lt-of-linear, linear-of-lt, le-or-gt, times-le, le-of-times, times-le-times, nat-of-le, nat-of-lt}
use Rattle.geometry.specs.Tests.{between, is_zero}

-- ---- fractions of a way

-- u is above 0, and r is from 0 to u: two numbers from ℕ
pub record Ratio (u r : ℤ) : Type 0 where
  pub n : ℕ
  pub d : ℕ
  pub some : 0 < d
  pub part : n ≤ d
  pub whole : pos d ≡ u
  pub piece : pos n ≡ r

-- a number above 0, and one from 0 to it, have a ratio
pub ratio-of-le : {u r : ℤ} → pos 0 ≤ℤ r → r ≤ℤ u → pos 0 <ℤ u → Ratio u r
ratio-of-le {u} {r} h k g = make (nat-of-le h) (nat-of-lt g)
  where
    make : (n : ℕ) × (r ≡ pos n) → (d : ℕ) × (0 < d) × (u ≡ pos d) → Ratio u r
    make (n, e) (d, some, f) =
        record { n = n; d = d; some = some; part = leb→le n d (subst (λ z. z ≤ℤ pos d) e (subst (λ z. r ≤ℤ z) f k)).le; whole = sym f; piece = sym e }

-- a number below 0, and one from it to 0, have a ratio as they are negated
pub ratio-of-ge : (u r : ℤ) → r ≤ℤ pos 0 → u ≤ℤ r → u <ℤ pos 0 → Ratio (neg_ℤ u) (neg_ℤ r)
ratio-of-ge u r h k g =
    ratio-of-le
    (le-of-linear (lit 0) (neg (at r)) (omega (arith, linear-of-le (at r) (lit 0) h)))
    (le-of-linear (neg (at r)) (neg (at u)) (omega (arith, linear-of-le (at u) (at r) k)))
    (lt-of-linear (lit 0) (neg (at u)) (omega (arith, linear-of-lt (at u) (lit 0) g)))

-- where u times q is v times r, q is the same fraction of v as r is of u
pub times-of-ratio : {u r : ℤ} (f : Ratio u r) (q v : ℤ) → u *ℤ q ≡ v *ℤ r → pos f.d *ℤ q ≡ pos f.n *ℤ v
times-of-ratio {u} {r} f q v h = ap (λ z. z *ℤ q) f.whole ∙ h ∙ *ℤ_comm v r ∙ ap (λ z. z *ℤ v) (sym f.piece)

-- the products crosswise, with u and r negated, are equal where they were
pub neg-crosswise : (u r q v : ℤ) → u *ℤ q ≡ v *ℤ r → neg_ℤ u *ℤ q ≡ v *ℤ neg_ℤ r
neg-crosswise u r q v h = negℤ-*ℤ u q ∙ ap neg_ℤ h ∙ sym (*ℤ-negℤ v r)

-- a fraction of a number from 0 up is from 0 to that number
fraction-range : (u r : ℤ) {n d : ℕ} → 0 < d → n ≤ d → pos d *ℤ r ≡ pos n *ℤ u → pos 0 ≤ℤ u → (pos 0 ≤ℤ r) × (r ≤ℤ u)
fraction-range u r {n} {d} some part e h = (
  le-of-times d some (subst (λ z. z ≤ℤ (pos d *ℤ r)) (sym (*ℤ-zero (pos d))) (subst (λ z. pos 0 ≤ℤ z) (sym e) nonneg)),
  le-of-times d some (subst (λ z. z ≤ℤ (pos d *ℤ u)) (sym e) (times-le-times part h)),
)
  where
    nonneg : pos 0 ≤ℤ (pos n *ℤ u)
    nonneg = subst (λ z. z ≤ℤ (pos n *ℤ u)) (*ℤ-zero (pos n)) (times-le n h)

-- ---- the tests of numbers

-- the difference of equal numbers is 0
pub is_zero-of-eq : (z w : ℤ) → z ≡ w → T (is_zero (z -ℤ w))
unfolding is_zero
is_zero-of-eq z w e =
    T_and
    (le_z (z -ℤ w) (pos 0))
    (le_z (pos 0) (z -ℤ w))
    (le-of-linear (minus (at z) (at w)) (lit 0) (omega (arith, linear-of-eq (at z) (at w) e))).le
    (le-of-linear (lit 0) (minus (at z) (at w)) (omega (arith, linear-of-eq (at z) (at w) e))).le

-- numbers whose difference is 0 are equal
pub eq-of-is_zero : (z w : ℤ) → T (is_zero (z -ℤ w)) → z ≡ w
unfolding is_zero
eq-of-is_zero z w h =
    eq-of-linear
    (at z)
    (at w)
    (omega (
      arith,
      linear-of-le (minus (at z) (at w)) (lit 0) (le_z_yes (T-and-left (le_z (z -ℤ w) (pos 0)) (le_z (pos 0) (z -ℤ w)) h)),
      linear-of-le (lit 0) (minus (at z) (at w)) (le_z_yes (T-and-right (le_z (z -ℤ w) (pos 0)) (le_z (pos 0) (z -ℤ w)) h)),
    ))

-- a number between two is from the first to the second, or from the second to the first
pub between-cases : {X : Type 0} (a b p : ℤ) → (a ≤ℤ p → p ≤ℤ b → X) → (b ≤ℤ p → p ≤ℤ a → X) → T (between a b p) → X
unfolding between
between-cases a b p f g h =
    T-or-elim
    (le_z a p && le_z p b)
    (le_z b p && le_z p a)
    (λ t. f (le_z_yes (T-and-left (le_z a p) (le_z p b) t)) (le_z_yes (T-and-right (le_z a p) (le_z p b) t)))
    (λ t. g (le_z_yes (T-and-left (le_z b p) (le_z p a) t)) (le_z_yes (T-and-right (le_z b p) (le_z p a) t)))
    h

-- a number from the first to the second is between them, and so is one from the second to the first
pub between-up : {a b p : ℤ} → a ≤ℤ p → p ≤ℤ b → T (between a b p)
unfolding between
between-up {a} {b} {p} h k = T-or-left (le_z a p && le_z p b) (le_z b p && le_z p a) (T_and (le_z a p) (le_z p b) h.le k.le)

pub between-down : {a b p : ℤ} → b ≤ℤ p → p ≤ℤ a → T (between a b p)
unfolding between
between-down {a} {b} {p} h k = T-or-right (le_z a p && le_z p b) (le_z b p && le_z p a) (T_and (le_z b p) (le_z p a) h.le k.le)

-- a number between two lies a fraction of the way from the first, or all three are the same
pub fraction-of-between : (a b p : ℤ) → T (between a b p) → ((b -ℤ a ≡ pos 0) × (p -ℤ a ≡ pos 0)) ⊎ (Ratio (b -ℤ a) (p -ℤ a) ⊎ Ratio (neg_ℤ (b -ℤ a)) (neg_ℤ (p -ℤ a)))
fraction-of-between a b p h = between-cases a b p up down h
  where
    up : a ≤ℤ p → p ≤ℤ b → ((b -ℤ a ≡ pos 0) × (p -ℤ a ≡ pos 0)) ⊎ (Ratio (b -ℤ a) (p -ℤ a) ⊎ Ratio (neg_ℤ (b -ℤ a)) (neg_ℤ (p -ℤ a)))
    up h k =
        ⊎_elim
        (λ (g : b ≤ℤ a). inl (
          eq-of-linear (minus (at b) (at a)) (lit 0) (omega (arith, linear-of-le (at a) (at p) h, linear-of-le (at p) (at b) k, linear-of-le (at b) (at a) g)),
          eq-of-linear (minus (at p) (at a)) (lit 0) (omega (arith, linear-of-le (at a) (at p) h, linear-of-le (at p) (at b) k, linear-of-le (at b) (at a) g)),
        ))
        (λ (g : a <ℤ b). inr
        (inl (ratio-of-le
        (le-of-linear (lit 0) (minus (at p) (at a)) (omega (arith, linear-of-le (at a) (at p) h)))
        (le-of-linear (minus (at p) (at a)) (minus (at b) (at a)) (omega (arith, linear-of-le (at p) (at b) k)))
        (lt-of-linear (lit 0) (minus (at b) (at a)) (omega (arith, linear-of-lt (at a) (at b) g))))))
        (le-or-gt b a)

    down : b ≤ℤ p → p ≤ℤ a → ((b -ℤ a ≡ pos 0) × (p -ℤ a ≡ pos 0)) ⊎ (Ratio (b -ℤ a) (p -ℤ a) ⊎ Ratio (neg_ℤ (b -ℤ a)) (neg_ℤ (p -ℤ a)))
    down h k =
        ⊎_elim
        (λ (g : a ≤ℤ b). inl (
          eq-of-linear (minus (at b) (at a)) (lit 0) (omega (arith, linear-of-le (at b) (at p) h, linear-of-le (at p) (at a) k, linear-of-le (at a) (at b) g)),
          eq-of-linear (minus (at p) (at a)) (lit 0) (omega (arith, linear-of-le (at b) (at p) h, linear-of-le (at p) (at a) k, linear-of-le (at a) (at b) g)),
        ))
        (λ (g : b <ℤ a). inr
        (inr (ratio-of-ge (b -ℤ a) (p -ℤ a)
        (le-of-linear (minus (at p) (at a)) (lit 0) (omega (arith, linear-of-le (at p) (at a) k)))
        (le-of-linear (minus (at b) (at a)) (minus (at p) (at a)) (omega (arith, linear-of-le (at b) (at p) h)))
        (lt-of-linear (minus (at b) (at a)) (lit 0) (omega (arith, linear-of-lt (at b) (at a) g))))))
        (le-or-gt a b)

-- a number a fraction of the way from a to b is between them
pub between-of-fraction : (a b p : ℤ) {n d : ℕ} → 0 < d → n ≤ d → pos d *ℤ (p -ℤ a) ≡ pos n *ℤ (b -ℤ a) → T (between a b p)
between-of-fraction a b p {n} {d} some part e = ⊎_elim up down (le-or-gt a b)
  where
    up : a ≤ℤ b → T (between a b p)
    up h =
        let r : (pos 0 ≤ℤ (p -ℤ a)) × ((p -ℤ a) ≤ℤ (b -ℤ a)) =
        fraction-range (b -ℤ a) (p -ℤ a) some part e (le-of-linear (lit 0) (minus (at b) (at a)) (omega (arith, linear-of-le (at a) (at b) h))) in
        between-up
        (le-of-linear (at a) (at p) (omega (arith, linear-of-le (lit 0) (minus (at p) (at a)) r.0)))
        (le-of-linear (at p) (at b) (omega (arith, linear-of-le (minus (at p) (at a)) (minus (at b) (at a)) r.1)))

    turned : pos d *ℤ neg_ℤ (p -ℤ a) ≡ pos n *ℤ neg_ℤ (b -ℤ a)
    turned = *ℤ-negℤ (pos d) (p -ℤ a) ∙ ap neg_ℤ e ∙ sym (*ℤ-negℤ (pos n) (b -ℤ a))

    down : b <ℤ a → T (between a b p)
    down h =
        let r : (pos 0 ≤ℤ neg_ℤ (p -ℤ a)) × (neg_ℤ (p -ℤ a) ≤ℤ neg_ℤ (b -ℤ a)) =
        fraction-range (neg_ℤ (b -ℤ a)) (neg_ℤ (p -ℤ a)) some part turned (le-of-linear (lit 0) (neg (minus (at b) (at a))) (omega (arith, linear-of-lt (at b) (at a) h))) in
        between-down
        (le-of-linear (at b) (at p) (omega (arith, linear-of-le (neg (minus (at p) (at a))) (neg (minus (at b) (at a))) r.1)))
        (le-of-linear (at p) (at a) (omega (arith, linear-of-le (lit 0) (neg (minus (at p) (at a))) r.0)))
