-- The order of whole numbers, with sums and products, and its facts on sums by linear arithmetic on ℕ. Assumes nothing.
use mathlib.Core.Bool.{Bool, true, false, not}
use mathlib.Core.Logic.{◌⊎◌, inl, inr}
use mathlib.Core.Path.{◌≡◌, refl, sym, subst}
use Prim.Native.Nat.{ℕ, zero, suc, ◌+◌, ◌*◌, ◌≤◌, ◌<◌, zero-le}
use native.Mathlib.Nat.{mul-add, mul-pos, mul-le-mul_left, mul-le-mul_right, mul-lt-mul_of_pos_left, le_of_mul-le-mul_left, lt_of_mul-lt-mul_left}
use native.Mathlib.Omega.{arith}
use lib.Dec.{T, leb→le, le→leb, ltb→lt, lt→ltb}
use lib.IntN.{ℤ, pos, negsuc, neg_ℤ, ◌-ℤ◌, ◌*ℤ◌}
use lib.Signed.{le_z, lt_z, le_z_yes, lt_z_yes, lt_z_no, ◌≤ℤ◌, ◌<ℤ◌, ≤ℤ_refl, clash_ℤ}
use Rattle.integers.proofs.RingLaws.{pos_part, neg_part, pos_part-times, neg_part-times, Linear, at, lit, neg, minus, value, ups, downs, parts-value, eq-of-linear}

-- ---- the order by parts

-- the order of two numbers is that of the sums crosswise of their parts
pub parts-of-le_z : (z w : ℤ) → T (le_z z w) → pos_part z + neg_part w ≤ pos_part w + neg_part z
unfolding pos_part neg_part
parts-of-le_z (pos m) (pos n) h = omega (arith, leb→le m n h)
parts-of-le_z (pos m) (negsuc n) h = absurd h
parts-of-le_z (negsuc m) (pos n) h = omega arith
parts-of-le_z (negsuc m) (negsuc n) h = omega (arith, leb→le n m h)

pub le_z-of-parts : (z w : ℤ) → pos_part z + neg_part w ≤ pos_part w + neg_part z → T (le_z z w)
unfolding pos_part neg_part
le_z-of-parts (pos m) (pos n) h = le→leb m n (omega arith)
le_z-of-parts (pos m) (negsuc n) h = absurd (omega arith)
le_z-of-parts (negsuc m) (pos n) h = tt
le_z-of-parts (negsuc m) (negsuc n) h = le→leb n m (omega arith)

pub parts-of-lt_z : (z w : ℤ) → T (lt_z z w) → pos_part z + neg_part w < pos_part w + neg_part z
unfolding pos_part neg_part
parts-of-lt_z (pos m) (pos n) h = omega (arith, ltb→lt m n h)
parts-of-lt_z (pos m) (negsuc n) h = absurd h
parts-of-lt_z (negsuc m) (pos n) h = omega arith
parts-of-lt_z (negsuc m) (negsuc n) h = omega (arith, ltb→lt n m h)

pub lt_z-of-parts : (z w : ℤ) → pos_part z + neg_part w < pos_part w + neg_part z → T (lt_z z w)
unfolding pos_part neg_part
lt_z-of-parts (pos m) (pos n) h = lt→ltb m n (omega arith)
lt_z-of-parts (pos m) (negsuc n) h = absurd (omega arith)
lt_z-of-parts (negsuc m) (pos n) h = tt
lt_z-of-parts (negsuc m) (negsuc n) h = lt→ltb n m (omega arith)

-- ---- linear expressions

-- an order of linear expressions, from one on ℕ, and the other way round
pub le-of-linear : (l m : Linear) → ups l + downs m ≤ ups m + downs l → value l ≤ℤ value m
le-of-linear l m h = le_z_yes (le_z-of-parts (value l) (value m) (omega (arith, parts-value l, parts-value m)))

pub linear-of-le : (l m : Linear) → value l ≤ℤ value m → ups l + downs m ≤ ups m + downs l
linear-of-le l m h = omega (arith, parts-value l, parts-value m, parts-of-le_z (value l) (value m) h.le)

pub lt-of-linear : (l m : Linear) → ups l + downs m < ups m + downs l → value l <ℤ value m
lt-of-linear l m h = lt_z_yes (lt_z-of-parts (value l) (value m) (omega (arith, parts-value l, parts-value m)))

pub linear-of-lt : (l m : Linear) → value l <ℤ value m → ups l + downs m < ups m + downs l
linear-of-lt l m h = omega (arith, parts-value l, parts-value m, parts-of-lt_z (value l) (value m) h.lt)

-- ---- the order

-- what is below is at most
pub le_of_lt : {a b : ℤ} → a <ℤ b → a ≤ℤ b
le_of_lt {a} {b} h = le-of-linear (at a) (at b) (omega (arith, linear-of-lt (at a) (at b) h))

-- the order is transitive
pub le_trans : {a b c : ℤ} → a ≤ℤ b → b ≤ℤ c → a ≤ℤ c
le_trans {a} {b} {c} h g =
    le-of-linear (at a) (at c) (omega (arith, linear-of-le (at a) (at b) h, linear-of-le (at b) (at c) g))

-- two numbers, each at most the other, are equal
pub eq-of-le-of-le : {a b : ℤ} → a ≤ℤ b → b ≤ℤ a → a ≡ b
eq-of-le-of-le {a} {b} h g =
    eq-of-linear (at a) (at b) (omega (arith, linear-of-le (at a) (at b) h, linear-of-le (at b) (at a) g))

-- of two numbers the first is at most the second, or above it
pub le-or-gt : (a b : ℤ) → (a ≤ℤ b) ⊎ (b <ℤ a)
le-or-gt a b = go (lt_z b a) refl
  where
    go : (t : Bool) → lt_z b a ≡ t → (a ≤ℤ b) ⊎ (b <ℤ a)
    go true e = inr (lt_z_yes (subst T (sym e) tt))
    go false e = inl (lt_z_no (subst (λ t. T (not t)) (sym e) tt))

-- a number is below another, equal to it or above it
pub trichotomy : (a b : ℤ) → (a <ℤ b) ⊎ ((a ≡ b) ⊎ (b <ℤ a))
trichotomy a b = further (le-or-gt a b) (le-or-gt b a)
  where
    further : (a ≤ℤ b) ⊎ (b <ℤ a) → (b ≤ℤ a) ⊎ (a <ℤ b) → (a <ℤ b) ⊎ ((a ≡ b) ⊎ (b <ℤ a))
    further (inr h) g = inr (inr h)
    further (inl h) (inr g) = inl g
    further (inl h) (inl g) = inr (inl (eq-of-le-of-le h g))

-- below is the negation of at least, as tests
pub lt_z_not_le_z : (a b : ℤ) → lt_z a b ≡ not (le_z b a)
lt_z_not_le_z a b = go (lt_z a b) (le_z b a) refl refl
  where
    go : (s t : Bool) → lt_z a b ≡ s → le_z b a ≡ t → s ≡ not t
    go true true e f = clash_ℤ (lt_z_yes {a = a} {b = b} (subst T (sym e) tt)) (le_z_yes (subst T (sym f) tt))
    go true false e f = refl
    go false true e f = refl
    go false false e f = absurd (subst T f (lt_z_no {a = a} {b = b} (subst (λ t. T (not t)) (sym e) tt)).le)

-- a test of at most that fails means above, and the other way round
pub lt_of_not_le : (a b : ℤ) → T (not (le_z a b)) → b <ℤ a
lt_of_not_le a b h = lt_z_yes (subst T (sym (lt_z_not_le_z b a)) h)

pub not_le_of_lt : {a b : ℤ} → b <ℤ a → T (not (le_z a b))
not_le_of_lt {a} {b} h = subst T (lt_z_not_le_z b a) h.lt

-- tests of which each follows from the other are equal
pub eq-of-iff : (s t : Bool) → (T s → T t) → (T t → T s) → s ≡ t
eq-of-iff true true f g = refl
eq-of-iff true false f g = absurd (f tt)
eq-of-iff false true f g = absurd (g tt)
eq-of-iff false false f g = refl

-- orders of linear expressions are the same test, where those on ℕ follow from one another
pub le_z-linear : (l m l' m' : Linear) → (ups l + downs m ≤ ups m + downs l → ups l' + downs m' ≤ ups m' + downs l') → (ups l' + downs m' ≤ ups m' + downs l' → ups l + downs m ≤ ups m + downs l) → le_z (value l) (value m) ≡ le_z (value l') (value m')
le_z-linear l m l' m' f g =
    eq-of-iff
    (le_z (value l) (value m))
    (le_z (value l') (value m'))
    (λ h. (le-of-linear l' m' (f (linear-of-le l m (le_z_yes h)))).le)
    (λ h. (le-of-linear l m (g (linear-of-le l' m' (le_z_yes h)))).le)

pub lt_z-linear : (l m l' m' : Linear) → (ups l + downs m < ups m + downs l → ups l' + downs m' < ups m' + downs l') → (ups l' + downs m' < ups m' + downs l' → ups l + downs m < ups m + downs l) → lt_z (value l) (value m) ≡ lt_z (value l') (value m')
lt_z-linear l m l' m' f g =
    eq-of-iff
    (lt_z (value l) (value m))
    (lt_z (value l') (value m'))
    (λ h. (lt-of-linear l' m' (f (linear-of-lt l m (lt_z_yes h)))).lt)
    (λ h. (lt-of-linear l m (g (linear-of-lt l' m' (lt_z_yes h)))).lt)

-- negation turns the order
pub le_z-neg : (a b : ℤ) → le_z (neg_ℤ a) (neg_ℤ b) ≡ le_z b a
le_z-neg a b = le_z-linear (neg (at a)) (neg (at b)) (at b) (at a) (λ h. omega arith) (λ h. omega arith)

pub lt_z-neg : (a b : ℤ) → lt_z (neg_ℤ a) (neg_ℤ b) ≡ lt_z b a
lt_z-neg a b = lt_z-linear (neg (at a)) (neg (at b)) (at b) (at a) (λ h. omega arith) (λ h. omega arith)

-- ---- differences

-- a number is below another exactly where their difference is above 0
pub lt-of-diff : {a b : ℤ} → pos 0 <ℤ (b -ℤ a) → a <ℤ b
lt-of-diff {a} {b} h = lt-of-linear (at a) (at b) (omega (arith, linear-of-lt (lit 0) (minus (at b) (at a)) h))

pub diff-of-lt : {a b : ℤ} → a <ℤ b → pos 0 <ℤ (b -ℤ a)
diff-of-lt {a} {b} h = lt-of-linear (lit 0) (minus (at b) (at a)) (omega (arith, linear-of-lt (at a) (at b) h))

-- ---- products with a number from ℕ

-- the sums crosswise of the parts of two multiples
parts-times : (d : ℕ) (a b : ℤ) → pos_part (pos d *ℤ a) + neg_part (pos d *ℤ b) ≡ d * (pos_part a + neg_part b)
parts-times d a b = omega (arith, pos_part-times d a, neg_part-times d b, mul-add d (pos_part a) (neg_part b))

-- a factor from ℕ keeps the order
pub times-le : (d : ℕ) {a b : ℤ} → a ≤ℤ b → (pos d *ℤ a) ≤ℤ (pos d *ℤ b)
times-le d {a} {b} h =
    le_z_yes (le_z-of-parts (pos d *ℤ a) (pos d *ℤ b) (rw (parts-times d a b, parts-times d b a) (mul-le-mul_left d (parts-of-le_z a b h.le))))

-- a positive factor from ℕ keeps the strict order
pub times-lt : (d : ℕ) {a b : ℤ} → 0 < d → a <ℤ b → (pos d *ℤ a) <ℤ (pos d *ℤ b)
times-lt d {a} {b} k h =
    lt_z_yes (lt_z-of-parts (pos d *ℤ a) (pos d *ℤ b) (rw (parts-times d a b, parts-times d b a) (mul-lt-mul_of_pos_left (parts-of-lt_z a b h.lt) k)))

-- a positive factor of both sides of an order cancels
pub le-of-times : (d : ℕ) {a b : ℤ} → 0 < d → (pos d *ℤ a) ≤ℤ (pos d *ℤ b) → a ≤ℤ b
le-of-times d {a} {b} k h =
    le_z_yes (le_z-of-parts a b (le_of_mul-le-mul_left {k = d} (rw (parts-times d a b, parts-times d b a) at (parts-of-le_z (pos d *ℤ a) (pos d *ℤ b) h.le)) k))

pub lt-of-times : (d : ℕ) {a b : ℤ} → (pos d *ℤ a) <ℤ (pos d *ℤ b) → a <ℤ b
lt-of-times d {a} {b} h =
    lt_z_yes (lt_z-of-parts a b (lt_of_mul-lt-mul_left d (rw (parts-times d a b, parts-times d b a) at (parts-of-lt_z (pos d *ℤ a) (pos d *ℤ b) h.lt))))

-- a positive factor of two equal products cancels
pub eq-of-times : (d : ℕ) {a b : ℤ} → 0 < d → pos d *ℤ a ≡ pos d *ℤ b → a ≡ b
eq-of-times d {a} {b} k e =
    eq-of-le-of-le (le-of-times d k (subst (λ z. (pos d *ℤ a) ≤ℤ z) e (≤ℤ_refl (pos d *ℤ a)))) (le-of-times d k (subst (λ z. z ≤ℤ (pos d *ℤ a)) e (≤ℤ_refl (pos d *ℤ a))))

-- a greater factor from ℕ makes a greater multiple of a number from 0 up
pub times-le-times : {n d : ℕ} {a : ℤ} → n ≤ d → pos 0 ≤ℤ a → (pos n *ℤ a) ≤ℤ (pos d *ℤ a)
times-le-times {n} {d} {a = pos a} h k = le_z_yes (le→leb (n * a) (d * a) (mul-le-mul_right a h))
times-le-times {n} {d} {a = negsuc a} h k = absurd k.le

-- ---- positive numbers

-- a number from 0 up is one from ℕ
pub nat-of-le : {a : ℤ} → pos 0 ≤ℤ a → (n : ℕ) × (a ≡ pos n)
nat-of-le {a = pos n} h = (n, refl)
nat-of-le {a = negsuc n} h = absurd h.le

-- a number above 0 is a positive one from ℕ
pub nat-of-lt : {a : ℤ} → pos 0 <ℤ a → (n : ℕ) × (0 < n) × (a ≡ pos n)
nat-of-lt {a = pos n} h = (n, ltb→lt 0 n h.lt, refl)
nat-of-lt {a = negsuc n} h = absurd h.lt

-- the product of two positive numbers is positive
pub product-pos : {a b : ℤ} → pos 0 <ℤ a → pos 0 <ℤ b → pos 0 <ℤ (a *ℤ b)
product-pos {a = pos m} {b = pos n} h k = lt_z_yes (lt→ltb 0 (m * n) (mul-pos (ltb→lt 0 m h.lt) (ltb→lt 0 n k.lt)))
product-pos {a = pos m} {b = negsuc n} h k = absurd k.lt
product-pos {a = negsuc m} h k = absurd h.lt

-- no square is below 0
pub square-nonneg : (a : ℤ) → pos 0 ≤ℤ (a *ℤ a)
square-nonneg (pos n) = le_z_yes (le→leb 0 (n * n) zero-le)
square-nonneg (negsuc n) = le_z_yes (le→leb 0 (suc n * suc n) zero-le)

square-suc : (n : ℕ) → 0 < suc n * suc n
square-suc n = mul-pos {m = suc n} {n = suc n} (omega arith) (omega arith)

not-le-zero : (n : ℕ) → 0 < n → n ≤ 0 → ⊥
not-le-zero n h k = omega arith

-- a number whose square is not above 0 is 0
pub zero-of-square : (a : ℤ) → (a *ℤ a) ≤ℤ pos 0 → a ≡ pos 0
zero-of-square (pos zero) h = refl
zero-of-square (pos (suc n)) h = absurd (not-le-zero (suc n * suc n) (square-suc n) (leb→le (suc n * suc n) 0 h.le))
zero-of-square (negsuc n) h = absurd (not-le-zero (suc n * suc n) (square-suc n) (leb→le (suc n * suc n) 0 h.le))
