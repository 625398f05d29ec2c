-- How large sums, differences and products of whole numbers get. Assumes nothing.
use mathlib.Core.Bool.{true, not}
use mathlib.Core.Path.{◌≡◌, refl, ap, subst, sym, ◌∙◌}
use Prim.Native.Nat.{ℕ, zero, suc, ◌+◌, ◌*◌, ◌^◌, ◌≤◌, ◌<◌}
use native.Mathlib.Nat.{le_refl, mul-le-mul}
use native.Mathlib.Omega.{arith}
use borrow.Author.Tests.{lt-ltb}
use lib.Dec.{T, ltb, ltb→lt}
use lib.IntN.{ℤ, pos, negsuc, nat_abs, neg_ℤ, sub_ℕ, ◌+ℤ◌, ◌-ℤ◌, ◌*ℤ◌}
use lib.Signed.{mag, lt_z}
use mir.Facts.{to_z-of_z}
use mir.Syntax.{Width, w64}
use mir.Val.{SFits, hbits, to_z, of_z}
use Rattle.laws.proofs.TestLaws.{cond-elim}

-- ---- absolute values

-- a difference of natural numbers is at most their sum
nat_abs-sub-le : (a b : ℕ) → nat_abs (sub_ℕ a b) ≤ a + b
nat_abs-sub-le a b =
    cond-elim (λ (z : ℤ). nat_abs z ≤ a + b) (ltb a b)
    (λ (t : T (ltb a b)). let h : a < b = ltb→lt a b t in omega arith)
    (λ (t : T (not (ltb a b))). omega arith)

-- the absolute value of a sum is at most the sum of the absolute values
pub nat_abs-sum-le : (a b : ℤ) → nat_abs (a +ℤ b) ≤ nat_abs a + nat_abs b
nat_abs-sum-le (pos a) (pos b) = le_refl (a + b)
nat_abs-sum-le (pos a) (negsuc b) = nat_abs-sub-le a (suc b)
nat_abs-sum-le (negsuc a) (pos b) = let h = nat_abs-sub-le b (suc a) in omega arith
nat_abs-sum-le (negsuc a) (negsuc b) = omega arith

-- a number and its negation have one absolute value
pub nat_abs-neg : (z : ℤ) → nat_abs (neg_ℤ z) ≡ nat_abs z
nat_abs-neg (pos zero) = refl
nat_abs-neg (pos (suc n)) = refl
nat_abs-neg (negsuc n) = refl

-- the absolute value of a difference is at most the sum of the absolute values
pub nat_abs-difference-le : (a b : ℤ) → nat_abs (a -ℤ b) ≤ nat_abs a + nat_abs b
nat_abs-difference-le a b = subst (λ (m : ℕ). nat_abs (a -ℤ b) ≤ nat_abs a + m) (nat_abs-neg b) (nat_abs-sum-le a (neg_ℤ b))

-- the absolute value of a product is the product of the absolute values
pub nat_abs-product : (a b : ℤ) → nat_abs (a *ℤ b) ≡ nat_abs a * nat_abs b
nat_abs-product (pos a) (pos b) = refl
nat_abs-product (pos a) (negsuc b) = nat_abs-neg (pos (a * suc b))
nat_abs-product (negsuc a) (pos b) = nat_abs-neg (pos (suc a * b))
nat_abs-product (negsuc a) (negsuc b) = refl

-- ---- bounds

-- a sum of numbers within m and within n is within m + n
pub sum-within : (a b : ℤ) {m n : ℕ} → nat_abs a ≤ m → nat_abs b ≤ n → nat_abs (a +ℤ b) ≤ m + n
sum-within a b h k = let s = nat_abs-sum-le a b in omega arith

-- a difference of numbers within m and within n is within m + n
pub difference-within : (a b : ℤ) {m n : ℕ} → nat_abs a ≤ m → nat_abs b ≤ n → nat_abs (a -ℤ b) ≤ m + n
difference-within a b h k = let s = nat_abs-difference-le a b in omega arith

-- a product of numbers within m and within n is within m n
pub product-within : (a b : ℤ) {m n : ℕ} → nat_abs a ≤ m → nat_abs b ≤ n → nat_abs (a *ℤ b) ≤ m * n
product-within a b {m} {n} h k = subst (λ (i : ℕ). i ≤ m * n) (sym (nat_abs-product a b)) (mul-le-mul h k)

-- a number within k is below each number above k
pub lt_z-of-within : (z : ℤ) {k m : ℕ} → nat_abs z ≤ k → k < m → lt_z z (pos m) ≡ true
lt_z-of-within (pos n) {k} {m} h l = lt-ltb n m (omega arith)
lt_z-of-within (negsuc n) h l = refl

-- ---- machine numbers

-- the magnitude of a number is at most its absolute value
pub mag-le-nat_abs : (z : ℤ) → mag z ≤ nat_abs z
mag-le-nat_abs (pos n) = le_refl n
mag-le-nat_abs (negsuc n) = omega arith

-- a number within k fits a signed type that k fits
pub sfits-of-within : (w : Width) {z : ℤ} (k : ℕ) → nat_abs z ≤ k → T (ltb k (2 ^ hbits w)) → SFits w z
sfits-of-within w {z} k h t =
    let m = mag-le-nat_abs z in let b : k < 2 ^ hbits w = ltb→lt k (2 ^ hbits w) t in record { sfits = omega arith }

-- ---- 64-bit arithmetic

-- the bits of r read as z, which is within k
pub record ReadsAs (r z : ℤ) (k : ℕ) : Type 0 where
  pub is : to_z w64 (of_z w64 r) ≡ z
  pub within : nat_abs z ≤ k

-- a number within a k that fits reads as itself
pub reads-of-within : {r z : ℤ} {k : ℕ} → r ≡ z → nat_abs z ≤ k → T (ltb k (2 ^ 63)) → ReadsAs r z k
reads-of-within {r} {z} {k} e h t =
    record { is = subst (λ (i : ℤ). to_z w64 (of_z w64 i) ≡ z) (sym e) (to_z-of_z (sfits-of-within w64 k h t)); within = h }

-- a result of operands that read as numbers: what fits, and what it reads as
reads-result : (op : ℤ → ℤ → ℤ) {r s y z : ℤ} {k l : ℕ} → ReadsAs r y k → ReadsAs s z l → op (to_z w64 (of_z w64 r)) (to_z w64 (of_z w64 s)) ≡ op y z
reads-result op {s} {y} a b = ap (λ (i : ℤ). op i (to_z w64 (of_z w64 s))) a.is ∙ ap (op y) b.is

fits-result : (op : ℤ → ℤ → ℤ) {r s y z : ℤ} {k l : ℕ} (m : ℕ) → ReadsAs r y k → ReadsAs s z l → nat_abs (op y z) ≤ m → T (ltb m (2 ^ 63)) → SFits w64 (op (to_z w64 (of_z w64 r)) (to_z w64 (of_z w64 s)))
fits-result op m a b h t = subst (SFits w64) (sym (reads-result op a b)) (sfits-of-within w64 m h t)

-- a product fits
pub product-fits : {r s y z : ℤ} {k l : ℕ} → ReadsAs r y k → ReadsAs s z l → T (ltb (k * l) (2 ^ 63)) → SFits w64 (to_z w64 (of_z w64 r) *ℤ to_z w64 (of_z w64 s))
product-fits {y} {z} a b t = fits-result ◌*ℤ◌ _ a b (product-within y z a.within b.within) t

-- a product reads as the product of what its operands read as
pub reads-product : {r s y z : ℤ} {k l : ℕ} → ReadsAs r y k → ReadsAs s z l → T (ltb (k * l) (2 ^ 63)) → ReadsAs (to_z w64 (of_z w64 r) *ℤ to_z w64 (of_z w64 s)) (y *ℤ z) (k * l)
reads-product {y} {z} a b t = reads-of-within (reads-result ◌*ℤ◌ a b) (product-within y z a.within b.within) t

-- a sum fits
pub sum_fits : {r s y z : ℤ} {k l : ℕ} → ReadsAs r y k → ReadsAs s z l → T (ltb (k + l) (2 ^ 63)) → SFits w64 (to_z w64 (of_z w64 r) +ℤ to_z w64 (of_z w64 s))
sum_fits {y} {z} a b t = fits-result ◌+ℤ◌ _ a b (sum-within y z a.within b.within) t

-- a sum reads as the sum of what its operands read as
pub reads-sum : {r s y z : ℤ} {k l : ℕ} → ReadsAs r y k → ReadsAs s z l → T (ltb (k + l) (2 ^ 63)) → ReadsAs (to_z w64 (of_z w64 r) +ℤ to_z w64 (of_z w64 s)) (y +ℤ z) (k + l)
reads-sum {y} {z} a b t = reads-of-within (reads-result ◌+ℤ◌ a b) (sum-within y z a.within b.within) t

-- a difference fits
pub difference-fits : {r s y z : ℤ} {k l : ℕ} → ReadsAs r y k → ReadsAs s z l → T (ltb (k + l) (2 ^ 63)) → SFits w64 (to_z w64 (of_z w64 r) -ℤ to_z w64 (of_z w64 s))
difference-fits {y} {z} a b t = fits-result ◌-ℤ◌ _ a b (difference-within y z a.within b.within) t

-- a difference reads as the difference of what its operands read as
pub reads-difference : {r s y z : ℤ} {k l : ℕ} → ReadsAs r y k → ReadsAs s z l → T (ltb (k + l) (2 ^ 63)) → ReadsAs (to_z w64 (of_z w64 r) -ℤ to_z w64 (of_z w64 s)) (y -ℤ z) (k + l)
reads-difference {y} {z} a b t = reads-of-within (reads-result ◌-ℤ◌ a b) (difference-within y z a.within b.within) t

-- ---- 32-bit numbers in 64 bits
