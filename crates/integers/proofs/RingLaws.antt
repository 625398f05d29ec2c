-- Sums and products of whole numbers, and equations between sums by linear arithmetic on ℕ. Assumes nothing.
use mathlib.Core.Path.{◌≡◌, refl, sym, ap, ◌∙◌}
use Prim.Native.Nat.{ℕ, zero, suc, ◌+◌, ◌*◌}
use native.Mathlib.Nat.{mul-zero}
use native.Mathlib.Omega.{arith}
use lib.Dec.{ltb, ltb→lt, nltb→le}
use lib.IntN.{ℤ, pos, negsuc, suc_ℤ, pred_ℤ, neg_ℤ, sub_ℕ, ◌+ℤ◌, ◌-ℤ◌, ◌*ℤ◌, neg_ℤ-neg_ℤ, +ℤ_idl, suc_ℤ-+ℤ, pred_ℤ-+ℤ, zero-*ℤ, *ℤ_comm, suc_ℤ-*ℤ, pred_ℤ-*ℤ}
use Rattle.laws.proofs.TestLaws.{cond-elim}

-- ---- the two parts of a number

-- the number where it is above 0, else 0
unfoldable pub pos_part : ℤ → ℕ
pos_part (pos n) = n
pos_part (negsuc n) = 0

-- the negated number where it is below 0, else 0
unfoldable pub neg_part : ℤ → ℕ
neg_part (pos n) = 0
neg_part (negsuc n) = suc n

-- numbers whose parts have the same difference are equal
pub eq-of-parts : (z w : ℤ) → pos_part z + neg_part w ≡ pos_part w + neg_part z → z ≡ w
unfolding pos_part neg_part
eq-of-parts (pos m) (pos n) e = ap pos (omega arith)
eq-of-parts (pos m) (negsuc n) e = absurd (omega arith)
eq-of-parts (negsuc m) (pos n) e = absurd (omega arith)
eq-of-parts (negsuc m) (negsuc n) e = ap negsuc (omega arith)

-- the parts of a difference of naturals differ by it
pub parts-subℕ : (a b : ℕ) → pos_part (sub_ℕ a b) + b ≡ a + neg_part (sub_ℕ a b)
unfolding pos_part neg_part
parts-subℕ a b =
    cond-elim (λ z. pos_part z + b ≡ a + neg_part z) (ltb a b) (λ h. omega (arith, ltb→lt a b h)) (λ h. omega (arith, nltb→le a b h))

-- the parts of a sum differ by the sum of the differences
pub parts-sum : (z w : ℤ) → pos_part (z +ℤ w) + (neg_part z + neg_part w) ≡ pos_part z + pos_part w + neg_part (z +ℤ w)
unfolding pos_part neg_part
parts-sum (pos a) (pos b) = omega arith
parts-sum (pos a) (negsuc b) = omega (arith, parts-subℕ a (suc b))
parts-sum (negsuc a) (pos b) = omega (arith, parts-subℕ b (suc a))
parts-sum (negsuc a) (negsuc b) = omega arith

-- negation exchanges the parts
pub pos_part-neg : (z : ℤ) → pos_part (neg_ℤ z) ≡ neg_part z
unfolding pos_part neg_part
pos_part-neg (pos zero) = refl
pos_part-neg (pos (suc n)) = refl
pos_part-neg (negsuc n) = refl

pub neg_part-neg : (z : ℤ) → neg_part (neg_ℤ z) ≡ pos_part z
unfolding pos_part neg_part
neg_part-neg (pos zero) = refl
neg_part-neg (pos (suc n)) = refl
neg_part-neg (negsuc n) = refl

-- a factor from ℕ multiplies both parts
pub pos_part-times : (d : ℕ) (z : ℤ) → pos_part (pos d *ℤ z) ≡ d * pos_part z
unfolding pos_part neg_part
pos_part-times d (pos n) = refl
pos_part-times d (negsuc n) = pos_part-neg (pos (d * suc n)) ∙ sym (mul-zero d)

pub neg_part-times : (d : ℕ) (z : ℤ) → neg_part (pos d *ℤ z) ≡ d * neg_part z
unfolding pos_part neg_part
neg_part-times d (pos n) = sym (mul-zero d)
neg_part-times d (negsuc n) = neg_part-neg (pos (d * suc n))

-- a number from ℕ is its positive part
pub parts-pos : (n : ℕ) → pos_part (pos n) + 0 ≡ n + neg_part (pos n)
unfolding pos_part neg_part
parts-pos n = omega arith

-- ---- linear expressions

-- sums, differences and negations of whole numbers
pub data Linear : Type 0 where
  -- any number
  at : ℤ → Linear
  -- a number from ℕ
  lit : ℕ → Linear
  neg : Linear → Linear
  plus : Linear → Linear → Linear
  minus : Linear → Linear → Linear

-- the number that an expression stands for
abbrev pub value : Linear → ℤ
value (at z) = z
value (lit n) = pos n
value (neg l) = neg_ℤ (value l)
value (plus l m) = value l +ℤ value m
value (minus l m) = value l -ℤ value m

-- two naturals whose difference is the value: the parts of the numbers, added up by sign
abbrev mutual
  pub ups : Linear → ℕ
  ups (at z) = pos_part z
  ups (lit n) = n
  ups (neg l) = downs l
  ups (plus l m) = ups l + ups m
  ups (minus l m) = ups l + downs m

  pub downs : Linear → ℕ
  downs (at z) = neg_part z
  downs (lit n) = 0
  downs (neg l) = ups l
  downs (plus l m) = downs l + downs m
  downs (minus l m) = downs l + ups m

-- the parts of the value have that difference
pub parts-value : (l : Linear) → pos_part (value l) + downs l ≡ ups l + neg_part (value l)
parts-value (at z) = omega arith
parts-value (lit n) = parts-pos n
parts-value (neg l) = omega (arith, parts-value l, pos_part-neg (value l), neg_part-neg (value l))
parts-value (plus l m) = omega (arith, parts-value l, parts-value m, parts-sum (value l) (value m))
parts-value (minus l m) =
    omega (
      arith,
      parts-value l,
      parts-value m,
      parts-sum (value l) (neg_ℤ (value m)),
      pos_part-neg (value m),
      neg_part-neg (value m),
    )

-- an equation between linear expressions, from one on ℕ
pub eq-of-linear : (l m : Linear) → ups l + downs m ≡ ups m + downs l → value l ≡ value m
eq-of-linear l m e = eq-of-parts (value l) (value m) (omega (arith, parts-value l, parts-value m))

-- and the other way round
pub linear-of-eq : (l m : Linear) → value l ≡ value m → ups l + downs m ≡ ups m + downs l
linear-of-eq l m e = omega (arith, parts-value l, parts-value m, ap pos_part e, ap neg_part e)

-- ---- products

-- a negation moves out of the first factor
pub negℤ-*ℤ : (a b : ℤ) → neg_ℤ a *ℤ b ≡ neg_ℤ (a *ℤ b)
negℤ-*ℤ (pos zero) b = zero-*ℤ b ∙ sym (ap neg_ℤ (zero-*ℤ b))
negℤ-*ℤ (pos (suc a)) (pos b) = refl
negℤ-*ℤ (pos (suc a)) (negsuc b) = sym (neg_ℤ-neg_ℤ (pos (suc a * suc b)))
negℤ-*ℤ (negsuc a) (pos b) = sym (neg_ℤ-neg_ℤ (pos (suc a * b)))
negℤ-*ℤ (negsuc a) (negsuc b) = refl

-- and out of the second
pub *ℤ-negℤ : (a b : ℤ) → a *ℤ neg_ℤ b ≡ neg_ℤ (a *ℤ b)
*ℤ-negℤ a b = *ℤ_comm a (neg_ℤ b) ∙ negℤ-*ℤ b a ∙ ap neg_ℤ (*ℤ_comm b a)

-- induction from 0, a step up and a step down
pub by-steps : (P : ℤ → Type 0) → P (pos zero) → ((a : ℤ) → P a → P (suc_ℤ a)) → ((a : ℤ) → P a → P (pred_ℤ a)) → (a : ℤ) → P a
by-steps P z up down (pos zero) = z
by-steps P z up down (pos (suc n)) = up (pos n) (by-steps P z up down (pos n))
by-steps P z up down (negsuc zero) = down (pos zero) z
by-steps P z up down (negsuc (suc n)) = down (negsuc n) (by-steps P z up down (negsuc n))

-- a sum as the first factor
pub +ℤ-*ℤ : (a b c : ℤ) → (a +ℤ b) *ℤ c ≡ a *ℤ c +ℤ b *ℤ c
+ℤ-*ℤ a b c = by-steps (λ a. (a +ℤ b) *ℤ c ≡ a *ℤ c +ℤ b *ℤ c) start up down a
  where
    up : (a : ℤ) → (a +ℤ b) *ℤ c ≡ a *ℤ c +ℤ b *ℤ c → ((suc_ℤ a) +ℤ b) *ℤ c ≡ (suc_ℤ a) *ℤ c +ℤ b *ℤ c
    up a e =
        ap (λ z. z *ℤ c) (suc_ℤ-+ℤ a b) ∙
        suc_ℤ-*ℤ (a +ℤ b) c ∙
        ap (λ z. z +ℤ c) e ∙
        eq-of-linear (plus (plus (at (a *ℤ c)) (at (b *ℤ c))) (at c)) (plus (plus (at (a *ℤ c)) (at c)) (at (b *ℤ c))) (omega arith) ∙
        ap (λ z. z +ℤ b *ℤ c) (sym (suc_ℤ-*ℤ a c))

    down : (a : ℤ) → (a +ℤ b) *ℤ c ≡ a *ℤ c +ℤ b *ℤ c → ((pred_ℤ a) +ℤ b) *ℤ c ≡ (pred_ℤ a) *ℤ c +ℤ b *ℤ c
    down a e =
        ap (λ z. z *ℤ c) (pred_ℤ-+ℤ a b) ∙
        pred_ℤ-*ℤ (a +ℤ b) c ∙
        ap (λ z. z -ℤ c) e ∙
        eq-of-linear (minus (plus (at (a *ℤ c)) (at (b *ℤ c))) (at c)) (plus (minus (at (a *ℤ c)) (at c)) (at (b *ℤ c))) (omega arith) ∙
        ap (λ z. z +ℤ b *ℤ c) (sym (pred_ℤ-*ℤ a c))

    start : (pos zero +ℤ b) *ℤ c ≡ pos zero *ℤ c +ℤ b *ℤ c
    start = ap (λ z. z *ℤ c) (+ℤ_idl b) ∙ sym (ap (λ z. z +ℤ b *ℤ c) (zero-*ℤ c) ∙ +ℤ_idl (b *ℤ c))

-- a sum as the second factor
pub *ℤ-+ℤ : (a b c : ℤ) → a *ℤ (b +ℤ c) ≡ a *ℤ b +ℤ a *ℤ c
*ℤ-+ℤ a b c = *ℤ_comm a (b +ℤ c) ∙ +ℤ-*ℤ b c a ∙ cc (*ℤ_comm b a, *ℤ_comm c a)

-- a difference as the first factor
pub -ℤ-*ℤ : (a b c : ℤ) → (a -ℤ b) *ℤ c ≡ a *ℤ c -ℤ b *ℤ c
-ℤ-*ℤ a b c = +ℤ-*ℤ a (neg_ℤ b) c ∙ ap (λ z. a *ℤ c +ℤ z) (negℤ-*ℤ b c)

-- a difference as the second factor
pub *ℤ--ℤ : (a b c : ℤ) → a *ℤ (b -ℤ c) ≡ a *ℤ b -ℤ a *ℤ c
*ℤ--ℤ a b c = *ℤ-+ℤ a b (neg_ℤ c) ∙ ap (λ z. a *ℤ b +ℤ z) (*ℤ-negℤ a c)

-- the product is associative
pub *ℤ-assoc : (a b c : ℤ) → a *ℤ b *ℤ c ≡ a *ℤ (b *ℤ c)
*ℤ-assoc a b c = by-steps (λ a. a *ℤ b *ℤ c ≡ a *ℤ (b *ℤ c)) start up down a
  where
    up : (a : ℤ) → a *ℤ b *ℤ c ≡ a *ℤ (b *ℤ c) → (suc_ℤ a) *ℤ b *ℤ c ≡ (suc_ℤ a) *ℤ (b *ℤ c)
    up a e =
        ap (λ z. z *ℤ c) (suc_ℤ-*ℤ a b) ∙ +ℤ-*ℤ (a *ℤ b) b c ∙ ap (λ z. z +ℤ b *ℤ c) e ∙ sym (suc_ℤ-*ℤ a (b *ℤ c))

    down : (a : ℤ) → a *ℤ b *ℤ c ≡ a *ℤ (b *ℤ c) → (pred_ℤ a) *ℤ b *ℤ c ≡ (pred_ℤ a) *ℤ (b *ℤ c)
    down a e =
        ap (λ z. z *ℤ c) (pred_ℤ-*ℤ a b) ∙ -ℤ-*ℤ (a *ℤ b) b c ∙ ap (λ z. z -ℤ b *ℤ c) e ∙ sym (pred_ℤ-*ℤ a (b *ℤ c))

    start : pos zero *ℤ b *ℤ c ≡ pos zero *ℤ (b *ℤ c)
    start = ap (λ z. z *ℤ c) (zero-*ℤ b) ∙ zero-*ℤ c ∙ sym (zero-*ℤ (b *ℤ c))

-- the first two of three factors change places
pub *ℤ-left-comm : (a b c : ℤ) → a *ℤ (b *ℤ c) ≡ b *ℤ (a *ℤ c)
*ℤ-left-comm a b c = sym (*ℤ-assoc a b c) ∙ ap (λ z. z *ℤ c) (*ℤ_comm a b) ∙ *ℤ-assoc b a c
