-- `WholeValue` says that the value is a whole number. Digits that show m, the last f of them after the point, have with the exponent +e the value
-- m * 10 ^ e over 10 ^ f, and with the exponent -e the value m over 10 ^ f * 10 ^ e. Both are stated without a quotient: `whole-value-iff`.
-- Assumes nothing.
use mathlib.Core.Logic.{◌⊎◌, inl, inr, ⊎_elim, ◌↔◌}
use mathlib.Core.Path.{◌≡◌, ◌∙◌}
use Prim.Native.Nat.{ℕ, ◌*◌, ◌-◌, ◌^◌, ◌≤◌}
use native.Mathlib.Decide.{dec_le}
use native.Mathlib.Nat.{mul_assoc}
use native.Mathlib.Omega.{arith}
use lib.Pow.{pow-add}
use Rattle.whole.specs.Whole.{Divides, divides, Exponent, plus, minus, WholeValue}
use Rattle.whole.proofs.PowerLaws.{ten-pos, mul-cancel, pow-split}

-- the value is the whole number n
abbrev pub ValueIs : ℕ → ℕ → Exponent → ℕ → Type 0
ValueIs m f (plus e) n = n * 10 ^ f ≡ m * 10 ^ e
ValueIs m f (minus e) n = n * (10 ^ f * 10 ^ e) ≡ m

module _ (m f e : ℕ) where
  -- where n times 10 ^ f is m times 10 ^ e, the value is whole
  pub whole-of-plus : (n : ℕ) → n * 10 ^ f ≡ m * 10 ^ e → WholeValue m f (plus e)
  whole-of-plus n q = go (dec_le f e)
    where
      go : Dec (f ≤ e) → (f ≤ e) ⊎ Divides (10 ^ (f - e)) m
      go (yes h) = inl h
      go (no h) =
          let l : e ≤ f = omega arith in
          inr (divides n (mul-cancel (ten-pos e) (n * 10 ^ (f - e)) m (mul_assoc n (10 ^ (f - e)) (10 ^ e) ∙ rw (← pow-split l) q)))

  -- where the value is whole, there is such an n
  pub plus-of-whole : WholeValue m f (plus e) → (n : ℕ) × (n * 10 ^ f ≡ m * 10 ^ e)
  plus-of-whole v = ⊎_elim few (λ d. many d (dec_le f e)) v
    where
      -- not more places than the exponent has
      few : f ≤ e → (n : ℕ) × (n * 10 ^ f ≡ m * 10 ^ e)
      few h = (m * 10 ^ (e - f), mul_assoc m (10 ^ (e - f)) (10 ^ f) ∙ rw (← pow-split h))

      many : Divides (10 ^ (f - e)) m → Dec (f ≤ e) → (n : ℕ) × (n * 10 ^ f ≡ m * 10 ^ e)
      many d (yes h) = few h
      many (divides n q) (no h) =
          let l : e ≤ f = omega arith in
          (n, rw (pow-split l, ← mul_assoc, q))

  -- where n times 10 ^ f * 10 ^ e is m, the value is whole
  pub whole-of-minus : (n : ℕ) → n * (10 ^ f * 10 ^ e) ≡ m → WholeValue m f (minus e)
  whole-of-minus n q = divides n (rw (pow-add 10 f e) q)

  -- where the value is whole, there is such an n
  pub minus-of-whole : WholeValue m f (minus e) → (n : ℕ) × (n * (10 ^ f * 10 ^ e) ≡ m)
  minus-of-whole (divides n q) = (n, rw (← pow-add 10 f e) q)

-- the value is whole exactly where it is some whole number
pub whole-value-iff : (m f : ℕ) (x : Exponent) → WholeValue m f x ↔ ((n : ℕ) × ValueIs m f x n)
whole-value-iff m f (plus e) = (plus-of-whole m f e, λ p. whole-of-plus m f e p.0 p.1)
whole-value-iff m f (minus e) = (minus-of-whole m f e, λ p. whole-of-minus m f e p.0 p.1)
