-- How a number ends in base ten: the zeros at the end of its digits say which powers of ten divide it, and so the test of the counts finds whether a
-- value is whole: `value-of-test`, `test-of-value`. Assumes nothing.
use mathlib.Core.Bool.{Bool, true, false, not, ◌||◌}
use mathlib.Core.Logic.{◌⊎◌, inl, inr, ⊎_elim}
use mathlib.Core.Path.{◌≡◌}
use Prim.Native.Nat.{ℕ, ◌+◌, ◌*◌, ◌-◌, ◌^◌, ◌<◌, ◌≤◌}
use native.Mathlib.Decide.{dec_le}
use native.Mathlib.Nat.{pow-zero, pow-succ', mul-one}
use native.Mathlib.Numerals.{add-one}
use native.Mathlib.Omega.{arith}
use lib.Dec.{T, T_not, eqb, eqb→eq, leb→le, le→leb}
use Rattle.laws.proofs.TestLaws.{cond-elim}
use Rattle.json_text.specs.Numbers.{is_digit}
use Rattle.json_text.proofs.ByteLaws.{low-of-within, high-of-within}
use Rattle.whole.specs.declared.Decimal.{Decimal}
use Rattle.whole.specs.Count.{unbounded, with_digit, enough, is_whole}
use Rattle.whole.specs.Whole.{Divides, divides, Exponent, plus, minus, WholeValue}
use Rattle.whole.proofs.PowerLaws.{divides-below, divides-zero, ten-divides}

-- digits that show m end in z zeros; the test says whether some digit is another than 0
pub data Ends (m z : ℕ) : Bool → Type 0 where
  all-zero : m ≡ 0 → Ends m z false
  ends : (q r : ℕ) → 0 < r → r < 10 → (10 * q + r) * 10 ^ z ≡ m → Ends m z true

-- ---- one digit more

-- the digit 0
ends_more : {m z : ℕ} {t : Bool} → Ends m z t → Ends (10 * m + 0) (z + 1) t
ends_more (all-zero e) = all-zero (omega arith)
ends_more (ends q r l h e) = ends q r l h (rw (add-one, pow-succ', ← e) (omega arith))

-- another digit
ends-anew : (m r : ℕ) → 0 < r → r < 10 → Ends (10 * m + r) 0 true
ends-anew m r l h = ends m r l h (rw pow-zero (mul-one (10 * m + r)))

-- the counts follow a digit before or after the point
pub ends-digit : (b m : ℕ) (d : Decimal) → T (is_digit b) → Ends m d.zeros d.nonzero
    → Ends (10 * m + (b - 0x30)) (with_digit unbounded d b).zeros (with_digit unbounded d b).nonzero
unfolding with_digit is_digit
ends-digit b m d h e =
    cond-elim (λ (u : Decimal). Ends (10 * m + (b - 0x30)) u.zeros u.nonzero) (eqb b 0x30)
    (λ t. rw (eqb→eq b 0x30 t) (ends_more e))
    (λ t.
    let n : b ≡ 0x30 → ⊥ = λ q. T_not (eqb b 0x30) t (rw q tt) in
    let l = low-of-within 0x30 0x39 b h in
    let g = high-of-within 0x30 0x39 b h in
    ends-anew m (b - 0x30) (omega arith) (omega arith))

-- ---- which powers of ten divide

-- one for each 0 at the end
pub divides-of-ends : {m z : ℕ} (k : ℕ) → Ends m z true → k ≤ z → Divides (10 ^ k) m
divides-of-ends k (ends q r l h e) g = divides-below g (divides (10 * q + r) e)

-- and no higher one
pub ends-of-divides : {m z : ℕ} (k : ℕ) → Ends m z true → Divides (10 ^ k) m → k ≤ z
ends-of-divides {m} {z} k (ends q r l h e) d = go (dec_le k z)
  where
    not-ten : Divides 10 (10 * q + r) → ⊥
    not-ten (divides n g) = omega arith

    go : Dec (k ≤ z) → k ≤ z
    go (yes g) = g
    go (no g) = absurd (not-ten (ten-divides z (10 * q + r) e (divides-below (omega arith) d)))

-- ---- the test

-- the exponent of a sign, - or none, and a size
abbrev pub sized : Bool → ℕ → Exponent
sized true e = minus e
sized false e = plus e

module _ {m : ℕ} (f e : ℕ) where
  -- 0 is whole
  value-of-zero : (g : Bool) → m ≡ 0 → WholeValue m f (sized g e)
  value-of-zero true h = divides-zero (10 ^ (f + e)) h
  value-of-zero false h = inr (divides-zero (10 ^ (f - e)) h)

  -- zeros enough make the value whole
  value-of-enough : {z : ℕ} (g : Bool) → Ends m z true → T (enough g f z e) → WholeValue m f (sized g e)
  unfolding enough
  value-of-enough {z} true x t = divides-of-ends (f + e) x (leb→le (f + e) z t)
  value-of-enough {z} false x t = go (dec_le f e) (leb→le f (z + e) t)
    where
      go : Dec (f ≤ e) → f ≤ z + e → (f ≤ e) ⊎ Divides (10 ^ (f - e)) m
      go (yes h) l = inl h
      go (no h) l = inr (divides-of-ends (f - e) x (omega arith))

  -- a whole value has zeros enough
  enough-of-value : {z : ℕ} (g : Bool) → Ends m z true → WholeValue m f (sized g e) → T (enough g f z e)
  unfolding enough
  enough-of-value {z} true x v = le→leb (f + e) z (ends-of-divides (f + e) x v)
  enough-of-value {z} false x v =
      le→leb f (z + e) (⊎_elim (λ h. omega arith) (λ d. let l = ends-of-divides (f - e) x d in omega arith) v)

module _ {m : ℕ} (d : Decimal) where
  -- what the test passes is whole
  pub value-of-test : Ends m d.zeros d.nonzero → T (is_whole d) → WholeValue m d.places (sized d.negative d.exponent)
  unfolding is_whole
  value-of-test x h = go x h
    where
      go : {t : Bool} → Ends m d.zeros t → T (not t || enough d.negative d.places d.zeros d.exponent)
          → WholeValue m d.places (sized d.negative d.exponent)
      go (all-zero e) h = value-of-zero d.places d.exponent d.negative e
      go (ends q r l s e) h = value-of-enough d.places d.exponent d.negative (ends q r l s e) h

  -- what is whole passes the test
  pub test-of-value : Ends m d.zeros d.nonzero → WholeValue m d.places (sized d.negative d.exponent) → T (is_whole d)
  unfolding is_whole
  test-of-value x v = go x v
    where
      go : {t : Bool} → Ends m d.zeros t → WholeValue m d.places (sized d.negative d.exponent)
          → T (not t || enough d.negative d.places d.zeros d.exponent)
      go (all-zero e) v = tt
      go (ends q r l s e) v = enough-of-value d.places d.exponent d.negative (ends q r l s e) v
