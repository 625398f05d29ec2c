-- In a record of at most 16,777,216 bytes the bounded counts keep what the test of a whole value looks at: `kept_fresh`, `kept-counted` and
-- `test-of-kept`. Assumes nothing.
use mathlib.Core.Bool.{Bool, true, false, not, cond, ◌||◌}
use mathlib.Core.Logic.{◌⊎◌, inl, inr, ⊎_elim}
use mathlib.Core.Path.{◌≡◌, refl, ap}
use Prim.Native.Nat.{ℕ, ◌+◌, ◌*◌, ◌-◌, ◌<◌, ◌≤◌}
use native.Mathlib.Omega.{arith}
use lib.Dec.{eqb, leb, leb→le, nleb→lt}
use borrow.Author.Tests.{lt-ltb, le-leb, lt-leb}
use Rattle.laws.proofs.TestLaws.{cond-elim}
use Rattle.json_text.specs.declared.number.NumberMode.{NumberMode}
use Rattle.json_text.specs.declared.number.NumberMode.TheVariants as N
use Rattle.whole.specs.declared.Decimal.{Decimal}
use Rattle.whole.specs.Fresh.{fresh}
use Rattle.laws.specs.Count.{bump}
use Rattle.whole.specs.Count.{Counting, longer_up_to, unbounded, bounded, with_digit, with_place, counted, enough, is_whole}
use Rattle.whole.specs.Kept.{Kept}

-- nothing is kept of nothing
pub kept_fresh : (i : ℕ) → Kept fresh fresh i
kept_fresh i =
    record { zeros = refl; places = refl; negative = refl; nonzero = refl; exponent = inl refl; few_zeros = omega arith; few_places = omega arith }

-- ---- the bounds

-- a count far from its bound has one more
more-small : {n m : ℕ} → n ≡ m → m ≤ 16777216 → bump n ≡ m + 1
unfolding bump
more-small {n} {m} e h = rw (lt-ltb n 4294967295 (omega arith)) (omega arith)

-- the exponents n and m of what is kept and of what is counted
abbrev SameOrPast : ℕ → ℕ → Type 0
SameOrPast n m = (n ≡ m) ⊎ ((16777216 < n) × (n ≤ m))

-- one digit more
longer-kept : (n m d : ℕ) → SameOrPast n m → SameOrPast (longer_up_to n d) (10 * m + d)
unfolding longer_up_to
longer-kept n m d =
    ⊎_elim
    (λ e.
    cond-elim (λ (k : ℕ). SameOrPast k (10 * m + d)) (leb n 16777216) (λ h. inl (omega arith))
    (λ h. let l = nleb→lt n 16777216 h in inr (l, omega arith)))
    (λ p.
    cond-elim (λ (k : ℕ). SameOrPast k (10 * m + d)) (leb n 16777216) (λ h. let l = leb→le n 16777216 h in absurd (omega arith))
    (λ h. inr (p.0, omega arith)))

-- ---- one byte

-- no count changes
kept-later : {x y : Decimal} {i : ℕ} → Kept x y i → Kept x y (i + 1)
kept-later k =
    record {
      zeros = k.zeros;
      places = k.places;
      negative = k.negative;
      nonzero = k.nonzero;
      exponent = k.exponent;
      few_zeros = omega arith;
      few_places = omega arith;
    }

-- two choices by one test
pub cond_both : {A : Type 0} (R : A → A → Type 0) (t : Bool) {x y z w : A} → R x z → R y w → R (cond t x y) (cond t z w)
cond_both R true p q = p
cond_both R false p q = q

-- a digit: one 0 more at the end, or none
kept-digit : (b : ℕ) {x y : Decimal} {i : ℕ} → Kept x y i → i < 16777216 → Kept (with_digit unbounded x b) (with_digit bounded y b) (i + 1)
unfolding with_digit
kept-digit b {i} k h =
    cond_both (λ (u v : Decimal). Kept u v (i + 1)) (eqb b 0x30)
    (record {
      zeros = more-small k.zeros (omega arith);
      places = k.places;
      negative = k.negative;
      nonzero = k.nonzero;
      exponent = k.exponent;
      few_zeros = omega arith;
      few_places = omega arith;
    })
    (record {
      zeros = refl;
      places = k.places;
      negative = k.negative;
      nonzero = refl;
      exponent = k.exponent;
      few_zeros = omega arith;
      few_places = omega arith;
    })

-- a digit after the point: the place is counted besides. The digit itself has counted byte i
kept-place : {x y : Decimal} {i : ℕ} → Kept x y (i + 1) → x.places ≤ i → i < 16777216 → Kept (with_place unbounded x) (with_place bounded y) (i + 1)
kept-place k l h =
    record {
      zeros = k.zeros;
      places = more-small k.places (omega arith);
      negative = k.negative;
      nonzero = k.nonzero;
      exponent = k.exponent;
      few_zeros = k.few_zeros;
      few_places = omega arith;
    }

-- y has the places and the exponent of x
pub record SameRest (x y : Decimal) : Type 0 where
  pub places : y.places ≡ x.places
  pub negative : y.negative ≡ x.negative
  pub exponent : y.exponent ≡ x.exponent

-- a digit leaves the rest
pub rest-of-digit : (c : Counting) (d : Decimal) (b : ℕ) → SameRest d (with_digit c d b)
unfolding with_digit
rest-of-digit c d b =
    cond-elim (SameRest d) (eqb b 0x30) (λ _. record { places = refl; negative = refl; exponent = refl })
    (λ _. record { places = refl; negative = refl; exponent = refl })

-- the counts stay kept over each byte
pub kept-counted : (n : NumberMode) (b : ℕ) {x y : Decimal} {i : ℕ} → Kept x y i → i < 16777216
    → Kept (counted unbounded n x b) (counted bounded n y b) (i + 1)
kept-counted N.Minus b k h = kept-later k
kept-counted N.Zero b k h = kept-digit b k h
kept-counted N.Int b k h = kept-digit b k h
kept-counted N.Dot b k h = kept-later k
kept-counted N.Frac b {x} k h = kept-place (kept-digit b k h) (rw (rest-of-digit unbounded x b).places k.few_places) h
kept-counted N.E b k h = kept-later k
kept-counted N.Sign b k h =
    record {
      zeros = k.zeros;
      places = k.places;
      negative = refl;
      nonzero = k.nonzero;
      exponent = k.exponent;
      few_zeros = omega arith;
      few_places = omega arith;
    }
kept-counted N.Exp b {x} {y} k h =
    record {
      zeros = k.zeros;
      places = k.places;
      negative = k.negative;
      nonzero = k.nonzero;
      exponent = longer-kept y.exponent x.exponent (b - 0x30) k.exponent;
      few_zeros = omega arith;
      few_places = omega arith;
    }

-- ---- the test

-- past the longest record the exponent alone decides
enough-past : (s : Bool) (p z n m : ℕ) → p ≤ 16777216 → z ≤ 16777216 → 16777216 < n → n ≤ m → enough s p z n ≡ enough s p z m
unfolding enough
enough-past true p z n m hp hz hn h = rw (lt-leb (p + n) z (omega arith), lt-leb (p + m) z (omega arith))
enough-past false p z n m hp hz hn h = rw (le-leb p (z + n) (omega arith), le-leb p (z + m) (omega arith))

-- the test finds of what is kept what it finds of the counts without bound
pub test-of-kept : {x y : Decimal} {i : ℕ} → Kept x y i → i ≤ 16777216 → is_whole y ≡ is_whole x
unfolding is_whole
test-of-kept {x} {y} k h =
    rw (k.nonzero, k.negative, k.places, k.zeros)
    (ap (λ (t : Bool). not x.nonzero || t)
    (⊎_elim (λ e. rw e)
    (λ p. enough-past x.negative x.places x.zeros y.exponent x.exponent (omega arith) (omega arith) p.0 p.1)
    k.exponent))
