-- Tests that are equal to true or false, and tests of numbers. Assumes nothing.
use mathlib.Core.Bool.{Bool, true, false, ◌&&◌, ◌||◌}
use mathlib.Core.Path.{◌≡◌, refl, sym, ap}
use Prim.Native.Nat.{ℕ, suc}
use native.Mathlib.Omega.{arith}
use lib.Dec.{eqb}
use borrow.Author.Tests.{eq-eqb, ne_eqb, eqb-true, eqb-false}

-- a test is not both true and false
pub true-not-false : {A : Type 0} (b : Bool) → b ≡ true → b ≡ false → A
true-not-false b p q = absurd (let z : ◌≡◌ {A = ℕ} 0 1 = cc in omega arith)

-- the two parts of a conjunction that is true
pub and-true : (a b : Bool) → (a && b) ≡ true → (a ≡ true) × (b ≡ true)
and-true true b e = (refl, e)
and-true false b e = true-not-false false e refl

-- the two parts of a disjunction that is false
pub or_parts : (a b : Bool) → (a || b) ≡ false → (a ≡ false) × (b ≡ false)
or_parts true b e = true-not-false true refl e
or_parts false b e = (refl, e)

pub or-false : (b : Bool) → (b || false) ≡ b
or-false true = refl
or-false false = refl

pub or-true : (b : Bool) → (b || true) ≡ true
or-true true = refl
or-true false = refl

pub eqb-sym : (a b : ℕ) → eqb a b ≡ eqb b a
eqb-sym a b = go (eqb a b) refl
  where
    go : (c : Bool) → eqb a b ≡ c → c ≡ eqb b a
    go true e = sym (eq-eqb b a (sym (eqb-true a b e)))
    go false e = sym (ne_eqb b a (λ q. eqb-false a b e (sym q)))

pub eqb-suc : (a b : ℕ) → eqb (suc a) (suc b) ≡ eqb a b
eqb-suc a b = go (eqb a b) refl
  where
    go : (c : Bool) → eqb a b ≡ c → eqb (suc a) (suc b) ≡ c
    go true e = eq-eqb (suc a) (suc b) (ap suc (eqb-true a b e))
    go false e = ne_eqb (suc a) (suc b) (λ q. eqb-false a b e (omega arith))
