-- Laws of boolean tests and of `cond`, the choice by a test; what follows from a test or a result that cannot be. Assumes nothing.
use mathlib.Core.Bool.{Bool, true, false, not, cond, ◌&&◌, ◌||◌, beq, true≢false}
use mathlib.Core.Option.{none, some, none-ne-some}
use mathlib.Core.Path.{◌≡◌, refl, subst, sym}
use Prim.Native.Nat.{ℕ}
use lib.Dec.{T, eqb}
use borrow.Author.Tests.{eqb-true}

-- a test that holds is true
pub true-of-T : (b : Bool) → T b → b ≡ true
true-of-T true h = refl
true-of-T false h = absurd h

-- a test that is true holds
pub T-of-true : (b : Bool) → b ≡ true → T b
T-of-true b e = subst T (sym e) tt

-- from a test that is both true and false anything follows
pub true-neq-false : {X : Type 0} → true ≡ false → X
true-neq-false e = absurd (true≢false e)

-- from a result that is both there and not there anything follows
pub none-neq-some : {X A : Type 0} {x : A} → none ≡ some x → X
none-neq-some {x} e = absurd (none-ne-some x e)

-- two tests that are computed to be the same are equal
pub eq-of-beq : (a b : Bool) → T (beq a b) → a ≡ b
eq-of-beq true true h = refl
eq-of-beq true false h = absurd h
eq-of-beq false true h = absurd h
eq-of-beq false false h = refl

-- ---- conjunction and disjunction

pub T-and-left : (a b : Bool) → T (a && b) → T a
T-and-left true b h = tt
T-and-left false b h = h

pub T-and-right : (a b : Bool) → T (a && b) → T b
T-and-right true b h = h
T-and-right false b h = absurd h

pub T_and : (a b : Bool) → T a → T b → T (a && b)
T_and true b h g = g
T_and false b h g = absurd h

-- what follows from each of two tests follows from either
pub T-or-elim : {A : Type 0} (a b : Bool) → (T a → A) → (T b → A) → T (a || b) → A
T-or-elim true b f g h = f tt
T-or-elim false b f g h = g h

-- either of two tests gives their disjunction
pub T-or-left : (a b : Bool) → T a → T (a || b)
T-or-left true b h = tt
T-or-left false b h = absurd h

pub T-or-right : (a b : Bool) → T b → T (a || b)
T-or-right true b h = tt
T-or-right false b h = h

-- ---- negation

-- where neither of two tests holds, their disjunction fails, and the other way round
pub T-nor : (a b : Bool) → T (not a) → T (not b) → T (not (a || b))
T-nor true b h g = h
T-nor false b h g = g

pub T-nor-left : (a b : Bool) → T (not (a || b)) → T (not a)
T-nor-left true b h = h
T-nor-left false b h = tt

pub T-nor-right : (a b : Bool) → T (not (a || b)) → T (not b)
T-nor-right true b h = absurd h
T-nor-right false b h = h

-- a test that fails to fail holds, and the other way round
pub T-of-not-not : (a : Bool) → T (not (not a)) → T a
T-of-not-not true h = tt
T-of-not-not false h = h

pub T_not-not : (a : Bool) → T a → T (not (not a))
T_not-not true h = tt
T_not-not false h = h

-- ---- choices: a claim about both arms is one about the choice

pub cond-elim : {A : Type 0} (P : A → Type 0) (b : Bool) {x y : A} → (T b → P x) → (T (not b) → P y) → P (cond b x y)
cond-elim P true p q = p tt
cond-elim P false p q = q tt

-- the arm of a test that holds
pub cond_yes : {A : Type 0} (P : A → Type 0) (b : Bool) {x : A} (y : A) → T b → P x → P (cond b x y)
cond_yes P true y h p = p
cond_yes P false y h p = absurd h

-- the arm of a test that fails
pub cond_no : {A : Type 0} (P : A → Type 0) (b : Bool) (x : A) {y : A} → T (not b) → P y → P (cond b x y)
cond_no P true x h p = absurd h
cond_no P false x h p = p

-- a choice by the byte k: the first arm need only be claimed at k
pub cond_byte : {A : Type 0} (P : ℕ → A → Type 0) (c k : ℕ) {x y : A} → P k x → P c y → P c (cond (eqb c k) x y)
cond_byte {A} P c k {x} {y} p q = go (eqb c k) refl
  where
    go : (b : Bool) → eqb c k ≡ b → P c (cond b x y)
    go true e = subst (λ (m : ℕ). P m x) (sym (eqb-true c k e)) p
    go false e = q
