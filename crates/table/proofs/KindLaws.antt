-- The code of a kind and the kind with a code. Assumes nothing.
use mathlib.Core.Bool.{Bool, true, false, cond}
use mathlib.Core.Path.{◌≡◌, refl, sym}
use Prim.Native.Nat.{ℕ, zero, suc, ◌+◌, ◌-◌, ◌<◌}
use native.Mathlib.Omega.{arith}
use lib.Dec.{eqb, ltb}
use borrow.Author.Tests.{ne_eqb, eqb-true, eqb-false, ltb-true, ltb-false}
use Rattle.table.specs.declared.kind.Scalar.TheVariants.{Null, True, False, Str, Num, Int}
use Rattle.table.specs.declared.kind.ValueKind.{ValueKind}
use Rattle.table.specs.declared.kind.ValueKind.TheVariants.{Plain, Rule}
use Rattle.table.specs.Kind.{kind_of, code_of}

-- the kind with the code of a kind is that kind, so that different kinds have different codes
pub kind_of-code_of : (v : ValueKind) → kind_of (code_of v) ≡ v
unfolding kind_of code_of
kind_of-code_of (Plain Null) = refl
kind_of-code_of (Plain True) = refl
kind_of-code_of (Plain False) = refl
kind_of-code_of (Plain Str) = refl
kind_of-code_of (Plain Num) = refl
kind_of-code_of (Plain Int) = refl
kind_of-code_of (Rule n) =
    let e : 6 + n - 6 ≡ n = omega arith in
    rw (
      ne_eqb (6 + n) 0 (λ z. omega arith),
      ne_eqb (6 + n) 1 (λ z. omega arith),
      ne_eqb (6 + n) 2 (λ z. omega arith),
      ne_eqb (6 + n) 3 (λ z. omega arith),
      ne_eqb (6 + n) 4 (λ z. omega arith),
      ne_eqb (6 + n) 5 (λ z. omega arith),
      e,
    )

small : (c : ℕ) → c < 6 → (c ≡ 0 → ⊥) → (c ≡ 1 → ⊥) → (c ≡ 2 → ⊥) → (c ≡ 3 → ⊥) → (c ≡ 4 → ⊥) → (c ≡ 5 → ⊥) → ⊥
small zero h a b d e f g = a refl
small (suc zero) h a b d e f g = b refl
small (suc (suc zero)) h a b d e f g = d refl
small (suc (suc (suc zero))) h a b d e f g = e refl
small (suc (suc (suc (suc zero)))) h a b d e f g = f refl
small (suc (suc (suc (suc (suc zero))))) h a b d e f g = g refl
small (suc (suc (suc (suc (suc (suc c)))))) h a b d e f g = omega arith

-- the code of the kind with a code is that code
pub code_of-kind_of : (c : ℕ) → code_of (kind_of c) ≡ c
unfolding kind_of code_of
code_of-kind_of c = go (eqb c 0) (eqb c 1) (eqb c 2) (eqb c 3) (eqb c 4) (eqb c 5) refl refl refl refl refl refl
  where
    go : (a b d e f g : Bool) → eqb c 0 ≡ a → eqb c 1 ≡ b → eqb c 2 ≡ d → eqb c 3 ≡ e → eqb c 4 ≡ f → eqb c 5 ≡ g
        → code_of (cond a (Plain Null) (cond b (Plain True) (cond d (Plain False) (cond e (Plain Str) (cond f (Plain Num) (cond g (Plain Int) (Rule (c - 6)))))))) ≡ c
    go true b d e f g p0 p1 p2 p3 p4 p5 = sym (eqb-true c 0 p0)
    go false true d e f g p0 p1 p2 p3 p4 p5 = sym (eqb-true c 1 p1)
    go false false true e f g p0 p1 p2 p3 p4 p5 = sym (eqb-true c 2 p2)
    go false false false true f g p0 p1 p2 p3 p4 p5 = sym (eqb-true c 3 p3)
    go false false false false true g p0 p1 p2 p3 p4 p5 = sym (eqb-true c 4 p4)
    go false false false false false true p0 p1 p2 p3 p4 p5 = sym (eqb-true c 5 p5)
    go false false false false false false p0 p1 p2 p3 p4 p5 = big (ltb c 6) refl
      where
        big : (b : Bool) → ltb c 6 ≡ b → 6 + (c - 6) ≡ c
        big false l = let h = ltb-false c 6 l in omega arith
        big true l = absurd (small c (ltb-true c 6 l) (eqb-false c 0 p0) (eqb-false c 1 p1) (eqb-false c 2 p2) (eqb-false c 3 p3) (eqb-false c 4 p4) (eqb-false c 5 p5))
