-- Numbers without leading zeros have one way to be written. Assumes nothing.
use mathlib.Core.Bool.{Bool, true, false, not, ◌&&◌, ◌||◌}
use mathlib.Core.List.{List, [], ◌∷◌}
use mathlib.Core.Path.{◌≡◌, refl}
use Prim.Native.Nat.{ℕ, suc, ◌+◌, ◌*◌, ◌-◌, ◌<◌, ◌≤◌}
use native.Mathlib.Omega.{arith}
use lib.Dec.{eqb, ltb, leb}
use lib.ListN.{length}
use borrow.Author.Tests.{eq-eqb, eqb-true, eqb-false, ltb-true, ltb-false, leb-true}
use Rattle.laws.specs.Lists.{all}
use Rattle.book.proofs.TruthLaws.{true-not-false, and-true}
use Rattle.book.specs.Text.{is_empty, between, is_digit, is_number, number_from, number}

-- digits
abbrev Digits : List ℕ → Type 0
Digits [] = Unit {0}
Digits (d ∷ s) = (48 ≤ d) × (d ≤ 57) × Digits s

digits-of-all : (s : List ℕ) → all is_digit s ≡ true → Digits s
unfolding all between
digits-of-all [] e = tt
digits-of-all (d ∷ s) e =
    let a = and-true (leb 48 d && leb d 57) _ e in
    let b = and-true (leb 48 d) (leb d 57) a.0 in
    (leb-true 48 d b.0, leb-true d 57 b.1, digits-of-all s a.1)

one-digit : (b : ℕ) → is_digit b ≡ true → all is_digit (b ∷ []) ≡ true
unfolding all
one-digit b z = rw z

-- after a larger number as many digits mean more
number_from-lt : (s t : List ℕ) (a b : ℕ) → length s ≡ length t → Digits s → Digits t → a < b → number_from a s < number_from b t
unfolding number_from
number_from-lt [] [] a b l p q h = h
number_from-lt [] (e ∷ t) a b l p q h = absurd (omega arith)
number_from-lt (d ∷ s) [] a b l p q h = absurd (omega arith)
number_from-lt (d ∷ s) (e ∷ t) a b l p q h =
    let x = p.1 in
    number_from-lt s t (a * 10 + (d - 48)) (b * 10 + (e - 48)) (omega arith) p.2 q.2 (omega (arith, x))

-- as many digits that mean the same are the same
number_from-same : (s t : List ℕ) (a b : ℕ) → length s ≡ length t → Digits s → Digits t → number_from a s ≡ number_from b t → (a ≡ b) × (s ≡ t)
unfolding number_from
number_from-same [] [] a b l p q h = (h, refl)
number_from-same [] (e ∷ t) a b l p q h = absurd (omega arith)
number_from-same (d ∷ s) [] a b l p q h = absurd (omega arith)
number_from-same (d ∷ s) (e ∷ t) a b l p q h =
    let r = number_from-same s t (a * 10 + (d - 48)) (b * 10 + (e - 48)) (omega arith) p.2 q.2 h in
    let x = p.0 in let x' = p.1 in let y = q.0 in let y' = q.1 in let z = r.0 in
    let u : a ≡ b = omega (arith, x, x', y, y', z) in
    let v : d ≡ e = omega (arith, x, x', y, y', z) in
    let w = r.1 in
    (u, cc)

-- more digits mean more
number_from-longer : (s t : List ℕ) (a b : ℕ) → length s < length t → Digits s → Digits t → a ≤ 9 → 1 ≤ b → number_from a s < number_from b t
unfolding number_from
number_from-longer s [] a b l p q h k = absurd (omega arith)
number_from-longer s (e ∷ t) a b l p q h k = go (eqb (length s) (length t)) refl (number_from-longer s t a (b * 10 + (e - 48)))
  where
    go : (c : Bool) → eqb (length s) (length t) ≡ c
        → (length s < length t → Digits s → Digits t → a ≤ 9 → 1 ≤ b * 10 + (e - 48) → number_from a s < number_from (b * 10 + (e - 48)) t)
        → number_from a s < number_from (b * 10 + (e - 48)) t
    go true z ih = number_from-lt s t a (b * 10 + (e - 48)) (eqb-true (length s) (length t) z) p q.2 (omega arith)
    go false z ih = let y = eqb-false (length s) (length t) z in ih (less (length s) (length t) y l) p q.2 h (omega arith)
      where
        less : (m n : ℕ) → (m ≡ n → ⊥) → m < suc n → m < n
        less m n ne lt = omega arith

number_from-ge : (a : ℕ) (s : List ℕ) → a ≤ number_from a s
unfolding number_from
number_from-ge a [] = omega arith
number_from-ge a (d ∷ s) = omega (arith, number_from-ge (a * 10 + (d - 48)) s)

none : number_from (0 * 10 + (48 - 48)) [] ≡ 0
unfolding number_from
none = omega arith

-- a first digit and more, where `0` has none after it
module _ (d e : ℕ) (s t : List ℕ) (d1 : 48 ≤ d) (d2 : d ≤ 57) (e1 : 48 ≤ e) (e2 : e ≤ 57) (ds : Digits s) (dt : Digits t)
    (zs : d ≡ 48 → s ≡ []) (zt : e ≡ 48 → t ≡ []) (h : number_from (0 * 10 + (d - 48)) s ≡ number_from (0 * 10 + (e - 48)) t) where
  longer : (d ≡ 48 → ⊥) → (e ≡ 48 → ⊥) → (length s ≡ length t → ⊥) → ⊥
  longer p q l = go (ltb (length s) (length t)) refl
    where
      go : (b : Bool) → ltb (length s) (length t) ≡ b → ⊥
      go true z =
          let w = number_from-longer s t (0 * 10 + (d - 48)) (0 * 10 + (e - 48)) (ltb-true (length s) (length t) z) ds dt (omega arith) (omega arith) in
          omega arith
      go false z =
          let y = ltb-false (length s) (length t) z in
          let w = number_from-longer t s (0 * 10 + (e - 48)) (0 * 10 + (d - 48)) (omega arith) dt ds (omega arith) (omega arith) in
          omega arith

  first-same : d ∷ s ≡ e ∷ t
  first-same = go (eqb d 48) (eqb e 48) (eqb (length s) (length t)) refl refl refl
    where
      go : (a b c : Bool) → eqb d 48 ≡ a → eqb e 48 ≡ b → eqb (length s) (length t) ≡ c → d ∷ s ≡ e ∷ t
      go true true c x y z =
          let p = eqb-true d 48 x in let q = eqb-true e 48 y in let u = zs p in let v = zt q in cc
      go true false c x y z =
          let p = eqb-true d 48 x in
          let q = eqb-false e 48 y in
          let u : number_from (0 * 10 + (d - 48)) s ≡ 0 = rw (zs p, p) none in
          absurd (omega (arith, u, number_from-ge (0 * 10 + (e - 48)) t))
      go false true c x y z =
          let p = eqb-false d 48 x in
          let q = eqb-true e 48 y in
          let u : number_from (0 * 10 + (e - 48)) t ≡ 0 = rw (zt q, q) none in
          absurd (omega (arith, u, number_from-ge (0 * 10 + (d - 48)) s))
      go false false true x y z =
          let r = number_from-same s t (0 * 10 + (d - 48)) (0 * 10 + (e - 48)) (eqb-true (length s) (length t) z) ds dt h in
          let u = r.0 in
          let v : d ≡ e = omega arith in
          let w = r.1 in
          cc
      go false false false x y z = absurd (longer (eqb-false d 48 x) (eqb-false e 48 y) (eqb-false (length s) (length t) z))

empty_of : (b : Bool) (s : List ℕ) → (not b || is_empty s) ≡ true → b ≡ true → s ≡ []
unfolding is_empty
empty_of true [] e q = refl
empty_of true (x ∷ s) e q = true-not-false false e refl
empty_of false s e q = true-not-false false q refl

-- a number has one way to be written
pub number_same : (s t : List ℕ) → is_number s ≡ true → is_number t ≡ true → number s ≡ number t → s ≡ t
unfolding is_number number number_from
number_same [] t p q h = true-not-false false p refl
number_same (d ∷ s) [] p q h = true-not-false false q refl
number_same (d ∷ s) (e ∷ t) p q h =
    let a = and-true (is_digit d) _ p in
    let b = and-true (all is_digit s) _ a.1 in
    let c = and-true (is_digit e) _ q in
    let f = and-true (all is_digit t) _ c.1 in
    let x = digits-of-all (d ∷ []) (one-digit d a.0) in
    let y = digits-of-all (e ∷ []) (one-digit e c.0) in
    first-same d e s t x.0 x.1 y.0 y.1 (digits-of-all s b.0) (digits-of-all t f.0)
    (λ z. empty_of (eqb d 48) s b.1 (eq-eqb d 48 z)) (λ z. empty_of (eqb e 48) t f.1 (eq-eqb e 48 z)) h
