-- What a computed list or a computed test says at each place. Assumes nothing.
use mathlib.Core.Bool.{Bool}
use mathlib.Core.List.{List}
use mathlib.Core.Path.{◌≡◌, refl, sym, ap, subst, ◌∙◌}
use Prim.Native.Nat.{ℕ, zero, suc, ◌+◌, ◌-◌, ◌<◌, ◌≤◌}
use native.Mathlib.Nat.{add-zero, zero-add, add-suc, suc-add, le_of_suc-le-suc, not-suc-le-zero}
use native.Mathlib.Omega.{arith}
use lib.Dec.{T, eqb, eqb→eq}
use lib.ListN.{get_or, length}
use Rattle.laws.specs.Tab.{tab, every}
use Rattle.laws.proofs.TestLaws.{T-and-left, T-and-right}

-- ---- tab

pub length-tab : {A : Type 0} (f : ℕ → A) (i n : ℕ) → length (tab f i n) ≡ n
length-tab f i zero = refl
length-tab f i (suc n) = ap suc (length-tab f (suc i) n)

-- entry k of a list that starts at i is f at i + k
pub get_d-tab-from : {A : Type 0} (f : ℕ → A) (d : A) (i n k : ℕ) → k < n → get_or (tab f i n) k d ≡ f (i + k)
get_d-tab-from f d i zero k h = absurd (not-suc-le-zero h)
get_d-tab-from f d i (suc n) zero h = ap f (sym (add-zero i))
get_d-tab-from f d i (suc n) (suc k) h = get_d-tab-from f d (suc i) n k (le_of_suc-le-suc h) ∙ ap f (suc-add i k ∙ sym (add-suc i k))

-- entry k of a list that starts at 0 is f at k
pub get_d-tab : {A : Type 0} (f : ℕ → A) (d : A) (n k : ℕ) → k < n → get_or (tab f 0 n) k d ≡ f k
get_d-tab f d n k h = get_d-tab-from f d 0 n k h ∙ ap f (zero-add k)

-- two rules that make the same list are equal at each number of it
pub eq-of-tab : {A : Type 0} (f g : ℕ → A) (i n : ℕ) → tab f i n ≡ tab g i n → (k : ℕ) → i ≤ k → k < i + n → f k ≡ g k
eq-of-tab {A} f g i n e k l h =
    let m : i + (k - i) ≡ k = omega arith in
    let p = get_d-tab-from f (f k) i n (k - i) (omega arith) in
    let q = get_d-tab-from g (f k) i n (k - i) (omega arith) in
    ap f (sym m) ∙ sym p ∙ ap (λ (xs : List A). get_or xs (k - i) (f k)) e ∙ q ∙ ap g m

-- ---- every

every-from : (f : ℕ → Bool) (n i : ℕ) → T (every f i n) → (k : ℕ) → k < n → T (f (i + k))
every-from f zero i t k h = absurd (not-suc-le-zero h)
every-from f (suc n) i t zero h = subst (λ (m : ℕ). T (f m)) (sym (add-zero i)) (T-and-left (f i) (every f (suc i) n) t)
every-from f (suc n) i t (suc k) h =
    subst (λ (m : ℕ). T (f m)) (suc-add i k ∙ sym (add-suc i k))
    (every-from f n (suc i) (T-and-right (f i) (every f (suc i) n) t) k (le_of_suc-le-suc h))

-- a test that is computed to pass below n passes at each k below n
pub T-of-every : (f : ℕ → Bool) (n : ℕ) → T (every f 0 n) → (k : ℕ) → k < n → T (f k)
T-of-every f n t k h = subst (λ (m : ℕ). T (f m)) (zero-add k) (every-from f n 0 t k h)

-- two rules that are computed to give equal numbers below n are equal at each k below n
pub eq-of-every : (f g : ℕ → ℕ) (n : ℕ) → T (every (λ (k : ℕ). eqb (f k) (g k)) 0 n) → (k : ℕ) → k < n → f k ≡ g k
eq-of-every f g n t k h = eqb→eq (f k) (g k) (T-of-every (λ (i : ℕ). eqb (f i) (g i)) n t k h)
