-- Powers of ten and the numbers that they divide. Assumes nothing.
use mathlib.Core.Path.{◌≡◌, sym, ap, ◌∙◌}
use Prim.Native.Nat.{ℕ, suc, ◌+◌, ◌*◌, ◌-◌, ◌^◌, ◌<◌, ◌≤◌}
use native.Mathlib.Nat.{one-le-pow, mul_assoc, mul-div_cancel, zero-mul, pow-succ'}
use native.Mathlib.Omega.{arith}
use lib.Dec.{lit<}
use lib.Pow.{pow-add}
use Rattle.whole.specs.Whole.{Divides, divides}

-- a power of ten is not 0
pub ten-pos : (k : ℕ) → 0 < 10 ^ k
ten-pos k = one-le-pow k 10 (lit< tt)

-- a factor that is not 0 may be left out
pub mul-cancel : {k : ℕ} → 0 < k → (a b : ℕ) → a * k ≡ b * k → a ≡ b
mul-cancel {k} h a b e = sym (mul-div_cancel a h) ∙ rw e (mul-div_cancel b h)

-- each number divides 0
pub divides-zero : (k : ℕ) {m : ℕ} → m ≡ 0 → Divides k m
divides-zero k e = divides 0 (zero-mul k ∙ sym e)

-- a power times a smaller one
pub pow-split : {k j : ℕ} → k ≤ j → 10 ^ j ≡ 10 ^ (j - k) * 10 ^ k
pow-split {k} {j} h =
    let e : j ≡ (j - k) + k = omega arith in
    ap (λ (n : ℕ). 10 ^ n) e ∙ pow-add 10 (j - k) k

-- a smaller power of ten divides what a power of ten divides
pub divides-below : {k j m : ℕ} → k ≤ j → Divides (10 ^ j) m → Divides (10 ^ k) m
divides-below {k} {j} h (divides n e) = divides (n * 10 ^ (j - k)) (mul_assoc n (10 ^ (j - k)) (10 ^ k) ∙ rw (← pow-split h) e)

-- where 10 ^ k times q is divided by one power more, ten divides q
pub ten-divides : (k q : ℕ) {m : ℕ} → q * 10 ^ k ≡ m → Divides (10 ^ suc k) m → Divides 10 q
ten-divides k q e (divides n g) =
    divides n (mul-cancel (ten-pos k) (n * 10) q (mul_assoc n 10 (10 ^ k) ∙ rw (← pow-succ' 10 k) (g ∙ sym e)))
