-- Bytes that are 0, which loops pass over: no state, and no rule with lines. Assumes nothing.
use mathlib.Core.Bool.{Bool, true, false, cond, not, and-false}
use mathlib.Core.List.{List}
use mathlib.Core.Path.{◌≡◌, ap, ◌∙◌}
use Prim.Native.Nat.{ℕ, zero, suc, ◌+◌, ◌*◌, ◌/◌, ◌%◌, ◌<◌}
use native.Mathlib.Nat.{add-zero, add-suc, le_refl}
use native.Mathlib.Omega.{arith}
use lib.Bits.{bit_and, bit_or, or_zero_r, and_zero_l}
use lib.Dec.{eqb}
use mir.Val.{bool_byte}
use lib.ListN.{get_or, set}
use lib.Seq.{set-get_or}
use borrow.Author.Tests.{ne_eqb}
use Rattle.laws.specs.Bits.{set_bit, set_all}
use Rattle.frame.specs.Edges.{has_form}
use Rattle.frame.specs.Ops.{accepting, has_end, rule_set}
use Rattle.frame.proofs.RuleLaws.{has_end-of-bytes}

-- ---- rules without lines

-- where no number of m more passes, no bit more is set
pub set_all-same : (p : ℕ → Bool) (f : ℕ → ℕ) (n m : ℕ) (xs : List ℕ) → ((k : ℕ) → k < m → p (n + k) ≡ false) → set_all p f (n + m) xs ≡ set_all p f n xs
unfolding set_all
set_all-same p f n zero xs h = ap (λ (k : ℕ). set_all p f k xs) (add-zero n)
set_all-same p f n (suc m) xs h =
    ap (λ (k : ℕ). set_all p f k xs) (add-suc n m) ∙ rw (h m (le_refl (suc m))) (set_all-same p f n m xs (λ k l. h k (omega arith)))

-- a rule without lines has no form but 0
has_form-quiet : (forms : List ℕ) (form r : ℕ) → 0 < form → get_or forms r 0 ≡ 0 → has_form forms form r ≡ false
unfolding has_form
has_form-quiet forms form r h e = rw (ne_eqb (get_or forms r 0) form (λ q. omega arith), and-false)

-- eight rules without lines have no states to start in
pub set_all-quiet : (forms : List ℕ) (form r : ℕ) (xs : List ℕ) → 0 < form → ((k : ℕ) → k < 8 → get_or forms (r + k) 0 ≡ 0)
    → set_all (has_form forms form) (λ i. 16 * i) (r + 8) xs ≡ set_all (has_form forms form) (λ i. 16 * i) r xs
set_all-quiet forms form r xs h e =
    set_all-same (has_form forms form) (λ i. 16 * i) r 8 xs (λ k l. has_form-quiet forms form (r + k) h (e k l))

-- state 0 of rule r is bit 0 of byte 2 r
pub first-state : (s : List ℕ) (r : ℕ) (on : Bool) → set s (2 * r) (bit_or (get_or s (2 * r) 0) (bool_byte on)) ≡ cond on (set_bit s (16 * r)) s
unfolding set_bit
first-state s r true =
    let q : 16 * r / 8 ≡ 2 * r = omega arith in
    let m : 16 * r % 8 ≡ 0 = omega arith in
    rw (q, m)
first-state s r false = rw (or_zero_r (get_or s (2 * r) 0)) (set-get_or s (2 * r) 0)

-- ---- rules without states

rule_set-same : (p : ℕ → Bool) (n m : ℕ) → ((k : ℕ) → k < m → p (n + k) ≡ false) → rule_set p (n + m) ≡ rule_set p n
unfolding rule_set
rule_set-same p n zero h = ap (rule_set p) (add-zero n)
rule_set-same p n (suc m) h = ap (rule_set p) (add-suc n m) ∙ rw (h m (le_refl (suc m))) (rule_set-same p n m (λ k l. h k (omega arith)))

accepting-quiet : (forms ends : List ℕ) (form : ℕ) (s : List ℕ) (r : ℕ) → get_or s (2 * r) 0 ≡ 0 → get_or s (2 * r + 1) 0 ≡ 0
    → accepting forms ends form s r ≡ false
unfolding accepting
accepting-quiet forms ends form s r a b = rw (has_end-none, and-false)
  where
    none : (i : ℕ) → get_or s i 0 ≡ 0 → not (eqb (bit_and (get_or s i 0) (get_or ends i 0)) 0) ≡ false
    none i e = ap (λ (n : ℕ). not (eqb (bit_and n (get_or ends i 0)) 0)) e ∙ ap (λ (n : ℕ). not (eqb n 0)) (and_zero_l (get_or ends i 0))

    has_end-none : has_end ends s r ≡ false
    has_end-none = has_end-of-bytes ends s r (omega arith) (omega arith) ∙ rw (none (2 * r) a, none (2 * r + 1) b)

-- four rules without states accept nothing
pub rule_set-quiet : (forms ends : List ℕ) (form : ℕ) (s : List ℕ) (r : ℕ) → ((k : ℕ) → k < 8 → get_or s (2 * r + k) 0 ≡ 0)
    → rule_set (accepting forms ends form s) (r + 4) ≡ rule_set (accepting forms ends form s) r
rule_set-quiet forms ends form s r e =
    rule_set-same (accepting forms ends form s) r 4
    (λ k l.
    let p : 2 * (r + k) ≡ 2 * r + 2 * k = omega arith in
    let q : 2 * (r + k) + 1 ≡ 2 * r + (2 * k + 1) = omega arith in
    accepting-quiet forms ends form s (r + k) (rw p (e (2 * k) (omega arith))) (rw q (e (2 * k + 1) (omega arith))))
