-- Sets of rules: the bytes of a rule's states, and the number that a set of rules is. Assumes nothing.
use mathlib.Core.Bool.{Bool, true, false, cond, not, ◌&&◌, ◌||◌, or_assoc, and-false}
use mathlib.Core.List.{List, [], ◌∷◌, ◌++◌}
use mathlib.Core.Logic.{⊎_elim, ◌↔◌}
use mathlib.Core.Path.{◌≡◌, refl, sym, ap, subst, ◌∙◌}
use Prim.Native.Nat.{ℕ, zero, suc, ◌+◌, ◌*◌, ◌/◌, ◌%◌, ◌^◌, ◌<◌, ◌≤◌}
use native.Mathlib.Nat.{zero-div, eq-or-lt_of_le, add-zero, add-suc, suc-add, one-mul, lt_of_le_of_lt, lt_of_lt_of_le}
use native.Mathlib.Decide.{dec_lt}
use native.Mathlib.Numerals.{unary_clauses}
use native.Mathlib.Omega.{arith}
use lib.Bits.{bit_and, bit_or, or_shifted_r, and_le_l, and_zero_l}
use lib.Dec.{T, eqb, ltb, lit<}
use lib.ListN.{get_or}
use lib.Pow.{pow_mono}
use borrow.Author.Tests.{lt-ltb, le-ltb, eqb-true, eqb-false}
use Rattle.laws.specs.Bits.{bit_at}
use Rattle.laws.specs.Lists.{any}
use Rattle.laws.specs.Tab.{tab}
use Rattle.laws.proofs.BitLaws.{bit-bit_and, bit-bit_or, nonzero-bits, ltb_iff}
use Rattle.laws.proofs.TestLaws.{T-of-true, T_and, T-and-left, T-and-right, T-or-elim, T-or-left, T-or-right, cond-elim}
use Rattle.table.specs.Kind.{rule_fits}
use Rattle.frame.specs.Edges.{has_form}
use Rattle.frame.specs.Ops.{has_end, accepting, rule_set}

-- ---- some number of a run

-- tests that agree along two runs of n numbers pass for some number of both or of none
pub any-tab-same : (g h : ℕ → Bool) (i j n : ℕ) → ((k : ℕ) → k < n → g (i + k) ≡ h (j + k)) → any g (tab (λ q. q) i n) ≡ any h (tab (λ q. q) j n)
unfolding any
any-tab-same g h i j zero e = refl
any-tab-same g h i j (suc n) e =
    ap (λ (b : Bool). b || any g (tab (λ q. q) (suc i) n)) (ap g (sym (add-zero i)) ∙ e zero (omega arith) ∙ ap h (add-zero j))
    ∙ ap (λ (b : Bool). h j || b)
    (any-tab-same g h (suc i) (suc j) n (λ k l. ap g (suc-add i k ∙ sym (add-suc i k)) ∙ e (suc k) (omega arith) ∙ ap h (add-suc j k ∙ sym (suc-add j k))))

-- some number of two runs, one after the other
pub any_append : {A : Type 0} (g : A → Bool) (xs ys : List A) → any g (xs ++ ys) ≡ (any g xs || any g ys)
unfolding any
any_append g [] ys = refl
any_append g (x ∷ xs) ys = ap (λ (b : Bool). g x || b) (any_append g xs ys) ∙ sym (or_assoc (g x) (any g xs) (any g ys))

-- where some number of a run passes a test, there is one that does
pub some-of-any-tab : (g : ℕ → Bool) (i n : ℕ) → T (any g (tab (λ q. q) i n)) → (q : ℕ) × (i ≤ q) × (q < i + n) × T (g q)
unfolding any
some-of-any-tab g i zero t = absurd t
some-of-any-tab g i (suc n) t =
    T-or-elim (g i) (any g (tab (λ q. q) (suc i) n)) (λ h. (i, omega arith, omega arith, h))
    (λ h. let w = some-of-any-tab g (suc i) n h in (w.0, omega arith, omega arith, w.3)) t

-- where a number of a run passes a test, some number of the run does
pub any-tab-of-some : (g : ℕ → Bool) (i n q : ℕ) → i ≤ q → q < i + n → T (g q) → T (any g (tab (λ q. q) i n))
unfolding any
any-tab-of-some g i zero q a b t = absurd (omega arith)
any-tab-of-some g i (suc n) q a b t =
    ⊎_elim (λ e. T-or-left (g i) (any g (tab (λ q. q) (suc i) n)) (subst (λ (m : ℕ). T (g m)) (sym e) t))
    (λ l. T-or-right (g i) (any g (tab (λ q. q) (suc i) n)) (any-tab-of-some g (suc i) n q l (omega arith) t)) (eq-or-lt_of_le a)

-- ---- end states

-- the eight states whose bits are byte b: one of them is an end state where the byte shares a bit with that of the end states
byte-has_end : (ends s : List ℕ) (i b : ℕ) → i ≡ 8 * b → get_or s b 0 < 256
    → any (λ q. bit_at s (i + q) && bit_at ends (i + q)) (tab (λ q. q) 0 8) ≡ not (eqb (bit_and (get_or s b 0) (get_or ends b 0)) 0)
unfolding bit_at
byte-has_end ends s i b e h =
    any-tab-same (λ q. bit_at s (i + q) && bit_at ends (i + q)) (λ q. eqb (bit_and (get_or s b 0) (get_or ends b 0) / 2 ^ q % 2) 1) 0 0 8
    (λ k l.
    let q : (i + (0 + k)) / 8 ≡ b = omega arith in
    let r : (i + (0 + k)) % 8 ≡ 0 + k = omega arith in
    rw (q, r) (sym (bit-bit_and (get_or s b 0) (get_or ends b 0) (0 + k))))
    ∙ sym (nonzero-bits (bit_and (get_or s b 0) (get_or ends b 0)) (lt_of_le_of_lt (and_le_l (get_or s b 0) (get_or ends b 0)) h))

-- the 16 states of a rule are the bits of two bytes
pub has_end-of-bytes : (ends s : List ℕ) (r : ℕ) → get_or s (2 * r) 0 < 256 → get_or s (2 * r + 1) 0 < 256
    → has_end ends s r ≡ (not (eqb (bit_and (get_or s (2 * r) 0) (get_or ends (2 * r) 0)) 0) || not (eqb (bit_and (get_or s (2 * r + 1) 0) (get_or ends (2 * r + 1) 0)) 0))
unfolding has_end
has_end-of-bytes ends s r h g =
    any_append test (tab (λ q. q) 0 8) (tab (λ q. q) 8 8)
    ∙ ap (λ (b : Bool). b || any test (tab (λ q. q) 8 8)) (byte-has_end ends s (16 * r) (2 * r) (omega arith) h)
    ∙ ap (λ (b : Bool). not (eqb (bit_and (get_or s (2 * r) 0) (get_or ends (2 * r) 0)) 0) || b)
    (any-tab-same test (λ q. bit_at s (16 * r + 8 + q) && bit_at ends (16 * r + 8 + q)) 8 0 8
    (λ k l. let e : 16 * r + (8 + k) ≡ 16 * r + 8 + (0 + k) = omega arith in rw e)
    ∙ byte-has_end ends s (16 * r + 8) (2 * r + 1) (omega arith) g)
  where
    test : ℕ → Bool
    test q = bit_at s (16 * r + q) && bit_at ends (16 * r + q)

-- ---- the number of a set of rules

add-lt-next : (n : ℕ) {m : ℕ} → m < 2 ^ n → 2 ^ n + m < 2 ^ suc n
add-lt-next n {m} h = simp unary_clauses (omega arith)

-- the number of a set of rules below n has no bit from n on
pub rule_set-lt : (p : ℕ → Bool) (n : ℕ) → rule_set p n < 2 ^ n
unfolding rule_set
rule_set-lt p zero = lit< tt
rule_set-lt p (suc n) =
    cond-elim (λ (m : ℕ). m < 2 ^ suc n) (p n) (λ t. add-lt-next n (rule_set-lt p n)) (λ t. lt_of_lt_of_le (rule_set-lt p n) (pow_mono (omega arith)))

-- bit r more in a number of 32 bits
pub with-bit-lt : (r m : ℕ) → r < 32 → m < 2 ^ r → 2 ^ r + m < 2 ^ 32
with-bit-lt r m h l = lt_of_lt_of_le (add-lt-next r l) (pow_mono {i = suc r} {j = 32} (omega arith))

-- a set of no rules
pub rule_set-none : (p : ℕ → Bool) (n : ℕ) → ((r : ℕ) → p r ≡ false) → rule_set p n ≡ 0
unfolding rule_set
rule_set-none p zero h = refl
rule_set-none p (suc n) h = rw (h n) (rule_set-none p n h)

-- no states
pub accepting-nil : (forms ends : List ℕ) (form r : ℕ) → accepting forms ends form [] r ≡ false
unfolding accepting
accepting-nil forms ends form r = rw (has_end-nil, and-false)
  where
    nil : (i : ℕ) → ◌≡◌ {A = ℕ} (get_or [] i 0) 0
    nil zero = refl
    nil (suc i) = refl

    none : (i : ℕ) → not (eqb (bit_and (get_or [] i 0) (get_or ends i 0)) 0) ≡ false
    none i = ap (λ (n : ℕ). not (eqb (bit_and n (get_or ends i 0)) 0)) (nil i) ∙ ap (λ (n : ℕ). not (eqb n 0)) (and_zero_l (get_or ends i 0))

    has_end-nil : has_end ends [] r ≡ false
    has_end-nil =
        has_end-of-bytes ends [] r (omega (arith, nil (2 * r))) (omega (arith, nil (2 * r + 1)))
        ∙ cc (none (2 * r + 1))

-- ---- a rule in a set

-- bit r of the number of a set
pub bit-rule_set : (p : ℕ → Bool) (n r : ℕ) → eqb (rule_set p n / 2 ^ r % 2) 1 ≡ (ltb r n && p r)
unfolding rule_set
bit-rule_set p zero r = rw (zero-div, le-ltb r 0 (omega arith))
bit-rule_set p (suc n) r = go (p n) refl (eqb n r) refl (bit-rule_set p n r)
  where
    with-bit : (m : ℕ) → m < 2 ^ n → 2 ^ n + m ≡ bit_or m (2 ^ n)
    with-bit m h = ap (λ (x : ℕ). x + m) (sym (one-mul (2 ^ n))) ∙ sym (or_shifted_r 1 n m h) ∙ ap (bit_or m) (one-mul (2 ^ n))

    below : (eqb n r ≡ false) → (ltb r n && p r) ≡ (ltb r (suc n) && p r)
    below e = ap (λ (b : Bool). b && p r) (ltb_iff r n (suc n) (λ l. omega arith) (λ l. let ne = eqb-false n r e in omega arith))

    at : eqb n r ≡ true → (ltb r (suc n) && p r) ≡ p n
    at e = let q : n ≡ r = eqb-true n r e in rw (lt-ltb r (suc n) (omega arith)) (ap p (sym q))

    not-below : eqb n r ≡ true → (ltb r n && p r) ≡ false
    not-below e = let q : n ≡ r = eqb-true n r e in rw (le-ltb r n (omega arith))

    go : (b : Bool) → p n ≡ b → (c : Bool) → eqb n r ≡ c → eqb (rule_set p n / 2 ^ r % 2) 1 ≡ (ltb r n && p r)
        → eqb (cond b (2 ^ n + rule_set p n) (rule_set p n) / 2 ^ r % 2) 1 ≡ (ltb r (suc n) && p r)
    go true e true q ih =
        rw (with-bit (rule_set p n) (rule_set-lt p n)) (bit-bit_or (rule_set p n) n r ∙ rw q (sym (at q ∙ e)))
    go true e false q ih =
        rw (with-bit (rule_set p n) (rule_set-lt p n)) (bit-bit_or (rule_set p n) n r ∙ rw q (ih ∙ below q))
    go false e true q ih = ih ∙ not-below q ∙ sym (at q ∙ e)
    go false e false q ih = ih ∙ below q

-- the rules of a set that has them below 32
pub rule_fits-rule_set : (p : ℕ → Bool) → ((r : ℕ) → T (p r) → r < 32) → (r : ℕ) → rule_fits (rule_set p 32) r ≡ p r
unfolding rule_fits
rule_fits-rule_set p small r = go (dec_lt r 32) (p r) refl
  where
    go : Dec (r < 32) → (b : Bool) → p r ≡ b → cond (ltb r 32) (eqb (rule_set p 32 / 2 ^ r % 2) 1) false ≡ p r
    go (yes h) b e = rw (lt-ltb r 32 h) (bit-rule_set p 32 r ∙ rw (lt-ltb r 32 h))
    go (no h) true e = let l = small r (T-of-true (p r) e) in absurd (omega arith)
    go (no h) false e = rw (le-ltb r 32 (omega arith)) (sym e)

-- the rules that accept: of the form, with an end state among the states
pub accepting-iff : (forms ends : List ℕ) (form : ℕ) (s : List ℕ) (r : ℕ)
    → T (accepting forms ends form s r)
    ↔ (T (has_form forms form r) × ((q : ℕ) × (q < 16) × T (bit_at s (16 * r + q)) × T (bit_at ends (16 * r + q))))
unfolding accepting has_end
accepting-iff forms ends form s r = (
  (λ t.
      let w = some-of-any-tab test 0 16 (T-and-right (has_form forms form r) (any test (tab (λ q. q) 0 16)) t) in (
        T-and-left (has_form forms form r) (any test (tab (λ q. q) 0 16)) t,
        (w.0, w.2, T-and-left (bit_at s (16 * r + w.0)) (bit_at ends (16 * r + w.0)) w.3, T-and-right (bit_at s (16 * r + w.0)) (bit_at ends (16 * r + w.0)) w.3),
      )),
  (λ p.
      T_and (has_form forms form r) (any test (tab (λ q. q) 0 16)) p.0
      (any-tab-of-some test 0 16 p.1.0 (omega arith) p.1.1 (T_and (bit_at s (16 * r + p.1.0)) (bit_at ends (16 * r + p.1.0)) p.1.2 p.1.3))),
)
  where
    test : ℕ → Bool
    test q = bit_at s (16 * r + q) && bit_at ends (16 * r + q)
