-- What reading and setting bits of a list of bytes gives: laws of `bit_at`, `set_bit` and `set_all`. Assumes nothing.
use mathlib.Core.Bool.{Bool, true, false, cond, ◌&&◌, ◌||◌, not, beq}
use mathlib.Core.List.{List}
use mathlib.Core.Logic.{◌⊎◌, inl, inr, ⊎_elim}
use mathlib.Core.Path.{◌≡◌, refl, sym, ap, subst, ◌∙◌}
use Prim.Native.Nat.{ℕ, zero, suc, ◌+◌, ◌-◌, ◌*◌, ◌/◌, ◌%◌, ◌^◌, ◌<◌, ◌≤◌}
use native.Mathlib.Decide.{dec_lt}
use native.Mathlib.Nat.{zero-div, div-eq_of_lt, mod-lt, one-mul, mul_comm, mod-eq_of_lt, eq-or-lt_of_le, not-suc-le-zero, le_of_suc-le-suc, le_refl, lt_of_not-le, not-le_of_lt}
use native.Mathlib.Numerals.{add-one}
use native.Mathlib.Omega.{arith}
use lib.Bits.{bit_and, bit_or, or_shr, or_mod, and_shr, and_mod, shifted_even}
use lib.Dec.{T, eqb, ltb, eqb_refl, lit<}
use lib.ListN.{length, get_or, set, length-set, replicate, get_or-eq_default}
use lib.Pow.{pow-lt, pow-add, shl-shr}
use lib.Seq.{get_or-set_same, get_or-set_other, set_out}
use borrow.Author.Tests.{eq-eqb, ne_eqb, eqb-true, eqb-false, lt-ltb, le-ltb, ltb-true, ltb-false}
use Rattle.laws.specs.Bits.{bit_at, set_bit, set_all}
use Rattle.laws.specs.Lists.{any}
use Rattle.laws.specs.Tab.{tab}
use Rattle.laws.proofs.TabLaws.{T-of-every}
use Rattle.laws.proofs.TestLaws.{true-of-T, eq-of-beq, T-or-right, T-or-elim, cond-elim, cond_yes}

-- ---- the bits of a number

-- what `1 << k` gives in a number of w bits
pub one_shl : (w k : ℕ) → k < w → (1 * 2 ^ k) % 2 ^ w ≡ 2 ^ k
one_shl w k h = rw one-mul (mod-eq_of_lt (pow-lt h))

-- the number of a test
abbrev pub bit_of : Bool → ℕ
bit_of true = 1
bit_of false = 0

-- bit j of a power of two
pub power-bit : (k j : ℕ) → 2 ^ k / 2 ^ j % 2 ≡ bit_of (eqb k j)
power-bit k j = go (dec_lt k j) (dec_lt j k)
  where
    go : Dec (k < j) → Dec (j < k) → 2 ^ k / 2 ^ j % 2 ≡ bit_of (eqb k j)
    go (yes h) d = rw (div-eq_of_lt (pow-lt h), ne_eqb k j (λ e. omega arith))
    go (no h) (yes l) =
        let e : j + suc (k - suc j) ≡ k = omega arith in
        rw (ne_eqb k j (λ q. omega arith))
        (ap (λ (n : ℕ). 2 ^ n / 2 ^ j % 2) (sym e)
        ∙ ap (λ (n : ℕ). n / 2 ^ j % 2) (pow-add 2 j (suc (k - suc j)) ∙ mul_comm (2 ^ j) (2 ^ suc (k - suc j)))
        ∙ ap (λ (n : ℕ). n % 2) (shl-shr (2 ^ suc (k - suc j)) j ∙ sym (one-mul (2 ^ suc (k - suc j))))
        ∙ shifted_even 1 (k - suc j))
    go (no h) (no l) =
        let e : k ≡ j = omega arith in
        rw (eq-eqb k j e) (ap (λ (n : ℕ). 2 ^ n / 2 ^ j % 2) e ∙ ap (λ (n : ℕ). n / 2 ^ j % 2) (sym (one-mul (2 ^ j))) ∙ ap (λ (n : ℕ). n % 2) (shl-shr 1 j))

or-bit : (m : ℕ) → m < 2 → (b : Bool) → eqb (bit_or m (bit_of b)) 1 ≡ (b || eqb m 1)
or-bit zero h true = refl
or-bit zero h false = refl
or-bit (suc zero) h true = refl
or-bit (suc zero) h false = refl
or-bit (suc (suc m)) h b = absurd (not-suc-le-zero (le_of_suc-le-suc (le_of_suc-le-suc h)))

-- bit j of a number with bit k set
pub bit-bit_or : (x k j : ℕ) → eqb (bit_or x (2 ^ k) / 2 ^ j % 2) 1 ≡ (eqb k j || eqb (x / 2 ^ j % 2) 1)
bit-bit_or x k j =
    ap (λ (n : ℕ). eqb (n % 2) 1) (or_shr x (2 ^ k) j)
    ∙ ap (λ (n : ℕ). eqb n 1) (or_mod (x / 2 ^ j) (2 ^ k / 2 ^ j) 1)
    ∙ ap (λ (n : ℕ). eqb (bit_or (x / 2 ^ j % 2) n) 1) (power-bit k j)
    ∙ or-bit (x / 2 ^ j % 2) (mod-lt (x / 2 ^ j) (lit< tt)) (eqb k j)

and-bit : (m n : ℕ) → m < 2 → n < 2 → eqb (bit_and m n) 1 ≡ (eqb m 1 && eqb n 1)
and-bit zero zero h g = refl
and-bit zero (suc zero) h g = refl
and-bit (suc zero) zero h g = refl
and-bit (suc zero) (suc zero) h g = refl
and-bit zero (suc (suc n)) h g = absurd (not-suc-le-zero (le_of_suc-le-suc (le_of_suc-le-suc g)))
and-bit (suc zero) (suc (suc n)) h g = absurd (not-suc-le-zero (le_of_suc-le-suc (le_of_suc-le-suc g)))
and-bit (suc (suc m)) n h g = absurd (not-suc-le-zero (le_of_suc-le-suc (le_of_suc-le-suc h)))

-- bit j of two numbers' common bits
pub bit-bit_and : (x y j : ℕ) → eqb (bit_and x y / 2 ^ j % 2) 1 ≡ (eqb (x / 2 ^ j % 2) 1 && eqb (y / 2 ^ j % 2) 1)
bit-bit_and x y j =
    ap (λ (n : ℕ). eqb (n % 2) 1) (and_shr x y j)
    ∙ ap (λ (n : ℕ). eqb n 1) (and_mod (x / 2 ^ j) (y / 2 ^ j) 1)
    ∙ and-bit (x / 2 ^ j % 2) (y / 2 ^ j % 2) (mod-lt (x / 2 ^ j) (lit< tt)) (mod-lt (y / 2 ^ j) (lit< tt))

-- a byte that is not 0 has a bit, computed over all bytes
pub nonzero-bits : (x : ℕ) → x < 256 → not (eqb x 0) ≡ any (λ j. eqb (x / 2 ^ j % 2) 1) (tab (λ j. j) 0 8)
unfolding any
nonzero-bits x h =
    eq-of-beq (not (eqb x 0)) (any (λ j. eqb (x / 2 ^ j % 2) 1) (tab (λ j. j) 0 8))
    (T-of-every (λ y. beq (not (eqb y 0)) (any (λ j. eqb (y / 2 ^ j % 2) 1) (tab (λ j. j) 0 8))) 256 tt x h)

-- ---- one bit of a list

-- a bit reads its byte alone
pub bit_at-of-byte : (xs ys : List ℕ) (i : ℕ) → get_or xs (i / 8) 0 ≡ get_or ys (i / 8) 0 → bit_at xs i ≡ bit_at ys i
unfolding bit_at
bit_at-of-byte xs ys i e = rw e

-- past the end no bit is set
pub bit_at-out : (xs : List ℕ) (i : ℕ) → length xs ≤ i / 8 → bit_at xs i ≡ false
unfolding bit_at
bit_at-out xs i h = rw (get_or-eq_default xs 0 h, zero-div)

-- past the end nothing is set
pub set_bit-out : (xs : List ℕ) (i : ℕ) → length xs ≤ i / 8 → set_bit xs i ≡ xs
unfolding set_bit
set_bit-out xs i h = set_out xs (i / 8) _ h

-- in a list of zeros no bit is set
pub bit_at-zeros : (n i : ℕ) → bit_at (replicate n 0) i ≡ false
unfolding bit_at
bit_at-zeros n i = rw (zeros n (i / 8), zero-div)
  where
    zeros : (n k : ℕ) → ◌≡◌ {A = ℕ} (get_or (replicate n 0) k 0) 0
    zeros zero k = refl
    zeros (suc n) zero = refl
    zeros (suc n) (suc k) = zeros n k

-- a store of a byte leaves the bits of the other bytes
pub bit_at-set-other : (xs : List ℕ) (b v i : ℕ) → (i / 8 ≡ b → ⊥) → bit_at (set xs b v) i ≡ bit_at xs i
bit_at-set-other xs b v i ne = bit_at-of-byte (set xs b v) xs i (get_or-set_other xs b (i / 8) v 0 ne)

pub length-set_bit : (xs : List ℕ) (i : ℕ) → length (set_bit xs i) ≡ length xs
unfolding set_bit
length-set_bit xs i = length-set xs (i / 8) (bit_or (get_or xs (i / 8) 0) (2 ^ (i % 8)))

-- the bytes that the bit does not lie in
pub get_d-set_bit-other : (xs : List ℕ) (i b : ℕ) → (b ≡ i / 8 → ⊥) → get_or (set_bit xs i) b 0 ≡ get_or xs b 0
unfolding set_bit
get_d-set_bit-other xs i b ne = get_or-set_other xs (i / 8) b _ 0 ne

-- two equations that follow from each other are one test
pub eqb-iff : (a b c d : ℕ) → (a ≡ b → c ≡ d) → (c ≡ d → a ≡ b) → eqb a b ≡ eqb c d
eqb-iff a b c d f g = go (eqb a b) refl
  where
    go : (t : Bool) → eqb a b ≡ t → eqb a b ≡ eqb c d
    go true e = e ∙ sym (eq-eqb c d (f (eqb-true a b e)))
    go false e = e ∙ sym (ne_eqb c d (λ q. eqb-false a b e (g q)))

-- two bounds that hold together are one test
pub ltb_iff : (a b c : ℕ) → (a < b → a < c) → (a < c → a < b) → ltb a b ≡ ltb a c
ltb_iff a b c f g = go (ltb a b) refl
  where
    go : (t : Bool) → ltb a b ≡ t → ltb a b ≡ ltb a c
    go true e = e ∙ sym (lt-ltb a c (f (ltb-true a b e)))
    go false e = e ∙ sym (le-ltb a c (le_of_suc-le-suc (lt_of_not-le (λ l. not-le_of_lt (g l) (ltb-false a b e)))))

-- a bit that is set in the list is set, and each other is as it was
pub bit_at-set_bit : (xs : List ℕ) (i j : ℕ) → i / 8 < length xs → bit_at (set_bit xs i) j ≡ (eqb i j || bit_at xs j)
unfolding bit_at set_bit
bit_at-set_bit xs i j h = go (eqb (j / 8) (i / 8)) refl
  where
    v : ℕ
    v = bit_or (get_or xs (i / 8) 0) (2 ^ (i % 8))

    go : (b : Bool) → eqb (j / 8) (i / 8) ≡ b → bit_at (set_bit xs i) j ≡ (eqb i j || bit_at xs j)
    go true t =
        let e : j / 8 ≡ i / 8 = eqb-true (j / 8) (i / 8) t in
        ap (λ (n : ℕ). eqb (get_or (set xs (i / 8) v) n 0 / 2 ^ (j % 8) % 2) 1) e
        ∙ ap (λ (n : ℕ). eqb (n / 2 ^ (j % 8) % 2) 1) (get_or-set_same xs (i / 8) v 0 h)
        ∙ bit-bit_or (get_or xs (i / 8) 0) (i % 8) (j % 8)
        ∙ ap (λ (n : ℕ). eqb (i % 8) (j % 8) || eqb (get_or xs n 0 / 2 ^ (j % 8) % 2) 1) (sym e)
        ∙ ap (λ (b : Bool). b || bit_at xs j) (eqb-iff (i % 8) (j % 8) i j (λ q. omega arith) (λ q. omega arith))
    go false t =
        let ne : j / 8 ≡ i / 8 → ⊥ = eqb-false (j / 8) (i / 8) t in
        ap (λ (n : ℕ). eqb (n / 2 ^ (j % 8) % 2) 1) (get_or-set_other xs (i / 8) (j / 8) v 0 ne)
        ∙ ap (λ (b : Bool). b || bit_at xs j) (sym (ne_eqb i j (λ q. ne (ap (λ (n : ℕ). n / 8) (sym q)))))

-- a bit that lies in the list, or past its end
in-or-out : {A : Type 0} (xs : List ℕ) (i : ℕ) → (i / 8 < length xs → A) → (length xs ≤ i / 8 → A) → A
in-or-out {A} xs i f g = go (dec_lt (i / 8) (length xs))
  where
    go : Dec (i / 8 < length xs) → A
    go (yes h) = f h
    go (no h) = g (omega arith)

-- setting a bit unsets none
pub bit_at-set_bit-of-bit_at : (xs : List ℕ) (i j : ℕ) → T (bit_at xs j) → T (bit_at (set_bit xs i) j)
bit_at-set_bit-of-bit_at xs i j t =
    in-or-out xs i (λ h. rw (bit_at-set_bit xs i j h) (T-or-right (eqb i j) (bit_at xs j) t)) (λ h. rw (set_bit-out xs i h) t)

-- the bit that was set is set
pub bit_at-set_bit-same : (xs : List ℕ) (i : ℕ) → i / 8 < length xs → T (bit_at (set_bit xs i) i)
bit_at-set_bit-same xs i h = rw (bit_at-set_bit xs i i h, true-of-T (eqb i i) (eqb_refl i)) tt

-- where a bit is set after one was set, it is that one or was set before
pub same-or-bit_at-of-set_bit : (xs : List ℕ) (i j : ℕ) → T (bit_at (set_bit xs i) j) → (i ≡ j) ⊎ T (bit_at xs j)
same-or-bit_at-of-set_bit xs i j t =
    in-or-out xs i
    (λ h. T-or-elim (eqb i j) (bit_at xs j) (λ q. inl (eqb-true i j (true-of-T (eqb i j) q))) (λ q. inr q) (rw (bit_at-set_bit xs i j h) at t))
    (λ h. inr (rw (set_bit-out xs i h) at t))

-- ---- a run of bits

-- one number more, as a loop sets its bit: the test b of number e, and the number i of its bit
pub set_all-more : (p : ℕ → Bool) (f : ℕ → ℕ) (e i : ℕ) (b : Bool) (xs ys zs : List ℕ) → ys ≡ set_all p f e xs → b ≡ p e → i ≡ f e
    → zs ≡ cond b (set_bit ys i) ys → zs ≡ set_all p f (e + 1) xs
unfolding set_all
set_all-more p f e i b xs ys zs y h k z = rw (add-one, ← y, ← h, ← k) z

pub length-set_all : (p : ℕ → Bool) (f : ℕ → ℕ) (n : ℕ) (xs : List ℕ) → length (set_all p f n xs) ≡ length xs
unfolding set_all
length-set_all p f zero xs = refl
length-set_all p f (suc n) xs =
    cond-elim (λ (ys : List ℕ). length ys ≡ length xs) (p n) (λ t. length-set_bit (set_all p f n xs) (f n) ∙ length-set_all p f n xs) (λ t. length-set_all p f n xs)

-- the bytes that none of the bits lies in
pub get_d-set_all-other : (p : ℕ → Bool) (f : ℕ → ℕ) (n : ℕ) (xs : List ℕ) (b : ℕ) → ((e : ℕ) → b ≡ f e / 8 → ⊥)
    → get_or (set_all p f n xs) b 0 ≡ get_or xs b 0
unfolding set_all
get_d-set_all-other p f zero xs b ne = refl
get_d-set_all-other p f (suc n) xs b ne =
    cond-elim (λ (ys : List ℕ). get_or ys b 0 ≡ get_or xs b 0) (p n) (λ t. get_d-set_bit-other (set_all p f n xs) (f n) b (ne n) ∙ get_d-set_all-other p f n xs b ne)
    (λ t. get_d-set_all-other p f n xs b ne)

-- bits that were set stay
pub bit_at-set_all-of-bit_at : (p : ℕ → Bool) (f : ℕ → ℕ) (n : ℕ) (xs : List ℕ) (j : ℕ) → T (bit_at xs j) → T (bit_at (set_all p f n xs) j)
unfolding set_all
bit_at-set_all-of-bit_at p f zero xs j t = t
bit_at-set_all-of-bit_at p f (suc n) xs j t =
    let s = bit_at-set_all-of-bit_at p f n xs j t in
    cond-elim (λ (ys : List ℕ). T (bit_at ys j)) (p n) (λ h. bit_at-set_bit-of-bit_at (set_all p f n xs) (f n) j s) (λ h. s)

-- the bit of each number below n that passes the test is set
pub bit_at-set_all-of-test : (p : ℕ → Bool) (f : ℕ → ℕ) (n : ℕ) (xs : List ℕ) (e : ℕ) → e < n → T (p e) → f e / 8 < length xs
    → T (bit_at (set_all p f n xs) (f e))
unfolding set_all
bit_at-set_all-of-test p f zero xs e l h i = absurd (not-suc-le-zero l)
bit_at-set_all-of-test p f (suc n) xs e l h i =
    ⊎_elim (λ q. last n q)
    (λ m.
    let s = bit_at-set_all-of-test p f n xs e m h i in
    cond-elim (λ (ys : List ℕ). T (bit_at ys (f e))) (p n) (λ t. bit_at-set_bit-of-bit_at (set_all p f n xs) (f n) (f e) s) (λ t. s))
    (eq-or-lt_of_le (le_of_suc-le-suc l))
  where
    last : (m : ℕ) → e ≡ m → T (bit_at (cond (p m) (set_bit (set_all p f m xs) (f m)) (set_all p f m xs)) (f e))
    last m q =
        cond_yes (λ (ys : List ℕ). T (bit_at ys (f e))) (p m) (set_all p f m xs) (subst (λ (k : ℕ). T (p k)) q h)
        (subst (λ (k : ℕ). T (bit_at (set_bit (set_all p f m xs) (f k)) (f e))) q
        (bit_at-set_bit-same (set_all p f m xs) (f e) (rw length-set_all i)))

-- where a bit is set after a run of bits was, it is the bit of a number that passes the test or was set before
pub test-or-bit_at-of-set_all : (p : ℕ → Bool) (f : ℕ → ℕ) (n : ℕ) (xs : List ℕ) (j : ℕ) → T (bit_at (set_all p f n xs) j)
    → ((e : ℕ) × (e < n) × T (p e) × (f e ≡ j)) ⊎ T (bit_at xs j)
unfolding set_all
test-or-bit_at-of-set_all p f zero xs j t = inr t
test-or-bit_at-of-set_all p f (suc n) xs j t =
    cond-elim (λ (ys : List ℕ). T (bit_at ys j) → ((e : ℕ) × (e < suc n) × T (p e) × (f e ≡ j)) ⊎ T (bit_at xs j)) (p n)
    (λ h s.
    ⊎_elim (λ q. inl (n, le_refl (suc n), h, q)) (λ r. later (test-or-bit_at-of-set_all p f n xs j r))
    (same-or-bit_at-of-set_bit (set_all p f n xs) (f n) j s))
    (λ h s. later (test-or-bit_at-of-set_all p f n xs j s)) t
  where
    later : ((e : ℕ) × (e < n) × T (p e) × (f e ≡ j)) ⊎ T (bit_at xs j) → ((e : ℕ) × (e < suc n) × T (p e) × (f e ≡ j)) ⊎ T (bit_at xs j)
    later s = ⊎_elim (λ w. inl (w.0, omega arith, w.2, w.3)) (λ r. inr r) s

-- in a list that had no bits only the bits of numbers that pass the test are set
pub test-of-set_all-zeros : (p : ℕ → Bool) (f : ℕ → ℕ) (n m j : ℕ) → T (bit_at (set_all p f n (replicate m 0)) j)
    → (e : ℕ) × (e < n) × T (p e) × (f e ≡ j)
test-of-set_all-zeros p f n m j t =
    ⊎_elim (λ w. w) (λ s. absurd (subst T (bit_at-zeros m j) s)) (test-or-bit_at-of-set_all p f n (replicate m 0) j t)
