-- A mask has the code of each kind that the value fits, and no other. Assumes nothing.
use mathlib.Core.Bool.{Bool, true, false, cond, beq, ◌&&◌}
use mathlib.Core.Path.{◌≡◌, refl, sym, ap, ◌∙◌}
use Prim.Native.Nat.{ℕ, zero, suc, ◌+◌, ◌-◌, ◌*◌, ◌/◌, ◌%◌, ◌^◌, ◌<◌, ◌≤◌}
use native.Mathlib.Decide.{dec_lt}
use native.Mathlib.Nat.{div-eq_of_lt, lt_of_lt_of_le, mod-eq_of_lt}
use native.Mathlib.Omega.{arith}
use lib.Dec.{T, eqb, ltb}
use lib.Pow.{shl_exact, shl-shr, shr-shr, pow_mono}
use borrow.Author.Tests.{lt-ltb, le-ltb, eq-eqb, ne_eqb, eqb-true, eqb-false}
use Rattle.laws.specs.Tab.{every}
use Rattle.laws.proofs.TestLaws.{eq-of-beq}
use Rattle.laws.proofs.TabLaws.{T-of-every}
use Rattle.laws.proofs.BitLaws.{one_shl}
use Rattle.table.specs.Kind.{kind_of, code_of, fits_kind, rule_fits}
use Rattle.table.specs.declared.kind.Scalar.{Scalar}
use Rattle.table.specs.declared.kind.Scalar.TheVariants.{Null, True, False, Str, Num, Int}
use Rattle.table.specs.declared.kind.ValueKind.TheVariants.{Plain, Rule}
use Rattle.table.specs.declared.kind.Finished.TheVariants as Done
use Rattle.frame.specs.Edges.{fits_code}
use Rattle.frame.specs.Mask.{mask_has, has_last_bits, bit_if_fits, scalar_mask}

-- ---- the test of a code, first by its last six bits

-- a code whose bit is set is the mask's where it is below 64
pub mask_has-low : (m c : ℕ) → m / 2 ^ (c % 64) % 2 ≡ 1 → ltb c 64 ≡ mask_has m c
unfolding mask_has
mask_has-low m c h = go (dec_lt c 64)
  where
    go : Dec (c < 64) → ltb c 64 ≡ cond (ltb c 64) (eqb (m / 2 ^ c % 2) 1) false
    go (yes l) = rw (lt-ltb c 64 l) (sym (eq-eqb (m / 2 ^ c % 2) 1 (rw (mod-eq_of_lt l) at h)))
    go (no l) = rw (le-ltb c 64 (omega arith))

-- a code whose bit is not set is not
pub mask_has-none : (m c : ℕ) → (m / 2 ^ (c % 64) % 2 ≡ 1 → ⊥) → false ≡ mask_has m c
unfolding mask_has
mask_has-none m c h = go (dec_lt c 64)
  where
    go : Dec (c < 64) → false ≡ cond (ltb c 64) (eqb (m / 2 ^ c % 2) 1) false
    go (yes l) = rw (lt-ltb c 64 l) (sym (ne_eqb (m / 2 ^ c % 2) 1 (λ e. h (rw (mod-eq_of_lt l) e))))
    go (no l) = rw (le-ltb c 64 (omega arith))

-- a code is the mask's where its last six bits are, and it has no others
pub mask_has-apart : (m c : ℕ) → mask_has m c ≡ (has_last_bits m c && ltb c 64)
unfolding has_last_bits
mask_has-apart m c = go (eqb (m / 2 ^ (c % 64) % 2) 1) refl
  where
    go : (v : Bool) → eqb (m / 2 ^ (c % 64) % 2) 1 ≡ v → mask_has m c ≡ (v && ltb c 64)
    go true h = sym (mask_has-low m c (eqb-true _ 1 h))
    go false h = sym (mask_has-none m c (eqb-false _ 1 h))

-- three tests, of which the code below 64 comes last
pub last-tested : (a r t : Bool) → a ≡ true → r ≡ true → t ≡ ((a && t) && r)
last-tested true true true h k = refl
last-tested true true false h k = refl
last-tested true false t h k = cc
last-tested false r t h k = cc

pub before-missed : (a r t : Bool) → r ≡ false → false ≡ ((a && t) && r)
before-missed a true t h = cc
before-missed true false true h = refl
before-missed true false false h = refl
before-missed false false t h = refl

-- a code from 6 on is that of a rule
pub kind_of-rule : (c : ℕ) → 6 ≤ c → kind_of c ≡ Rule (c - 6)
unfolding kind_of
kind_of-rule c h =
    rw (ne_eqb c 0 (λ e. omega arith), ne_eqb c 1 (λ e. omega arith), ne_eqb c 2 (λ e. omega arith), ne_eqb c 3 (λ e. omega arith), ne_eqb c 4 (λ e. omega arith), ne_eqb c 5 (λ e. omega arith))

-- ---- a scalar

-- the codes of the plain kinds are below 6
pub plain-code-lt : (k : Scalar) (c : ℕ) → c ≡ code_of (Plain k) → c < 6
unfolding code_of
plain-code-lt Null c e = omega arith
plain-code-lt True c e = omega arith
plain-code-lt False c e = omega arith
plain-code-lt Str c e = omega arith
plain-code-lt Num c e = omega arith
plain-code-lt Int c e = omega arith

-- the bit of a plain kind's code is at most 32
pub plain-bit-le : (k : Scalar) (c : ℕ) → c ≡ code_of (Plain k) → (1 * 2 ^ c) % 2 ^ 64 ≤ 32
plain-bit-le k c p = let l = plain-code-lt k c p in rw (one_shl 64 c (omega arith)) (pow_mono {i = c} {j = 5} (omega arith))

-- the bit of a kind that the scalar fits, and of one that it does not
module _ (k s : Scalar) (b : Bool) (q : b ≡ fits_kind (Plain k) (Done.Scalar s)) where
  pub bit-of-fit : (c : ℕ) → b ≡ true → c ≡ code_of (Plain k) → (1 * 2 ^ c) % 2 ^ 64 ≡ bit_if_fits k s
  unfolding bit_if_fits
  bit-of-fit c e p = let l = plain-code-lt k c p in rw (one_shl 64 c (omega arith), sym q ∙ e, p)

  pub bit-of-misfit : b ≡ false → 0 ≡ bit_if_fits k s
  unfolding bit_if_fits
  bit-of-misfit e = rw (sym q ∙ e)

-- from 64 on a mask has no code, and a scalar fits none
far : (s : Scalar) (c : ℕ) → 64 ≤ c → mask_has (scalar_mask s) c ≡ fits_code (Done.Scalar s) c
unfolding mask_has fits_code
far s c h = rw (le-ltb c 64 h, kind_of-rule c (omega arith))

-- below 64 the codes are computed
near : (s : Scalar) → T (every (λ c. beq (mask_has (scalar_mask s) c) (fits_code (Done.Scalar s) c)) 0 64)
unfolding mask_has fits_code kind_of bit_if_fits code_of
near Null = tt
near True = tt
near False = tt
near Str = tt
near Num = tt
near Int = tt

-- the mask of a scalar
pub mask_has-scalar_mask : (s : Scalar) (c : ℕ) → mask_has (scalar_mask s) c ≡ fits_code (Done.Scalar s) c
mask_has-scalar_mask s c = go (dec_lt c 64)
  where
    go : Dec (c < 64) → mask_has (scalar_mask s) c ≡ fits_code (Done.Scalar s) c
    go (yes h) =
        eq-of-beq (mask_has (scalar_mask s) c) (fits_code (Done.Scalar s) c)
        (T-of-every (λ k. beq (mask_has (scalar_mask s) k) (fits_code (Done.Scalar s) k)) 64 (near s) c h)
    go (no h) = far s c (omega arith)

-- ---- a set of rules, shifted by the six plain kinds

-- no plain kind
low : (rules c : ℕ) → c < 6 → mask_has (64 * rules) c ≡ fits_code (Done.Rules rules) c
unfolding mask_has fits_code kind_of
low rules zero h = let e : 64 * rules / 1 % 2 ≡ 0 = omega arith in ap (λ (n : ℕ). eqb n 1) e
low rules (suc zero) h = let e : 64 * rules / 2 % 2 ≡ 0 = omega arith in ap (λ (n : ℕ). eqb n 1) e
low rules (suc (suc zero)) h = let e : 64 * rules / 4 % 2 ≡ 0 = omega arith in ap (λ (n : ℕ). eqb n 1) e
low rules (suc (suc (suc zero))) h = let e : 64 * rules / 8 % 2 ≡ 0 = omega arith in ap (λ (n : ℕ). eqb n 1) e
low rules (suc (suc (suc (suc zero)))) h = let e : 64 * rules / 16 % 2 ≡ 0 = omega arith in ap (λ (n : ℕ). eqb n 1) e
low rules (suc (suc (suc (suc (suc zero))))) h = let e : 64 * rules / 32 % 2 ≡ 0 = omega arith in ap (λ (n : ℕ). eqb n 1) e
low rules (suc (suc (suc (suc (suc (suc c)))))) h = absurd (omega arith)

-- the bit of rule n
rule-bit : (rules n : ℕ) → 64 * rules / 2 ^ (6 + n) ≡ rules / 2 ^ n
rule-bit rules n =
    sym (shr-shr (64 * rules) 6 n)
    ∙ ap (λ (m : ℕ). m / 2 ^ n) (let e : 64 * rules ≡ rules * 2 ^ 6 = omega arith in ap (λ (m : ℕ). m / 2 ^ 6) e ∙ shl-shr rules 6)

-- the mask of a set of rules
mask_has-rules : (rules : ℕ) → rules < 2 ^ 32 → (c : ℕ) → mask_has (64 * rules) c ≡ fits_code (Done.Rules rules) c
unfolding mask_has fits_code rule_fits
mask_has-rules rules b c = go (dec_lt c 6) (dec_lt c 38) (dec_lt c 64)
  where
    go : Dec (c < 6) → Dec (c < 38) → Dec (c < 64) → mask_has (64 * rules) c ≡ fits_code (Done.Rules rules) c
    go (yes h) d e = low rules c h
    go (no g) (yes h) (no e) = absurd (omega arith)
    go (no g) (yes h) (yes e) =
        let k : 6 + (c - 6) ≡ c = omega arith in
        rw (kind_of-rule c (omega arith), lt-ltb c 64 e, lt-ltb (c - 6) 32 (omega arith))
        (ap (λ (m : ℕ). eqb (m % 2) 1) (ap (λ (m : ℕ). 64 * rules / 2 ^ m) (sym k) ∙ rule-bit rules (c - 6)))
    go (no g) (no h) (yes e) =
        let k : 6 + (c - 6) ≡ c = omega arith in
        let z : rules / 2 ^ (c - 6) ≡ 0 = div-eq_of_lt (lt_of_lt_of_le b (pow_mono {i = 32} {j = c - 6} (omega arith))) in
        rw (kind_of-rule c (omega arith), lt-ltb c 64 e, le-ltb (c - 6) 32 (omega arith))
        (ap (λ (m : ℕ). eqb (m % 2) 1) (ap (λ (m : ℕ). 64 * rules / 2 ^ m) (sym k) ∙ rule-bit rules (c - 6) ∙ z))
    go (no g) (no h) (no e) = rw (kind_of-rule c (omega arith), le-ltb c 64 (omega arith), le-ltb (c - 6) 32 (omega arith))

-- the mask of an object or array: the set of the rules that it fits, shifted by the code of rule 0
pub mask_has-rules-shl : (rules k : ℕ) → rules < 2 ^ 32 → k ≡ code_of (Rule 0) → (c : ℕ) → mask_has ((rules * 2 ^ k) % 2 ^ 64) c ≡ fits_code (Done.Rules rules) c
unfolding code_of
mask_has-rules-shl rules k b e c =
    let m : rules * 2 ^ 6 ≡ 64 * rules = omega arith in
    rw (e, shl_exact 32 6 64 b (omega arith), m) (mask_has-rules rules b c)
