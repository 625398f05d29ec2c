-- The computed number of a corner is the stated one: it is read of the bytes, and nothing else is. Assumes nothing.
use mathlib.Core.Bool.{Bool, true, false, cond, ◌&&◌}
use mathlib.Core.List.{List, [], ◌∷◌}
use mathlib.Core.Path.{◌≡◌, refl, sym, ap, subst, ◌∙◌}
use Prim.Native.Nat.{ℕ, zero, suc, ◌≤◌}
use native.Mathlib.Omega.{arith}
use lib.Dec.{T, eqb, leb}
use lib.IntN.{ℤ, pos, neg_ℤ, nat_abs}
use borrow.Author.Tests.{eqb-true, eqb-false, leb-true, leb-false}
use Rattle.laws.specs.Lists.{all}
use Rattle.laws.proofs.TestLaws.{T_and, T-and-left, T-and-right, T-of-true, true-neq-false, true-of-T}
use Rattle.json_text.specs.Bytes.{within}
use Rattle.json_text.specs.Numbers.{is_digit, Digits, no_digits, digits, SomeDigits, some_digits}
use Rattle.coordinate.specs.Coordinate.{value_from, Plain, plain, minus_plain, InRange, Reads, reads_at, reads_unfit}
use Rattle.coordinate.specs.Exact.{whole_from, whole_of, negated, coordinate_of}
use Rattle.std.specs.Bool.{then_some}
use Rattle.std.specs.Option.{option_map}
use Rattle.std.specs.Prelude.{Option, Some, None}

-- ---- digits

digits-of-all : (ds : List ℕ) → T (all is_digit ds) → Digits ds
unfolding all
digits-of-all [] h = no_digits
digits-of-all (d ∷ ds) h = digits (T-and-left (is_digit d) _ h) (digits-of-all ds (T-and-right (is_digit d) _ h))

all-of-digits : {ds : List ℕ} → Digits ds → T (all is_digit ds)
unfolding all
all-of-digits no_digits = tt
all-of-digits (digits {d} h ds) = T_and (is_digit d) _ h (all-of-digits ds)

some_digits-of-all : (d : ℕ) (ds : List ℕ) → T (all is_digit (d ∷ ds)) → SomeDigits (d ∷ ds)
unfolding all
some_digits-of-all d ds h = some_digits (T-and-left (is_digit d) _ h) (digits-of-all ds (T-and-right (is_digit d) _ h))

all-of-some_digits : {ds : List ℕ} → SomeDigits ds → T (all is_digit ds)
unfolding all
all-of-some_digits (some_digits {d} h s) = T_and (is_digit d) _ h (all-of-digits s)

-- a minus sign is no digit
minus-not-digit : {X : Type 0} {ds : List ℕ} → SomeDigits (0x2D ∷ ds) → X
unfolding is_digit within
minus-not-digit (some_digits h ds) = absurd h

-- what `whole_of` says of its digits
data Whole (ds : List ℕ) : Option ℕ → Type 0 where
  fit : SomeDigits ds → value_from 0 ds ≤ 1000000 → Whole ds (Some (value_from 0 ds))
  unfit : (SomeDigits ds → value_from 0 ds ≤ 1000000 → ⊥) → Whole ds None

whole-whole_of : (ds : List ℕ) → Whole ds (whole_of ds)
unfolding whole_of whole_from
whole-whole_of [] = unfit (elim [ ])
whole-whole_of (d ∷ ds) = go (all is_digit (d ∷ ds)) refl (leb (value_from 0 (d ∷ ds)) 1000000) refl
  where
    go : (t : Bool) → all is_digit (d ∷ ds) ≡ t → (l : Bool) → leb (value_from 0 (d ∷ ds)) 1000000 ≡ l → Whole (d ∷ ds) (then_some (t && l) (value_from 0 (d ∷ ds)))
    go true p true q = fit (some_digits-of-all d ds (T-of-true _ p)) (leb-true _ 1000000 q)
    go true p false q = unfit (λ s h. omega (arith, leb-false (value_from 0 (d ∷ ds)) 1000000 q))
    go false p l q = unfit (λ s h. true-neq-false (sym (true-of-T _ (all-of-some_digits s)) ∙ p))

-- bytes that do not start with a minus sign are plain digits only as they stand
digits-of-plain : {b : ℕ} {ds : List ℕ} {z : ℤ} → (b ≡ 0x2D → ⊥) → Plain (b ∷ ds) z → SomeDigits (b ∷ ds) × (z ≡ pos (value_from 0 (b ∷ ds)))
digits-of-plain e (plain s) = (s, refl)
digits-of-plain e (minus_plain s) = absurd (e refl)

nat_abs-neg : (n : ℕ) → nat_abs (neg_ℤ (pos n)) ≡ n
nat_abs-neg zero = refl
nat_abs-neg (suc n) = refl

-- ---- the joining laws

-- what is computed of the bytes is read of them
pub reads-coordinate_of : (ds : List ℕ) → Reads ds (coordinate_of ds)
unfolding coordinate_of
reads-coordinate_of [] = reads_unfit never
  where
    none : SomeDigits [] → ⊥
    none = elim [ ]

    never : (z : ℤ) → Plain [] z → InRange z → ⊥
    never z (plain s) r = none s
reads-coordinate_of (b ∷ ds) = go (eqb b 0x2D) refl
  where
    below : {c : Option ℕ} → Whole ds c → Reads (0x2D ∷ ds) (option_map negated c)
    below (fit s h) = reads_at (minus_plain s) (rw (nat_abs-neg (value_from 0 ds)) h)
    below (unfit k) = reads_unfit never
      where
        never : (z : ℤ) → Plain (0x2D ∷ ds) z → InRange z → ⊥
        never z (plain s) r = minus-not-digit s
        never z (minus_plain s) r = k s (rw (nat_abs-neg (value_from 0 ds)) at r)

    alone : (b ≡ 0x2D → ⊥) → {c : Option ℕ} → Whole (b ∷ ds) c → Reads (b ∷ ds) (option_map pos c)
    alone e (fit s h) = reads_at (plain s) h
    alone e (unfit k) = reads_unfit (λ z p r. let w = digits-of-plain e p in k w.0 (rw w.1 at r))

    go : (t : Bool) → eqb b 0x2D ≡ t → Reads (b ∷ ds) (cond t (option_map negated (whole_of ds)) (option_map pos (whole_of (b ∷ ds))))
    go true e = subst (λ (x : ℕ). Reads (x ∷ ds) (option_map negated (whole_of ds))) (sym (eqb-true b 0x2D e)) (below (whole-whole_of ds))
    go false e = alone (eqb-false b 0x2D e) (whole-whole_of (b ∷ ds))

-- the digits have one value
plain-unique : {ds : List ℕ} {y z : ℤ} → Plain ds y → Plain ds z → y ≡ z
plain-unique (plain s) (plain t) = refl
plain-unique (plain s) (minus_plain t) = minus-not-digit s
plain-unique (minus_plain s) (plain t) = minus-not-digit t
plain-unique (minus_plain s) (minus_plain t) = refl

-- one thing is read of the bytes
pub reads-unique : {ds : List ℕ} {a b : Option ℤ} → Reads ds a → Reads ds b → a ≡ b
reads-unique (reads_at p h) (reads_at q k) = ap Some (plain-unique p q)
reads-unique (reads_at p h) (reads_unfit f) = absurd (f _ p h)
reads-unique (reads_unfit f) (reads_at q k) = absurd (f _ q k)
reads-unique (reads_unfit f) (reads_unfit g) = refl

-- a number that is read is in range
pub in_range-of-coordinate : (ds : List ℕ) (z : ℤ) → coordinate_of ds ≡ Some z → InRange z
in_range-of-coordinate ds z e = go (subst (Reads ds) e (reads-coordinate_of ds))
  where
    go : Reads ds (Some z) → InRange z
    go (reads_at p h) = h
