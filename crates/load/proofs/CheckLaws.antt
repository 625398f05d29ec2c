-- The checks of a table, by the tests on the way: each law takes their results and gives the answer there. Assumes nothing.
use mathlib.Core.Bool.{Bool, true, false, not, ◌&&◌, ◌||◌}
use mathlib.Core.Path.{◌≡◌, refl, sym, ◌∙◌}
use Prim.Native.Nat.{ℕ, zero, suc, ◌+◌}
use native.Mathlib.Numerals.{add-one}
use native.Mathlib.Omega.{arith}
use lib.Dec.{eqb, ltb}
use lib.ListN.{get_or}
use borrow.Author.Tests.{eq-eqb, ne_eqb, eqb-true}
use Rattle.std.proofs.Common.{Option, Some, None}
use Rattle.table.specs.Table.{Table}
use Rattle.load.specs.declared.Refusal.TheVariants.{NoRule, NoRoot, NotAscending}
use Rattle.load.specs.Step.{Loaded, loaded, refusal}
use Rattle.store.specs.Store.{some}
use Rattle.load.specs.Check.{clash_codes, clash_at, late_at, clashes_at, dangling, clashing, check_table}

-- ---- an edge and those before it
some-one-more : (f : ℕ → Bool) (i n : ℕ) → some f i (suc n) ≡ (some f i n || f (i + n))
some-one-more f i zero = let e : i + 0 ≡ i = omega arith in rw e (go (f i))
  where
    go : (b : Bool) → (b || false) ≡ b
    go true = refl
    go false = refl
some-one-more f i (suc n) = let e : i + suc n ≡ i + 1 + n = omega arith in rw (e, some-one-more f (i + 1) n) (go (f i))
  where
    go : (b : Bool) → (b || (some f (i + 1) n || f (i + 1 + n))) ≡ ((b || some f (i + 1) n) || f (i + 1 + n))
    go true = refl
    go false = refl

-- an edge clashes with one up to it where it does with one before it, or with itself
pub late_split : (t : Table) (b : ℕ) → late_at t b ≡ (some (clashes_at t b) 0 b || clashes_at t b b)
unfolding late_at
late_split t b = let e : 0 + b ≡ b = omega arith in rw add-one (rw e at (some-one-more (clashes_at t b) 0 b))

-- ---- an edge of a rule that is no obj rule
not-second : (x y : Bool) → (x && (false && y)) ≡ false
not-second true y = refl
not-second false y = refl

some-none : (f : ℕ → Bool) → ((i : ℕ) → f i ≡ false) → (i n : ℕ) → some f i n ≡ false
some-none f h i zero = refl
some-none f h i (suc n) = rw (h i, some-none f h (i + 1) n)

module _ (t : Table) (b : ℕ) (h : eqb (get_or t.forms (get_or t.edge_rule b 0) 0) 1 ≡ false) where
  from-it : (a : ℕ) → clash_at t b a ≡ false
  unfolding clash_at clash_codes
  from-it a = rw h

  to-it : (a : ℕ) → clash_at t a b ≡ false
  unfolding clash_at clash_codes
  to-it a = go (eqb (get_or t.edge_rule a 0) (get_or t.edge_rule b 0)) refl
    where
      go : (q : Bool) → eqb (get_or t.edge_rule a 0) (get_or t.edge_rule b 0) ≡ q → clash_at t a b ≡ false
      go true e =
          let w : get_or t.edge_rule a 0 ≡ get_or t.edge_rule b 0 = eqb-true (get_or t.edge_rule a 0) (get_or t.edge_rule b 0) e in
          rw (w, h)
      go false e =
          rw e
          (not-second (eqb (get_or t.forms (get_or t.edge_rule a 0) 0) 1)
          (eqb (get_or t.edge_next a 0) (get_or t.edge_state b 0) && not (ltb (get_or t.edge_key a 0) (get_or t.edge_key b 0))))

  neither : (a : ℕ) → clashes_at t b a ≡ false
  unfolding clashes_at
  neither a = rw (to-it a, from-it a)

  -- it clashes with none
  pub late_at-other : false ≡ late_at t b
  unfolding late_at
  late_at-other = sym (some-none (clashes_at t b) neither 0 (b + 1))

-- ---- a table
module _ (t : Table) (v : Loaded) (o : Option ℕ) (q : o ≡ dangling t) where
  pub check-dangling : (e d : ℕ) → o ≡ Some e → d ≡ get_or t.edge_line e 0 → v ≡ refusal (NoRule d) → v ≡ check_table t
  unfolding check_table
  check-dangling e d p l w = rw (sym q ∙ p) (rw (← l) w)

  module _ (no : o ≡ None) (x : ℕ) (qx : x ≡ get_or t.forms 0 0) where
    pub check-root : x ≡ 0 → v ≡ refusal NoRoot → v ≡ check_table t
    unfolding check_table
    check-root h w = rw (sym q ∙ no, eq-eqb (get_or t.forms 0 0) 0 (sym qx ∙ h)) w

    module _ (nx : x ≡ 0 → ⊥) (c : Option ℕ) (p : c ≡ clashing t) where
      root : get_or t.forms 0 0 ≡ 0 → ⊥
      root z = nx (qx ∙ z)

      pub check-clash : (e d : ℕ) → c ≡ Some e → d ≡ get_or t.edge_line e 0 → v ≡ refusal (NotAscending d) → v ≡ check_table t
      unfolding check_table
      check-clash e d k l w = rw (sym q ∙ no, ne_eqb (get_or t.forms 0 0) 0 root, sym p ∙ k) (rw (← l) w)

      pub check-good : c ≡ None → v ≡ loaded t → v ≡ check_table t
      unfolding check_table
      check-good k w = rw (sym q ∙ no, ne_eqb (get_or t.forms 0 0) 0 root, sym p ∙ k) w
