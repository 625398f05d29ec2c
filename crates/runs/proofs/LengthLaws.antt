-- An accepted object has at most 15 pairs: no state stands twice on a run over an object, and there are 16 states. Assumes nothing.
use mathlib.Core.Bool.{Bool, true, false, not, cond, ◌&&◌}
use mathlib.Core.List.{List}
use mathlib.Core.Path.{◌≡◌, refl, ap, ◌∙◌}
use Prim.Native.Nat.{ℕ, zero, suc, ◌<◌, ◌≤◌}
use native.Mathlib.Omega.{arith}
use lib.Dec.{T, not_T, eqb, eqb→eq, ltb, lt→ltb}
use borrow.Author.Tests.{ne_eqb, eqb-true, eqb-false}
use Rattle.laws.proofs.TestLaws.{T_and, true-of-T}
use Rattle.json_text.specs.Tree.{Json, object, Pairs, no_pairs, pairs}
use Rattle.table.specs.declared.kind.ValueKind.{ValueKind}
use Rattle.book.specs.Entry.{obj, Entry, edge}
use Rattle.runs.specs.Runs.{◌∈◌, Fits, fits_object, ObjectRun, object_end, object_edge, Insert, in_front, behind, Order, order_object, OrderPairs, order_no_pairs, order_pairs, Among, first, Within, FitsInSomeOrder, in_order, Valid}
use Rattle.runs.specs.Sound.{Sound, StatesBelow16}
use Rattle.runs.specs.Walk.{number_in}
use Rattle.runs.proofs.OrderLaws.{within-order}
use Rattle.runs.proofs.RunLaws.{number-lt-of-edges, number-lt-of-run, fits-of-within}

-- ---- how many numbers below n are in a set

count_below : (ℕ → Bool) → ℕ → ℕ
count_below S zero = 0
count_below S (suc n) = cond (S n) (suc (count_below S n)) (count_below S n)

-- a set without the number q
without : ℕ → (ℕ → Bool) → ℕ → Bool
without q S p = S p && not (eqb p q)

T-without : (q : ℕ) (S : ℕ → Bool) (p : ℕ) → T (S p) → (p ≡ q → ⊥) → T (without q S p)
unfolding without
T-without q S p h n = T_and (S p) (not (eqb p q)) h (not_T (eqb p q) (λ (g : T (eqb p q)). n (eqb→eq p q g)))

count_below-without-ge : (q : ℕ) (S : ℕ → Bool) (n : ℕ) → n ≤ q → count_below (without q S) n ≡ count_below S n
unfolding count_below without
count_below-without-ge q S zero h = refl
count_below-without-ge q S (suc n) h = rw (ne_eqb n q (λ e. omega arith), count_below-without-ge q S n (omega arith)) (go (S n))
  where
    go : (b : Bool) → cond (b && true) (suc (count_below S n)) (count_below S n) ≡ cond b (suc (count_below S n)) (count_below S n)
    go true = refl
    go false = refl

-- taking out a number that is in the set makes one fewer
count_below-without : (q : ℕ) (S : ℕ → Bool) (n : ℕ) → T (S q) → q < n → suc (count_below (without q S) n) ≡ count_below S n
unfolding count_below without
count_below-without q S zero s h = absurd (omega arith)
count_below-without q S (suc n) s h = go (eqb n q) refl (λ (g : q < n). count_below-without q S n s g)
  where
    last : (a b : Bool) (c d : ℕ) → a ≡ true → b ≡ true → c ≡ d → suc (cond (a && not b) (suc c) c) ≡ cond a (suc d) d
    last a b c d p e f = rw (p, e) (ap suc f)

    before : (a b : Bool) (c d : ℕ) → b ≡ false → suc c ≡ d → suc (cond (a && not b) (suc c) c) ≡ cond a (suc d) d
    before true b c d e f = rw e (ap suc f)
    before false b c d e f = f

    go : (b : Bool) → eqb n q ≡ b → (q < n → suc (count_below (without q S) n) ≡ count_below S n) → suc (count_below (without q S) (suc n)) ≡ count_below S (suc n)
    go true e r =
        let p : n ≡ q = eqb-true n q e in
        last (S n) (eqb n q) (count_below (without q S) n) (count_below S n) (rw p (true-of-T (S q) s)) e (count_below-without-ge q S n (omega arith))
    go false e r =
        let p : n ≡ q → ⊥ = eqb-false n q e in
        before (S n) (eqb n q) (count_below (without q S) n) (count_below S n) e (r (omega arith))

-- ---- how many pairs there are

-- the pairs of an object, counted
abbrev pub pair_count : Pairs → ℕ
pair_count no_pairs = 0
pair_count (pairs k v ps) = suc (pair_count ps)

pair_count-insert : {k : List ℕ} {v : Json} {ps qs : Pairs} → Insert k v ps qs → pair_count qs ≡ suc (pair_count ps)
pair_count-insert in_front = refl
pair_count-insert (behind i) = ap suc (pair_count-insert i)

pair_count-order : {ps qs : Pairs} → OrderPairs ps qs → pair_count qs ≡ pair_count ps
pair_count-order order_no_pairs = refl
pair_count-order (order_pairs o os i) = pair_count-insert i ∙ ap suc (pair_count-order os)

module _ {es : List Entry} (sound : Sound es) (below : StatesBelow16 es) where
  -- S has the state of the run, and what edges with key numbers from c on lead to: the run meets a new state of S with each pair
  pair_count-lt-states : (r c : ℕ) (S : ℕ → Bool) → ((q m : ℕ) (k : List ℕ) (t : ValueKind) → edge r obj q k t m ∈ es → c ≤ number_in es k → T (S m))
      → {q : ℕ} {ps : Pairs} → ObjectRun es r q ps
      → ((k : List ℕ) (v : Json) → Among k v ps → c ≤ number_in es k) → T (S q) → q < 16 → pair_count ps < count_below S 16
  pair_count-lt-states r c S next {q} (object_end i) above s h = let e : suc (count_below (without q S) 16) ≡ count_below S 16 = count_below-without q S 16 s h in omega arith
  pair_count-lt-states r c S next {q} (object_edge {m} {k} {t} {v} {ps} i f run) above s h =
      let e : suc (count_below (without q S) 16) ≡ count_below S 16 = count_below-without q S 16 s h in
      let g : pair_count ps < count_below (without q S) 16 =
      pair_count-lt-states r (suc (number_in es k)) (without q S) next' run (λ l u a. number-lt-of-run sound i run a)
      (T-without q S m (next q m k t i (above k v first)) apart) (below.next_below i) in
      omega arith
    where
      apart : m ≡ q → ⊥
      apart e = let z : number_in es k < number_in es k = number-lt-of-edges sound i (rw (← e) at i) in omega arith

      next' : (p n : ℕ) (l : List ℕ) (u : ValueKind) → edge r obj p l u n ∈ es → suc (number_in es k) ≤ number_in es l → T (without q S n)
      next' p n l u j g = let a : c ≤ number_in es k = above k v first in T-without q S n (next p n l u j (omega arith)) other
        where
          other : n ≡ q → ⊥
          other e = let z : number_in es l < number_in es k = number-lt-of-edges sound (rw e at j) i in omega arith

  -- a run over an object has at most 15 pairs
  pub pairs-le-15-of-run : {r : ℕ} {ps : Pairs} → ObjectRun es r 0 ps → pair_count ps ≤ 15
  unfolding count_below
  pairs-le-15-of-run {r} {ps} run =
      let h : pair_count ps < 16 = pair_count-lt-states r 0 (λ (p : ℕ). ltb p 16) (λ q m k t i g. lt→ltb m 16 (below.next_below i)) run (λ k v a. omega arith) tt (omega arith) in omega arith

  fits-le-15 : {t : ValueKind} {ps : Pairs} → Fits es t (object ps) → pair_count ps ≤ 15
  fits-le-15 (fits_object run) = pairs-le-15-of-run run

  -- an object within a valid text has at most 15 pairs
  pub pairs-le-15-of-valid : {v : Json} {ps : Pairs} → Valid es v → Within (object ps) v → pair_count ps ≤ 15
  pairs-le-15-of-valid {v} {ps} g h = go g.run
    where
      same_count : {u : ValueKind} {y : Json} → Order (object ps) y → Fits es u y → pair_count ps ≤ 15
      same_count (order_object {qs} os) f = let a : pair_count qs ≡ pair_count ps = pair_count-order os in let b : pair_count qs ≤ 15 = fits-le-15 f in omega arith

      go : {t : ValueKind} → FitsInSomeOrder es t v → pair_count ps ≤ 15
      go (in_order o f) = let (y, d, p) = within-order h o in let (u, x) = fits-of-within d f in same_count p x
