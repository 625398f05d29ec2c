-- The memory for corners with one number more, and whether one is unfit. Assumes nothing.
use mathlib.Core.Bool.{◌||◌}
use mathlib.Core.List.{List, [], ◌∷◌, ◌++◌}
use mathlib.Core.Path.{◌≡◌, refl, sym, ap, ◌∙◌}
use Prim.Native.Nat.{ℕ, zero, suc, ◌≤◌, ◌<◌}
use native.Mathlib.Decide.{dec_lt, ℕ_discrete}
use native.Mathlib.Omega.{arith}
use lib.IntN.{ℤ, pos}
use lib.ListN.{length, get_or, set, replicate, length-set}
use lib.Seq.{ext_get_or, get_or-set_same, get_or-set_other}
use borrow.Author.Tests.{lt-ltb, le-ltb}
use Rattle.laws.specs.Tab.{tab}
use Rattle.laws.proofs.TabLaws.{length-tab, get_d-tab}
use Rattle.book.proofs.KeyLaws.{any_last}
use Rattle.std.specs.Prelude.{Option, Some, None}
use Rattle.coordinate.specs.Exact.{coordinate_of}
use Rattle.boundary.specs.Exact.{value_of, is_unfit, unfit_in, number_at, filled, put_at}

-- ---- number i of numbers with one more

get_d-last : (ns : List (List ℕ)) (ds : List ℕ) → get_or (ns ++ (ds ∷ [])) (length ns) [] ≡ ds
get_d-last [] ds = refl
get_d-last (n ∷ ns) ds = get_d-last ns ds

get_d-other : (ns : List (List ℕ)) (ds : List ℕ) (i : ℕ) → (i ≡ length ns → ⊥) → get_or (ns ++ (ds ∷ [])) i [] ≡ get_or ns i []
get_d-other [] ds zero h = absurd (h refl)
get_d-other [] ds (suc i) h = refl
get_d-other (n ∷ ns) ds zero h = refl
get_d-other (n ∷ ns) ds (suc i) h = get_d-other ns ds i (λ e. h (ap suc e))

get_d_past : (ns : List (List ℕ)) → get_or ns (length ns) [] ≡ []
get_d_past [] = refl
get_d_past (n ∷ ns) = get_d_past ns

tab-ext : {A : Type 0} (f g : ℕ → A) (i n : ℕ) → ((k : ℕ) → f k ≡ g k) → tab f i n ≡ tab g i n
tab-ext f g i zero h = refl
tab-ext f g i (suc n) h = rw (h i, tab-ext f g (suc i) n h) refl

tab-constant : {A : Type 0} (f : ℕ → A) (v : A) (i n : ℕ) → ((k : ℕ) → f k ≡ v) → tab f i n ≡ replicate n v
tab-constant f v i zero h = refl
tab-constant f v i (suc n) h = rw (h i, tab-constant f v (suc i) n h) refl

module _ (ns : List (List ℕ)) (ds : List ℕ) where
  number_at-last : number_at (ns ++ (ds ∷ [])) (length ns) ≡ value_of (coordinate_of ds)
  unfolding number_at
  number_at-last = rw (get_d-last ns ds) refl

  number_at-other : (i : ℕ) → (i ≡ length ns → ⊥) → number_at (ns ++ (ds ∷ [])) i ≡ number_at ns i
  unfolding number_at
  number_at-other i h = rw (get_d-other ns ds i h) refl

  number_at-past : number_at ns (length ns) ≡ pos 0
  unfolding number_at coordinate_of
  number_at-past = rw (get_d_past ns) refl

  -- an unfit number leaves 0 in its place
  pub filled-unfit : coordinate_of ds ≡ None → filled (ns ++ (ds ∷ [])) ≡ filled ns
  unfolding filled
  filled-unfit e = tab-ext (number_at (ns ++ (ds ∷ []))) (number_at ns) 0 2048 (λ k. go k (ℕ_discrete k (length ns)))
    where
      go : (k : ℕ) → Dec (k ≡ length ns) → number_at (ns ++ (ds ∷ [])) k ≡ number_at ns k
      go k (yes h) = rw h (number_at-last ∙ rw e (sym number_at-past))
      go k (no h) = number_at-other k h

  length-filled : (ms : List (List ℕ)) → length (filled ms) ≡ 2048
  unfolding filled
  length-filled ms = length-tab (number_at ms) 0 2048

  at-filled : (ms : List (List ℕ)) (k : ℕ) → k < 2048 → get_or (filled ms) k (pos 0) ≡ number_at ms k
  unfolding filled
  at-filled ms k h = get_d-tab (number_at ms) (pos 0) 2048 k h

  -- a number is put in its place, where there is one
  pub filled_at : (z : ℤ) (n : ℕ) → coordinate_of ds ≡ Some z → n ≡ length ns → n < 2048 → filled (ns ++ (ds ∷ [])) ≡ set (filled ns) n z
  filled_at z n e m h =
      ext_get_or (pos 0) (filled (ns ++ (ds ∷ []))) (set (filled ns) n z)
      (length-filled (ns ++ (ds ∷ [])) ∙ sym (length-set (filled ns) n z ∙ length-filled ns))
      (λ k l. go k (rw (length-filled (ns ++ (ds ∷ []))) at l) (ℕ_discrete k n))
    where
      go : (k : ℕ) → k < 2048 → Dec (k ≡ n) → get_or (filled (ns ++ (ds ∷ []))) k (pos 0) ≡ get_or (set (filled ns) n z) k (pos 0)
      go k l (yes q) =
          let here : number_at (ns ++ (ds ∷ [])) k ≡ z = rw (q ∙ m) (number_at-last ∙ ap value_of e) in
          let there : get_or (set (filled ns) n z) k (pos 0) ≡ z = rw q (get_or-set_same (filled ns) n z (pos 0) (omega (arith, length-filled ns))) in
          at-filled (ns ++ (ds ∷ [])) k l ∙ here ∙ sym there
      go k l (no q) =
          at-filled (ns ++ (ds ∷ [])) k l ∙ number_at-other k (λ x. q (x ∙ sym m)) ∙ sym (get_or-set_other (filled ns) n k z (pos 0) q ∙ at-filled ns k l)

  pub filled-past : (n : ℕ) → n ≡ length ns → 2048 ≤ n → filled (ns ++ (ds ∷ [])) ≡ filled ns
  filled-past n m h =
      ext_get_or (pos 0) (filled (ns ++ (ds ∷ []))) (filled ns) (length-filled (ns ++ (ds ∷ [])) ∙ sym (length-filled ns))
      (λ k l. go k (rw (length-filled (ns ++ (ds ∷ []))) at l))
    where
      go : (k : ℕ) → k < 2048 → get_or (filled (ns ++ (ds ∷ []))) k (pos 0) ≡ get_or (filled ns) k (pos 0)
      go k l = at-filled (ns ++ (ds ∷ [])) k l ∙ number_at-other k (λ x. omega arith) ∙ sym (at-filled ns k l)

  pub unfit-last : unfit_in (ns ++ (ds ∷ [])) ≡ (unfit_in ns || is_unfit (coordinate_of ds))
  unfolding unfit_in
  unfit-last = any_last (λ (x : List ℕ). is_unfit (coordinate_of x)) ns ds

-- no number
pub filled_none : filled [] ≡ replicate 2048 (pos 0)
unfolding filled number_at coordinate_of
filled_none = tab-constant (number_at []) (pos 0) 0 2048 (λ k. refl)

-- the memory after a number that is taken
pub filled-of-put : (ns : List (List ℕ)) (ds : List ℕ) {n : ℕ} → n ≡ length ns → put_at (filled ns) n (coordinate_of ds) ≡ filled (ns ++ (ds ∷ []))
filled-of-put ns ds {n} e = go (coordinate_of ds) refl (dec_lt n 2048)
  where
    go : (c : Option ℤ) → coordinate_of ds ≡ c → Dec (n < 2048) → put_at (filled ns) n c ≡ filled (ns ++ (ds ∷ []))
    go (Some z) h (yes l) = rw (lt-ltb n 2048 l) (sym (filled_at ns ds z n h e l))
    go (Some z) h (no l) = rw (le-ltb n 2048 (omega arith)) (sym (filled-past ns ds n e (omega arith)))
    go None h l = sym (filled-unfit ns ds h)
