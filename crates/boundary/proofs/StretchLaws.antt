-- A stretch of bytes that pass a test, up to the first that does not. Assumes nothing.
use Rattle.std.specs.Prelude.{Option, Some, None, position, unwrap_or}
use Rattle.std.specs.List.{position_or_len}
use Rattle.std.proofs.lemmas.List.Sums.{prefix_len-le-length, passes_at_first}
use mathlib.Core.Bool.{Bool, true, false, cond, not}
use mathlib.Core.List.{List, [], ◌∷◌}
use mathlib.Core.Path.{◌≡◌, refl, sym, ap, subst, ◌∙◌}
use Prim.Native.Nat.{ℕ, suc, ◌+◌, ◌-◌, ◌≤◌, ◌<◌}
use native.Mathlib.Omega.{arith}
use lib.Dec.{T, ltb}
use borrow.Author.Tests.{ltb-false}
use lib.ListN.{length, get_or, take, drop, length-drop}
use lib.Seq.{take_all, get_or-drop}
use Rattle.laws.specs.Lists.{all}
use Rattle.laws.proofs.TestLaws.{T_and, T-of-true}
use Rattle.boundary.specs.Walk.{part, Stretch}

-- the bytes before the first that fails a test pass it
lead : (f : ℕ → Bool) (s : List ℕ) → T (all f (take (position_or_len (λ (b : ℕ). not (f b)) s) s))
unfolding all
lead f [] = tt
lead f (b ∷ s) = go (f b) refl (lead f s)
  where
    go : (v : Bool) → f b ≡ v → T (all f (take (position_or_len (λ (b : ℕ). not (f b)) s) s))
        → T (all f (take (cond (not (not v)) (1 + position_or_len (λ (b : ℕ). not (f b)) s) 0) (b ∷ s)))
    go true e t =
        let k : ℕ = position_or_len (λ (b : ℕ). not (f b)) s in
        let z : suc k ≡ 1 + k = omega arith in subst (λ (n : ℕ). T (all f (take n (b ∷ s)))) z (T_and (f b) _ (T-of-true (f b) e) t)
    go false e t = tt

false-of-not : (v : Bool) → not v ≡ true → v ≡ false
false-of-not true e = sym e
false-of-not false e = refl

module _ (f : ℕ → Bool) (s : List ℕ) (i : ℕ) (h : i ≤ length s) where
  fails : ℕ → Bool
  fails b = not (f b)

  count : ℕ
  count = position_or_len fails (drop i s)

  few : count ≤ length (drop i s)
  unfolding count
  few = prefix_len-le-length (λ b. not (fails b)) (drop i s)

  stops : i + count < length s → f (get_or s (i + count) 0) ≡ false
  unfolding count fails
  stops l = false-of-not _ (ap (λ (b : ℕ). not (f b)) (sym (get_or-drop i s count 0)) ∙ passes_at_first fails (drop i s) 0 (omega (arith, l, length-drop i s)))

  to-count : Stretch f s i (i + count)
  unfolding count fails
  to-count =
      let e : i + count - i ≡ count = omega arith in
      record { low = omega arith; high = omega (arith, few, length-drop i s); bytes = rw e (lead f (drop i s)); stop = stops }

  rest-is : part s i (length s) ≡ drop i s
  rest-is = take_all (length s - i) (drop i s) (omega (arith, length-drop i s))

  pub stretch-of-position : (r : Option ℕ) (n : ℕ) → r ≡ position (λ (b : ℕ). not (f b)) (part s i (length s)) → n ≡ unwrap_or r (length (part s i (length s)))
      → Stretch f s i (i + n)
  unfolding count fails
  stretch-of-position r n e u =
      go (ltb count (length (drop i s))) refl
      (u ∙ ap (λ (x : Option ℕ). unwrap_or x (length (part s i (length s)))) e
      ∙ ap (λ (t : List ℕ). unwrap_or (position (λ (b : ℕ). not (f b)) t) (length t)) rest-is)
    where
      go : (v : Bool) → ltb count (length (drop i s)) ≡ v → n ≡ unwrap_or (cond v (Some count) None) (length (drop i s)) → Stretch f s i (i + n)
      go true l m = rw m to-count
      go false l m = let z : n ≡ count = omega (arith, few, m, ltb-false _ _ l) in rw z to-count
