-- Scans of bytes: the first separator, a test of every byte, and what digits mean. Assumes nothing.
use mathlib.Core.Bool.{Bool, true, false, not, cond, ◌&&◌, ◌||◌}
use mathlib.Core.List.{List, [], ◌∷◌}
use mathlib.Core.Path.{◌≡◌, refl, sym, ap, ◌∙◌}
use Prim.Native.Nat.{ℕ, suc, ◌+◌, ◌*◌, ◌-◌, ◌<◌, ◌≤◌}
use native.Mathlib.Numerals.{add-one}
use native.Mathlib.Omega.{arith}
use lib.Dec.{eqb, ltb}
use lib.ListN.{length, take, drop, length-drop}
use lib.Seq.{take_all}
use borrow.Author.Tests.{ne_eqb, lt-ltb, le-ltb, ltb-true, ltb-false}
use Rattle.std.proofs.Common.{Option, Some, None, position}
use Rattle.std.specs.List.{position_or_len, list_all, fold}
use Rattle.laws.specs.Lists.{all}
use Rattle.book.specs.Text.{split, onto, between, is_empty, is_number, number_from, number}
use Rattle.scan.specs.Scan.{below, FirstPart}

-- ---- the first separator
module _ (c : ℕ) where
  abbrev at : List ℕ → ℕ
  at s = position_or_len (λ b. eqb b c) s

  -- a separator ends the first part
  split_at : (s : List ℕ) → at s < length s → split c s ≡ take (at s) s ∷ split c (drop (at s + 1) s)
  unfolding split onto
  split_at [] h = absurd (omega arith)
  split_at (x ∷ s) h = rw add-one (go (eqb x c) (rw add-one at (split_at s)) h)
    where
      go : (b : Bool) → (at s < length s → split c s ≡ take (at s) s ∷ split c (drop (suc (at s)) s)) → cond (not b) (1 + at s) 0 < suc (length s)
          → cond b ([] ∷ split c s) (onto x (split c s)) ≡ take (cond (not b) (1 + at s) 0) (x ∷ s) ∷ split c (drop (suc (cond (not b) (1 + at s) 0)) (x ∷ s))
      go true ih l = refl
      go false ih l = let e : 1 + at s ≡ suc (at s) = omega arith in rw e (ap (onto x) (ih (omega arith)))

  -- without a separator all is one part
  split-none : (s : List ℕ) → length s ≤ at s → split c s ≡ s ∷ []
  unfolding split onto
  split-none [] h = refl
  split-none (x ∷ s) h = go (eqb x c) (split-none s) h
    where
      go : (b : Bool) → (length s ≤ at s → split c s ≡ s ∷ []) → suc (length s) ≤ cond (not b) (1 + at s) 0 → cond b ([] ∷ split c s) (onto x (split c s)) ≡ (x ∷ s) ∷ []
      go true ih l = absurd (omega arith)
      go false ih l = ap (onto x) (ih (omega arith))

  pub no-place : (s : List ℕ) (o : Option ℕ) → o ≡ position (λ b. eqb b c) s → o ≡ None → split c s ≡ s ∷ []
  no-place s o p e = go (ltb (at s) (length s)) refl (sym p ∙ e)
    where
      go : (b : Bool) → ltb (at s) (length s) ≡ b → cond b (Some (at s)) None ≡ None → split c s ≡ s ∷ []
      go true l q = absurd (cc)
      go false l q = split-none s (ltb-false (at s) (length s) l)

  pub first-place : (s : List ℕ) (o : Option ℕ) (i : ℕ) → o ≡ position (λ b. eqb b c) s → o ≡ Some i
      → FirstPart c s (take i s) (take (length s - (i + 1)) (drop (i + 1) s))
  first-place s o i p e = go (ltb (at s) (length s)) refl (sym p ∙ e)
    where
      go : (b : Bool) → ltb (at s) (length s) ≡ b → cond b (Some (at s)) None ≡ Some i → FirstPart c s (take i s) (take (length s - (i + 1)) (drop (i + 1) s))
      go true l q =
          let z : at s ≡ i = cc in
          let h = ltb-true (at s) (length s) l in
          rw (← z) (rw (take_all (length s - (at s + 1)) (drop (at s + 1) s) (omega (arith, length-drop (at s + 1) s)))
          (record { parts = split_at s h; shorter = omega (arith, length-drop (at s + 1) s) }))
      go false l q = absurd (cc)

-- ---- every byte
pub all_list : {A : Type 0} (f : A → Bool) (xs : List A) → list_all f xs ≡ all f xs
unfolding all
all_list f [] = refl
all_list f (x ∷ xs) = rw (all_list f xs)

-- ---- numbers
module _ (d : ℕ) (t : List ℕ) (a b : Bool) (qa : a ≡ between 48 57 d) (qb : b ≡ list_all (between 48 57) t) where
  parts : ((a && b) && (not (eqb d 48) || eqb (length t) 0)) ≡ is_number (d ∷ t)
  unfolding is_number is_empty
  parts = rw (qa, qb, all_list (between 48 57) t) (go (between 48 57 d) (all (between 48 57) t) t)
    where
      empty : (u : List ℕ) → eqb (length u) 0 ≡ is_empty u
      empty [] = refl
      empty (x ∷ u) = ne_eqb (suc (length u)) 0 (λ z. omega arith)

      go : (x y : Bool) (u : List ℕ) → ((x && y) && (not (eqb d 48) || eqb (length u) 0)) ≡ (x && (y && (not (eqb d 48) || is_empty u)))
      go true y u = rw (empty u)
      go false y u = refl

  pub number-some : (s : List ℕ) (e : Bool) → s ≡ d ∷ t → e ≡ eqb (length t) 0 → ((a && b) && (not (eqb d 48) || e)) ≡ is_number s
  number-some s e p q = rw (p, q) parts

pub number-none : (s : List ℕ) → length s ≡ 0 → false ≡ is_number s
unfolding is_number
number-none [] h = refl
number-none (d ∷ s) h = absurd (omega arith)

-- digits after a number only make it larger
pub number_from-ge : (a : ℕ) (s : List ℕ) → a ≤ number_from a s
unfolding number_from
number_from-ge a [] = omega arith
number_from-ge a (d ∷ s) = omega (arith, number_from-ge (a * 10 + (d - 48)) s)

module _ (m : ℕ) where
  abbrev grow : ℕ → ℕ → ℕ
  grow acc b = cond (ltb acc m) (acc * 10 + (b - 48)) acc

  below-ge : (v : ℕ) → m ≤ v → below m v ≡ None
  unfolding below
  below-ge v h = rw (le-ltb v m h)

  fold-stop : (a : ℕ) (s : List ℕ) → m ≤ a → fold grow a s ≡ a
  fold-stop a [] h = refl
  fold-stop a (x ∷ s) h = rw (le-ltb a m h) (fold-stop a s h)

  below-fold : (a : ℕ) (s : List ℕ) → below m (fold grow a s) ≡ below m (number_from a s)
  unfolding number_from
  below-fold a [] = refl
  below-fold a (x ∷ s) = go (ltb a m) refl (below-fold (a * 10 + (x - 48)) s)
    where
      go : (b : Bool) → ltb a m ≡ b → below m (fold grow (a * 10 + (x - 48)) s) ≡ below m (number_from (a * 10 + (x - 48)) s) → below m (fold grow (cond b (a * 10 + (x - 48)) a) s) ≡ below m (number_from (a * 10 + (x - 48)) s)
      go true e ih = ih
      go false e ih =
          let h = ltb-false a m e in
          rw (fold-stop a s h) (below-ge a h ∙ sym (below-ge (number_from (a * 10 + (x - 48)) s) (omega (arith, number_from-ge (a * 10 + (x - 48)) s))))

  module _ (s : List ℕ) (n : ℕ) (q : n ≡ fold grow 0 s) where
    value-is : below m n ≡ below m (number s)
    unfolding number
    value-is = ap (below m) q ∙ below-fold 0 s

    pub value-small : n < m → Some n ≡ below m (number s)
    unfolding below
    value-small h = rw (lt-ltb n m h) at value-is

    pub value-big : m ≤ n → None ≡ below m (number s)
    value-big h = sym (below-ge n h) ∙ value-is
