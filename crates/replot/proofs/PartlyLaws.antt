-- A list whose first elements are replaced, one after the other. Assumes nothing.
use mathlib.Core.List.{List, [], ◌∷◌, map}
use mathlib.Core.Path.{◌≡◌, refl, sym, ap, ◌∙◌}
use Prim.Native.Nat.{ℕ, zero, suc, ◌+◌, ◌<◌}
use native.Mathlib.Nat.{not-suc-le-zero, le_of_suc-le-suc, add-suc, add-zero}
use lib.ListN.{length, get_or, set}

-- the first k elements are replaced by what f makes of them
unfoldable pub partly : {X : Type 0} → (X → X) → ℕ → List X → List X
partly f zero xs = xs
partly f (suc k) [] = []
partly f (suc k) (x ∷ xs) = f x ∷ partly f k xs

pub partly_none : {X : Type 0} (f : X → X) (xs : List X) → partly f 0 xs ≡ xs
unfolding partly
partly_none f xs = refl

partly-set : {X : Type 0} (f : X → X) (k : ℕ) (xs : List X) (d : X) → k < length xs → set (partly f k xs) k (f (get_or (partly f k xs) k d)) ≡ partly f (suc k) xs
unfolding partly
partly-set f zero [] d l = absurd (not-suc-le-zero l)
partly-set f zero (x ∷ xs) d l = refl
partly-set f (suc k) [] d l = absurd (not-suc-le-zero l)
partly-set f (suc k) (x ∷ xs) d l = ap (λ (ys : List _). f x ∷ ys) (partly-set f k xs d (le_of_suc-le-suc l))

-- one element more is replaced
pub partly-next : {X : Type 0} (f : X → X) (k : ℕ) (xs : List X) (d : X) → k < length xs → set (partly f k xs) k (f (get_or (partly f k xs) k d)) ≡ partly f (k + 1) xs
partly-next f k xs d l = partly-set f k xs d l ∙ ap (λ (j : ℕ). partly f j xs) (sym (add-suc k zero ∙ ap suc (add-zero k)))

pub partly-all : {X : Type 0} (f : X → X) (xs : List X) → partly f (length xs) xs ≡ map f xs
unfolding partly
partly-all f [] = refl
partly-all f (x ∷ xs) = ap (λ (ys : List _). f x ∷ ys) (partly-all f xs)
