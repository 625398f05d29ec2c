-- What the tests of lists mean, and laws of lists over their members. Assumes nothing.
use mathlib.Core.Bool.{Bool}
use mathlib.Core.List.{List, [], ◌∷◌, map, Memᴰ}
use mathlib.Core.Path.{◌≡◌, refl}
use Prim.Native.Nat.{ℕ}
use lib.Dec.{T, eqb, eqb→eq, eqb_refl}
use Rattle.laws.specs.Lists.{same, all, any}
use Rattle.laws.proofs.TestLaws.{T_and, T-and-left, T-and-right, T-or-elim, T-or-left, T-or-right}

-- ---- same

pub same_refl : (s : List ℕ) → T (same s s)
unfolding same
same_refl [] = tt
same_refl (a ∷ s) = T_and (eqb a a) (same s s) (eqb_refl a) (same_refl s)

pub eq-of-same : (s t : List ℕ) → T (same s t) → s ≡ t
unfolding same
eq-of-same [] [] h = refl
eq-of-same [] (b ∷ t) h = absurd h
eq-of-same (a ∷ s) [] h = absurd h
eq-of-same (a ∷ s) (b ∷ t) h = cc (eqb→eq a b (T-and-left (eqb a b) (same s t) h), eq-of-same s t (T-and-right (eqb a b) (same s t) h))

-- ---- any

-- where a test holds of a member, it holds of some member
pub any-of-member : {A : Type 0} (f : A → Bool) {x : A} {xs : List A} → Memᴰ x xs → T (f x) → T (any f xs)
unfolding any
any-of-member f (Memᴰ.head {x = y} {xs} e) h = T-or-left (f y) (any f xs) (rw e at h)
any-of-member f (Memᴰ.tail {x = y} {xs} i) h = T-or-right (f y) (any f xs) (any-of-member f i h)

-- where a test holds of some member, there is a member of which it holds
pub member-of-any : {A : Type 0} (f : A → Bool) (xs : List A) → T (any f xs) → (x : A) × Memᴰ x xs × T (f x)
unfolding any
member-of-any f [] h = absurd h
member-of-any {A} f (y ∷ xs) h =
    T-or-elim (f y) (any f xs) (λ (g : T (f y)). (y, Memᴰ.head refl, g)) (λ (g : T (any f xs)). further (member-of-any f xs g)) h
  where
    further : (x : A) × Memᴰ x xs × T (f x) → (x : A) × Memᴰ x (y ∷ xs) × T (f x)
    further (x, i, g) = (x, Memᴰ.tail i, g)

-- ---- all

-- a test that holds of each member holds of any one
pub T-of-all : {A : Type 0} (f : A → Bool) {x : A} (xs : List A) → T (all f xs) → Memᴰ x xs → T (f x)
unfolding all
T-of-all {A = A} f [] h x3 = elim x3 [ ]
T-of-all f (y ∷ xs) h (Memᴰ.head e) = rw e (T-and-left (f y) (all f xs) h)
T-of-all f (y ∷ xs) h (Memᴰ.tail i) = T-of-all f xs (T-and-right (f y) (all f xs) h) i

-- ---- map

-- where two functions make the same list of a list, they are the same at each member
pub eq-of-map : {A B : Type 0} (f g : A → B) {x : A} (xs : List A) → map f xs ≡ map g xs → Memᴰ x xs → f x ≡ g x
eq-of-map {A = A} {B = B} f g [] e x3 = elim x3 [ ]
eq-of-map f g (y ∷ xs) e (Memᴰ.head d) = rw d cc
eq-of-map f g (y ∷ xs) e (Memᴰ.tail i) = eq-of-map f g xs (cc) i
