-- Where a point lies to a boundary: what `located` computes is what is stated, and nothing else is. Assumes nothing.
use mathlib.Core.Bool.{Bool, true, false, cond}
use mathlib.Core.List.{List, [], ◌∷◌, Memᴰ}
use mathlib.Core.Logic.{◌↔◌}
use mathlib.Core.Option.{some, some-injective}
use mathlib.Core.Path.{◌≡◌, refl, sym, ap, subst, ◌∙◌}
use Prim.Native.Nat.{ℕ, zero, suc, ◌+◌, ◌*◌, ◌≤◌, ◌<◌}
use native.Mathlib.Nat.{le_of_suc-le-suc, lt_of_not-le, le_antisymm}
use native.Mathlib.Omega.{arith}
use lib.Dec.{T, T_not}
use lib.IntN.{ℤ}
use lib.ListN.{get_elem?}
use lib.Signed.{lt_z, lt_z_yes, lt_z_no, ◌≤ℤ◌, ◌<ℤ◌, ≤ℤ_refl, <ℤ-≤ℤ_trans, clash_ℤ}
use Rattle.laws.specs.Lists.{any}
use Rattle.laws.proofs.TestLaws.{true-of-T, cond-elim, none-neq-some}
use Rattle.laws.proofs.ListLaws.{any-of-member, member-of-any}
use Rattle.integers.proofs.OrderLaws.{le_of_lt}
use Rattle.geometry.specs.declared.Point.{Point}
use Rattle.geometry.specs.declared.Located.{Located}
use Rattle.geometry.specs.declared.Place.{Place}
use Rattle.geometry.specs.declared.Place.TheVariants as Is
use Rattle.geometry.specs.Plane.{Side, sides, distance, OnBoundary, Crossings, no_sides, misses, Odd, CrossesRight, Nearest, Placed, on_the_edge, inside, outside}
use Rattle.geometry.specs.Plane as Plane
use Rattle.geometry.specs.Tests.{on_side, crosses_side, odd_crossings, nearest_from, nearest, place, located}
use Rattle.geometry.proofs.SegmentLaws.{on_segment-of-test, test-of-on_segment, crosses-of-test, test-of-crosses}

-- ---- the boundary

-- where the point is on the boundary, some side's test holds
pub test-of-on_boundary : {cs : List Point} {p : Point} → OnBoundary cs p → T (any (on_side p) (sides cs))
unfolding on_side
test-of-on_boundary {cs} {p} b = any-of-member (on_side p) b.among (test-of-on_segment b.segment)

-- where some side's test holds, the point is on the boundary
pub on_boundary-of-test : (cs : List Point) (p : Point) → T (any (on_side p) (sides cs)) → OnBoundary cs p
unfolding on_side
on_boundary-of-test cs p h = make (member-of-any (on_side p) (sides cs) h)
  where
    make : (s : Side) × Memᴰ s (sides cs) × T (on_side p s) → OnBoundary cs p
    make (s, i, t) = record { on = s; among = i; segment = on_segment-of-test s.from s.to p t }

-- ---- crossings

-- some number counts the crossings
pub crossings-exist : (p : Point) (ss : List Side) → (n : ℕ) × Crossings p ss n
unfolding crosses_side
crossings-exist p [] = (0, no_sides)
crossings-exist p (s ∷ ss) = add (crosses_side p s) refl (crossings-exist p ss)
  where
    add : (b : Bool) → crosses_side p s ≡ b → (n : ℕ) × Crossings p ss n → (n : ℕ) × Crossings p (s ∷ ss) n
    add true e (n, c) = (suc n, Plane.crosses (crosses-of-test s.from s.to p (subst T (sym e) tt)) c)
    add false e (n, c) = (n, misses (λ (h : CrossesRight s.from s.to p). subst T e (test-of-crosses h)) c)

-- the number that counts them is twice some number, and 1 more where the test of an odd number holds
pub parity-of-crossings : {p : Point} {ss : List Side} {n : ℕ} → Crossings p ss n → (h : ℕ) × (n ≡ 2 * h + cond (odd_crossings p ss) 1 0)
unfolding odd_crossings crosses_side
parity-of-crossings no_sides = (0, refl)
parity-of-crossings {p} (Plane.crosses {s} {ss} {n} h c) =
    add (crosses_side p s) (odd_crossings p ss) (true-of-T (crosses_side p s) (test-of-crosses h)) (parity-of-crossings c)
  where
    add : (b o : Bool) → b ≡ true → (h : ℕ) × (n ≡ 2 * h + cond o 1 0) → (h : ℕ) × (suc n ≡ 2 * h + cond (cond b (cond o false true) o) 1 0)
    add true true e (h, f) = (suc h, omega arith)
    add true false e (h, f) = (h, omega arith)
    add false o e f = absurd (subst T (sym e) tt)
parity-of-crossings {p} (misses {s} {ss} {n} h c) = keep (crosses_side p s) (λ t. h (crosses-of-test s.from s.to p t)) (parity-of-crossings c)
  where
    keep : (b : Bool) → (T b → ⊥) → (h : ℕ) × (n ≡ 2 * h + cond (odd_crossings p ss) 1 0) → (h : ℕ) × (n ≡ 2 * h + cond (cond b (cond (odd_crossings p ss) false true) (odd_crossings p ss)) 1 0)
    keep true f g = absurd (f tt)
    keep false f g = g

-- the number of crossings is odd where the test holds
pub odd-of-test : {p : Point} {ss : List Side} {n : ℕ} → Crossings p ss n → T (odd_crossings p ss) → Odd n
odd-of-test {p} {ss} {n} c t = make (parity-of-crossings c)
  where
    make : (h : ℕ) × (n ≡ 2 * h + cond (odd_crossings p ss) 1 0) → Odd n
    make (h, e) = record { half = h; is = e ∙ ap (λ b. 2 * h + cond b 1 0) (true-of-T (odd_crossings p ss) t) }

-- where the number of crossings is odd, the test holds
pub test-of-odd : {p : Point} {ss : List Side} {n : ℕ} → Crossings p ss n → Odd n → T (odd_crossings p ss)
test-of-odd {p} {ss} {n} c o = make (odd_crossings p ss) (parity-of-crossings c)
  where
    make : (b : Bool) → (h : ℕ) × (n ≡ 2 * h + cond b 1 0) → T b
    make true e = tt
    make false (h, e) = absurd (omega (arith, o.is))

-- ---- the nearest corner

-- the first of the corners, where none is nearer
pub nearest-head : {p c : Point} {cs : List Point} → ((j : ℕ) (b : Point) → get_elem? cs j ≡ some b → distance c p ≤ℤ distance b p) → Nearest (c ∷ cs) p 0
nearest-head {p} {c} {cs} f = record { corner = c; is = refl; least = least; lowest = λ j b h e. absurd (omega arith) }
  where
    least : (j : ℕ) (b : Point) → get_elem? (c ∷ cs) j ≡ some b → distance c p ≤ℤ distance b p
    least zero b e = subst (λ q. distance c p ≤ℤ distance q p) (some-injective c b e) (≤ℤ_refl (distance c p))
    least (suc j) b e = f j b e

-- the nearest of the corners after the first, where it is nearer than the first
pub nearest-tail : {p c : Point} {cs : List Point} {k : ℕ} (n : Nearest cs p k) → distance n.corner p <ℤ distance c p → Nearest (c ∷ cs) p (suc k)
nearest-tail {p} {c} {cs} {k} n h = record { corner = n.corner; is = n.is; least = least; lowest = lowest }
  where
    least : (j : ℕ) (b : Point) → get_elem? (c ∷ cs) j ≡ some b → distance n.corner p ≤ℤ distance b p
    least zero b e = subst (λ q. distance n.corner p ≤ℤ distance q p) (some-injective c b e) (le_of_lt h)
    least (suc j) b e = n.least j b e

    lowest : (j : ℕ) (b : Point) → j < suc k → get_elem? (c ∷ cs) j ≡ some b → distance n.corner p <ℤ distance b p
    lowest zero b l e = subst (λ q. distance n.corner p <ℤ distance q p) (some-injective c b e) h
    lowest (suc j) b l e = n.lowest j b (le_of_suc-le-suc l) e

-- what `nearest_from` ends at: the corner m that it had, where none of the rest is nearer than d; or the nearest of the rest
pub data Ends (p : Point) (i m : ℕ) (d : ℤ) (cs : List Point) : ℕ → Type 0 where
  kept : ((j : ℕ) (b : Point) → get_elem? cs j ≡ some b → d ≤ℤ distance b p) → Ends p i m d cs m
  moved : {k : ℕ} (n : Nearest cs p k) → distance n.corner p <ℤ d → Ends p i m d cs (i + k)

-- `nearest_from` ends at what `Ends` says
pub nearest_from-ends : (p : Point) (i m : ℕ) (d : ℤ) (cs : List Point) → Ends p i m d cs (nearest_from p i m d cs)
unfolding nearest_from nearest-head nearest-tail
nearest_from-ends p i m d [] = kept (λ j b e. none-neq-some e)
nearest_from-ends p i m d (c ∷ cs) =
    cond-elim (λ r. Ends p i m d (c ∷ cs) r) (lt_z (distance c p) d) (λ t. nearer (lt_z_yes t) (nearest_from-ends p (suc i) i (distance c p) cs)) (λ t. further (lt_z_no t) (nearest_from-ends p (suc i) m d cs))
  where
    next : (k : ℕ) → i + suc k ≡ suc i + k
    next k = omega arith

    here : i + 0 ≡ i
    here = omega arith

    nearer : {r : ℕ} → distance c p <ℤ d → Ends p (suc i) i (distance c p) cs r → Ends p i m d (c ∷ cs) r
    nearer h (kept f) = subst (λ r. Ends p i m d (c ∷ cs) r) here (moved (nearest-head f) h)
    nearer h (moved {k} n g) = subst (λ r. Ends p i m d (c ∷ cs) r) (next k) (moved (nearest-tail n g) (<ℤ-≤ℤ_trans g (le_of_lt h)))

    further : {r : ℕ} → d ≤ℤ distance c p → Ends p (suc i) m d cs r → Ends p i m d (c ∷ cs) r
    further h (kept f) = kept all
      where
        all : (j : ℕ) (b : Point) → get_elem? (c ∷ cs) j ≡ some b → d ≤ℤ distance b p
        all zero b e = subst (λ q. d ≤ℤ distance q p) (some-injective c b e) h
        all (suc j) b e = f j b e
    further h (moved {k} n g) = subst (λ r. Ends p i m d (c ∷ cs) r) (next k) (moved (nearest-tail n (<ℤ-≤ℤ_trans g h)) g)

-- `nearest` computes the nearest corner
pub nearest-nearest : (c : Point) (cs : List Point) (p : Point) → Nearest (c ∷ cs) p (nearest (c ∷ cs) p)
unfolding nearest
nearest-nearest c cs p = make (nearest_from-ends p 1 0 (distance c p) cs)
  where
    make : {r : ℕ} → Ends p 1 0 (distance c p) cs r → Nearest (c ∷ cs) p r
    make (kept f) = nearest-head f
    make (moved {k} n h) = subst (λ r. Nearest (c ∷ cs) p r) (one_more k) (nearest-tail n h)
      where
        one_more : (k : ℕ) → suc k ≡ 1 + k
        one_more k = omega arith

-- there is one nearest corner
pub nearest-unique : {cs : List Point} {p : Point} {i j : ℕ} → Nearest cs p i → Nearest cs p j → i ≡ j
nearest-unique {cs} {p} {i} {j} m n = le_antisymm (not-later n m) (not-later m n)
  where
    not-later : {i j : ℕ} → Nearest cs p i → Nearest cs p j → j ≤ i
    not-later {i} {j} m n = le_of_suc-le-suc (lt_of_not-le (λ (h : i < j). clash_ℤ (n.lowest i m.corner h m.is) (m.least j n.corner n.is)))

-- ---- the answer

-- a place with the nearest corner
abbrev at_nearest : List Point → Point → Place → Located
at_nearest cs p w = record { place = w; nearest = nearest cs p }

-- what `located` computes is where the point lies
pub placed-located : (c : Point) (cs : List Point) (p : Point) → Placed (c ∷ cs) p (located (c ∷ cs) p)
unfolding located place
placed-located c cs p =
    cond-elim
    (λ w. Placed (c ∷ cs) p (at_nearest (c ∷ cs) p w))
    (any (on_side p) (sides (c ∷ cs)))
    (λ h. on_the_edge (on_boundary-of-test (c ∷ cs) p h) (nearest-nearest c cs p))
    (λ h. apart (λ b. T_not (any (on_side p) (sides (c ∷ cs))) h (test-of-on_boundary b)) (crossings-exist p (sides (c ∷ cs))))
  where
    apart : (OnBoundary (c ∷ cs) p → ⊥) → (n : ℕ) × Crossings p (sides (c ∷ cs)) n → Placed (c ∷ cs) p (at_nearest (c ∷ cs) p (cond (odd_crossings p (sides (c ∷ cs))) Is.Inside Is.Outside))
    apart off (n, k) =
        cond-elim
        (λ w. Placed (c ∷ cs) p (at_nearest (c ∷ cs) p w))
        (odd_crossings p (sides (c ∷ cs)))
        (λ h. inside off k (odd-of-test k h) (nearest-nearest c cs p))
        (λ h. outside off k (λ o. T_not (odd_crossings p (sides (c ∷ cs))) h (test-of-odd k o)) (nearest-nearest c cs p))

-- the same place with the same corner
located-at : (w : Place) {i j : ℕ} → i ≡ j → ◌≡◌ {A = Located} (record { place = w; nearest = i }) (record { place = w; nearest = j })
located-at w e = ap (λ (i : ℕ). record { place = w; nearest = i }) e

-- a point lies in one place
pub placed-unique : {cs : List Point} {p : Point} {l m : Located} → Placed cs p l → Placed cs p m → l ≡ m
placed-unique (on_the_edge b i) (on_the_edge c j) = located-at Is.Edge (nearest-unique i j)
placed-unique (on_the_edge b i) (inside off k o j) = absurd (off b)
placed-unique (on_the_edge b i) (outside off k o j) = absurd (off b)
placed-unique (inside off k o i) (on_the_edge b j) = absurd (off b)
placed-unique (inside off k o i) (inside off' k' o' j) = located-at Is.Inside (nearest-unique i j)
placed-unique (inside off k o i) (outside off' k' o' j) = absurd (o' (odd-of-test k' (test-of-odd k o)))
placed-unique (outside off k o i) (on_the_edge b j) = absurd (off b)
placed-unique (outside off k o i) (inside off' k' o' j) = absurd (o (odd-of-test k (test-of-odd k' o')))
placed-unique (outside off k o i) (outside off' k' o' j) = located-at Is.Outside (nearest-unique i j)

-- a point lies where `located` says, and nowhere else
pub placed-iff : (c : Point) (cs : List Point) (p : Point) (l : Located) → Placed (c ∷ cs) p l ↔ (l ≡ located (c ∷ cs) p)
placed-iff c cs p l =
    (λ h. placed-unique h (placed-located c cs p), λ e. subst (λ m. Placed (c ∷ cs) p m) (sym e) (placed-located c cs p))
