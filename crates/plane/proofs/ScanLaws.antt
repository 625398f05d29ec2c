-- What is known after each corner leads to where the point lies. Assumes nothing.
use mathlib.Core.Bool.{Bool, true, false, not, cond, ◌||◌, or-false, or_assoc, beq}
use mathlib.Core.List.{List, [], ◌∷◌}
use mathlib.Core.Path.{◌≡◌, refl, sym, ap, subst, ◌∙◌}
use Prim.Native.Nat.{ℕ, zero, suc, ◌+◌, ◌-◌, ◌*◌, ◌<◌}
use native.Mathlib.Nat.{add-zero, add-suc, suc-add}
use native.Mathlib.Numerals.{add-one}
use native.Mathlib.Omega.{arith}
use lib.IntN.{ℤ, pos}
use lib.Signed.{lt_z}
use Rattle.laws.specs.Lists.{any}
use Rattle.laws.specs.Tab.{tab}
use Rattle.integers.proofs.BoundLaws.{lt_z-of-within}
use Rattle.geometry.specs.declared.Point.{Point}
use Rattle.geometry.specs.declared.Located.{Located}
use Rattle.geometry.specs.declared.Place.TheVariants as Is
use Rattle.geometry.specs.Plane.{sides_after, last_of, sides, distance}
use Rattle.geometry.specs.Tests.{on_segment, crosses, on_side, crosses_side, odd_crossings, nearest_from, nearest, place, located}
use Rattle.plane.specs.declared.Scan.{Scan}
use Rattle.plane.specs.Corners.{corner_at, corners_in, PointInRange, Held}
use Rattle.plane.specs.Scan.{begun, differ, stepped, answer, scanned, Scanned}
use Rattle.plane.proofs.WithinLaws.{distance-within}

-- a function of equals
ap3 : {A B C D : Type 0} (f : A → B → C → D) {a a' : A} {b b' : B} {c c' : C} → a ≡ a' → b ≡ b' → c ≡ c' → f a b c ≡ f a' b' c'
ap3 f p q r = cc

-- ---- tests

differ-false : (a : Bool) → differ a false ≡ a
unfolding differ
differ-false true = refl
differ-false false = refl

false-differ : (a : Bool) → differ false a ≡ a
unfolding differ
false-differ true = refl
false-differ false = refl

-- a test that differs turns the parity over
differ-on : (a b c : Bool) → differ (differ a b) c ≡ differ a (cond b (cond c false true) c)
unfolding differ
differ-on true true true = refl
differ-on true true false = refl
differ-on true false true = refl
differ-on true false false = refl
differ-on false true true = refl
differ-on false true false = refl
differ-on false false true = refl
differ-on false false false = refl

-- ---- one corner

-- after a corner that is nearer than all before it
pub stepped-nearer : (p : Point) (i : ℕ) (c : Point) (s : Scan) {e o : Bool} {d m : ℤ} → e ≡ on_segment s.before c p → o ≡ crosses s.before c p → d ≡ distance c p → m ≡ s.distance → lt_z d m ≡ true → ◌≡◌ {A = Scan} (record { before = c; edge = s.edge || e; odd = not (beq s.odd o); nearest = i; distance = d }) (stepped p i c s)
unfolding stepped differ
stepped-nearer p i c s f g h k l = let t : lt_z (distance c p) s.distance ≡ true = rw (h, k) at l in rw (f, g, h, t)

-- after a corner that is not nearer than all before it
pub stepped-farther : (p : Point) (i : ℕ) (c : Point) (s : Scan) {e o : Bool} {d m : ℤ} → e ≡ on_segment s.before c p → o ≡ crosses s.before c p → d ≡ distance c p → m ≡ s.distance → lt_z d m ≡ false → ◌≡◌ {A = Scan} (record { before = c; edge = s.edge || e; odd = not (beq s.odd o); nearest = s.nearest; distance = m }) (stepped p i c s)
unfolding stepped differ
stepped-farther p i c s f g h k l = let t : lt_z (distance c p) s.distance ≡ false = rw (h, k) at l in rw (f, g, k, t)

-- ---- the answer

answer-of : Bool → Bool → ℕ → Located
answer-of e o n = record { place = cond e Is.Edge (cond o Is.Inside Is.Outside); nearest = n }

-- ---- the corners that are left

nearest_from-cond : (p : Point) (i m n : ℕ) (d e : ℤ) (cs : List Point) (b : Bool) → nearest_from p i (cond b m n) (cond b d e) cs ≡ cond b (nearest_from p i m d cs) (nearest_from p i n e cs)
nearest_from-cond p i m n d e cs true = refl
nearest_from-cond p i m n d e cs false = refl

-- the corners that are left add their sides to what is known
scanned-is : (p : Point) (i : ℕ) (s : Scan) (cs : List Point) → scanned p i s cs ≡ answer-of (s.edge || any (on_side p) (sides_after s.before cs)) (differ s.odd (odd_crossings p (sides_after s.before cs))) (nearest_from p i s.nearest s.distance cs)
unfolding scanned stepped answer answer-of any odd_crossings nearest_from on_side crosses_side
scanned-is p i s [] = simp (or-false, differ-false)
scanned-is p i s (c ∷ cs) =
    let later = sides_after c cs in
    scanned-is p (suc i) (stepped p i c s) cs
    ∙ ap3 answer-of
    (or_assoc s.edge (on_segment s.before c p) (any (on_side p) later))
    (differ-on s.odd (crosses s.before c p) (odd_crossings p later))
    (nearest_from-cond p (suc i) i s.nearest (distance c p) s.distance cs (lt_z (distance c p) s.distance))

-- ---- the whole boundary

-- the last corner of a list that is computed from a rule
last_of-tab : (f : ℕ → Point) (i m : ℕ) → last_of (f i) (tab f (suc i) m) ≡ f (i + m)
last_of-tab f i zero = ap f (sym (add-zero i))
last_of-tab f i (suc m) = last_of-tab f (suc i) m ∙ ap f (suc-add i m ∙ sym (add-suc i m))

-- the whole boundary, after the last corner, gives where p lies
pub scanned-begun : (p c : Point) (cs : List Point) → PointInRange c → PointInRange p → scanned p 0 (begun (last_of c cs)) (c ∷ cs) ≡ located (c ∷ cs) p
unfolding begun answer-of place located nearest nearest_from
scanned-begun p c cs hc hp =
    let near : lt_z (distance c p) (pos 8000000000001) ≡ true = lt_z-of-within (distance c p) (distance-within c p hc hp) (omega arith) in
    let around = sides (c ∷ cs) in
    scanned-is p 0 (begun (last_of c cs)) (c ∷ cs)
    ∙ ap3 answer-of {a = any (on_side p) around} refl (false-differ (odd_crossings p around))
    (ap (λ (b : Bool). cond b (nearest_from p 1 0 (distance c p) cs) (nearest_from p 1 0 (pos 8000000000001) cs)) near)

-- ---- one corner after the other

-- each corner of memory with corners is in range
pub corner-in-range : {l : List ℤ} {n : ℕ} → Held l n → (i : ℕ) → PointInRange (corner_at l i)
unfolding corner_at
corner-in-range h i = record { across = h.near (2 * i); up = h.near (2 * i + 1) }

-- before the first corner
pub scan-start : (l : List ℤ) (n : ℕ) (p : Point) → Held l n → PointInRange p → Scanned l n p 0 (begun (corner_at l (n - 1)))
unfolding corners_in begun
scan-start l zero p h hp = let z = h.least in absurd (omega arith)
scan-start l (suc m) p h hp =
    let last : last_of (corner_at l 0) (tab (corner_at l) 1 m) ≡ corner_at l m = last_of-tab (corner_at l) 0 m ∙ ap (corner_at l) (omega arith) in
    let same : suc m - 1 ≡ m = omega arith in
    let whole : suc m - 0 ≡ suc m = omega arith in
    record {
      most = omega arith;
      range = corner-in-range h (suc m - 1);
      rest = rw (whole, same, ← last) (scanned-begun p (corner_at l 0) (tab (corner_at l) 1 m) (corner-in-range h 0) hp);
    }

-- after one corner more
pub scan-on : (l : List ℤ) (n : ℕ) (p : Point) (i : ℕ) (s : Scan) → Held l n → i < n → Scanned l n p i s → Scanned l n p (i + 1) (stepped p i (corner_at l i) s)
unfolding scanned stepped
scan-on l n p i s h below k =
    let one : n - i ≡ suc (n - (i + 1)) = omega arith in
    let rest : scanned p i s (tab (corner_at l) i (suc (n - (i + 1)))) ≡ located (corners_in l n) p = rw one at k.rest in
    record {
      most = omega arith;
      range = corner-in-range h i;
      rest =
          subst (λ (j : ℕ). scanned p j (stepped p i (corner_at l i) s) (tab (corner_at l) j (n - (i + 1))) ≡ located (corners_in l n) p) (sym (add-one i)) rest;
    }

-- after the last corner
pub scan-end : (l : List ℤ) (n : ℕ) (p : Point) (s : Scan) → Scanned l n p n s → answer s ≡ located (corners_in l n) p
unfolding scanned
scan-end l n p s h =
    let none : n - n ≡ 0 = omega arith in
    subst (λ (m : ℕ). scanned p n s (tab (corner_at l) n m) ≡ located (corners_in l n) p) none h.rest
