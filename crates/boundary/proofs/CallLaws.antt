-- The calls, in the form of the code's needs. Assumes nothing.
use mathlib.Core.Bool.{Bool, true, false, cond, ◌||◌}
use mathlib.Core.List.{List, [], ◌∷◌}
use mathlib.Core.Path.{◌≡◌, refl, sym, ap, ◌∙◌}
use Prim.Native.Nat.{ℕ, zero, suc, ◌/◌, ◌≤◌, ◌<◌}
use native.Mathlib.Decide.{dec_lt}
use native.Mathlib.Omega.{arith}
use lib.Dec.{ltb, leb, leb→le}
use lib.IntN.{ℤ, pos, nat_abs}
use lib.ListN.{length, get_or, replicate}
use mir.Facts.{to_z-of_z}
use mir.Syntax.{w32}
use mir.Val.{SFits, to_z, of_z}
use borrow.Author.Tests.{ltb-false}
use Rattle.table.specs.Table.{Table}
use Rattle.laws.proofs.TestLaws.{T-and-left, T-and-right, T-of-true}
use Rattle.laws.specs.Tab.{tab}
use Rattle.laws.proofs.TabLaws.{length-tab, get_d-tab}
use Rattle.geometry.specs.declared.Point.{Point}
use Rattle.geometry.specs.declared.Located.{Located}
use Rattle.geometry.specs.Tests.{located}
use Rattle.coordinate.specs.Exact.{coordinate_of}
use Rattle.coordinate.proofs.CoordinateLaws.{in_range-of-coordinate}
use Rattle.corners.specs.Numbers.{numbers_of}
use Rattle.coordinate.specs.Coordinate.{InRange}
use Rattle.plane.specs.Corners.{corners_in, Held, PointInRange}
use Rattle.boundary.specs.declared.Refusal.{Refusal}
use Rattle.boundary.specs.declared.Refusal.TheVariants as No
use Rattle.std.specs.Prelude.{Option, Some, None, Result, Ok, Err, is_ok}
use Rattle.boundary.specs.Exact.{valid_b, value_of, unfit_in, number_at, filled, counted, boundary_of, left_by, left_corners, HeldBy, in_range, answer_at, answer_by, query_of}
use Rattle.boundary.specs.declared.walk.Numbers.{Numbers}
use Rattle.boundary.specs.Steps.{ReadsAs}
use Rattle.boundary.specs.Calls.{LoadsB, bound_by, ReadOf, QueryOf}

-- ---- the range of a point

-- ---- the memory holds the corners

in-range : (c : Option ℤ) (ds : List ℕ) → coordinate_of ds ≡ c → InRange (value_of c)
in-range (Some z) ds e = in_range-of-coordinate ds z e
in-range None ds e = omega arith

near-filled : (ns : List (List ℕ)) (k : ℕ) → InRange (get_or (filled ns) k (pos 0))
unfolding filled number_at
near-filled ns k = go (dec_lt k 2048)
  where
    past : {A : Type 0} (l : List A) (i : ℕ) (d : A) → length l ≤ i → get_or l i d ≡ d
    past [] i d h = refl
    past (y ∷ l) zero d h = absurd (omega arith)
    past (y ∷ l) (suc i) d h = past l i d (omega arith)

    go : Dec (k < 2048) → InRange (get_or (tab (number_at ns) 0 2048) k (pos 0))
    go (yes h) = rw (get_d-tab (number_at ns) (pos 0) 2048 k h) (in-range (coordinate_of (get_or ns k [])) (get_or ns k []) refl)
    go (no h) = rw (past (tab (number_at ns) 0 2048) k (pos 0) (omega (arith, length-tab (number_at ns) 0 2048))) (omega arith)

held-filled : (ns : List (List ℕ)) → 6 ≤ length ns → length ns ≤ 2048 → Held (filled ns) (length ns / 2)
unfolding filled
held-filled ns h g =
    record { least = omega arith; most = omega arith; room = omega (arith, length-tab (number_at ns) 0 2048); near = near-filled ns }

held-counted : (ns : List (List ℕ)) → HeldBy (counted ns) (left_by (counted ns) ns)
unfolding counted
held-counted ns = go (ltb (length ns) 6) (ltb 2048 (length ns)) (unfit_in ns) refl refl
  where
    go : (a b c : Bool) → ltb (length ns) 6 ≡ a → ltb 2048 (length ns) ≡ b
        → HeldBy (cond (a || b) (Err No.Count) (cond c (Err No.Range) (Ok (length ns / 2))))
        (left_by (cond (a || b) (Err No.Count) (cond c (Err No.Range) (Ok (length ns / 2)))) ns)
    go true b c e f = tt
    go false true c e f = tt
    go false false true e f = tt
    go false false false e f = held-filled ns (ltb-false (length ns) 6 e) (ltb-false 2048 (length ns) f)

pub held-left : (s : List ℕ) → HeldBy (boundary_of s) (left_corners s)
unfolding boundary_of left_corners
held-left s = go (valid_b s)
  where
    go : (v : Bool) → HeldBy (cond v (counted (numbers_of s)) (Err No.NotValid)) (left_by (cond v (counted (numbers_of s)) (Err No.NotValid)) (numbers_of s))
    go true = held-counted (numbers_of s)
    go false = tt

-- ---- a text that is read

module _ (s : List ℕ) where
  -- the boundary of the numbers that are read is that of the text
  pub boundary-is : (x : Option Numbers) (l : List ℤ) → ReadsAs s x l → bound_by x ≡ boundary_of s
  unfolding boundary_of counted
  boundary-is (Some x) l y = rw (y.taken, y.unfit, y.valid) refl
  boundary-is None l y = rw y refl

  -- where there is a boundary, the numbers stand in memory
  kept-is : (x : Option Numbers) (l : List ℤ) (r : Result ℕ Refusal) → ReadsAs s x l → r ≡ bound_by x → is_ok r ≡ true → l ≡ left_corners s
  unfolding left_corners
  kept-is (Some x) l (Ok n) y e f = y.memory ∙ ap (λ (b : Result ℕ Refusal). left_by b (numbers_of s)) (e ∙ boundary-is (Some x) l y)
  kept-is (Some x) l (Err k) y e f = cc
  kept-is None l r y e f = cc

  -- where there is none, zeros do
  cleared-is : (r : Result ℕ Refusal) → r ≡ boundary_of s → is_ok r ≡ false → replicate 2048 (pos 0) ≡ left_corners s
  unfolding left_corners
  cleared-is (Ok n) e f = cc
  cleared-is (Err k) e f = ap (λ (b : Result ℕ Refusal). left_by b (numbers_of s)) e

  pub read_of : (r : Result ℕ Refusal) (m : List ℤ) (t : Table) → r ≡ boundary_of s → m ≡ left_corners s → LoadsB t → ReadOf s r m t
  read_of r m t e f b = record { boundary = e; corners_left = f; held = rw (e, f) (held-left s); table_left = b }

  module _ (x : Option Numbers) (l m : List ℤ) (r : Result ℕ Refusal) (t : Table) (y : ReadsAs s x l) (e : r ≡ bound_by x) (b : LoadsB t) where
    pub read-kept : is_ok r ≡ true → ReadOf s r l t
    read-kept f = read_of r l t (e ∙ boundary-is x l y) (kept-is x l r y e f) b

    pub read-cleared : is_ok r ≡ false → m ≡ replicate 2048 (pos 0) → ReadOf s r m t
    read-cleared f c = read_of r m t (e ∙ boundary-is x l y) (c ∙ cleared-is r (e ∙ boundary-is x l y) f) b

-- ---- a point

-- both numbers are tested, in the form of the code's need
pub point-there : (p : Point) {a b : Bool} → SFits w32 p.x → SFits w32 p.y → a ≡ leb (nat_abs (to_z w32 (of_z w32 p.x))) 1000000 → a ≡ true
    → b ≡ leb (nat_abs (to_z w32 (of_z w32 p.y))) 1000000 → b ≡ in_range p
unfolding in_range
point-there p e f g t h = let k : leb (nat_abs p.x) 1000000 ≡ true = rw (to_z-of_z e) at (sym g) ∙ t in rw (h, k, to_z-of_z f) refl

-- the first is out of range
pub point-beside : (p : Point) {a : Bool} → SFits w32 p.x → a ≡ leb (nat_abs (to_z w32 (of_z w32 p.x))) 1000000 → a ≡ false → a ≡ in_range p
unfolding in_range
point-beside p e g t = let k : leb (nat_abs p.x) 1000000 ≡ false = rw (to_z-of_z e) at (sym g) ∙ t in rw (t, k) refl

-- a point that passes the test is in range
pub in-range-of-test : (p : Point) → in_range p ≡ true → PointInRange p
unfolding in_range
in-range-of-test p e =
    record {
      across = leb→le (nat_abs p.x) 1000000 (T-and-left (leb (nat_abs p.x) 1000000) _ (T-of-true _ e));
      up = leb→le (nat_abs p.y) 1000000 (T-and-right (leb (nat_abs p.x) 1000000) _ (T-of-true _ e));
    }

module _ (cs : List Point) (p : Point) where
  pub answer-beside : in_range p ≡ false → Err No.Range ≡ answer_at cs p
  unfolding answer_at
  answer-beside f = rw f refl

  pub answer-there : in_range p ≡ true → Ok (located cs p) ≡ answer_at cs p
  unfolding answer_at
  answer-there f = rw f refl

-- ---- a query

module _ {s : List ℕ} {b : Result ℕ Refusal} {l : List ℤ} {t : Table} {p : Point} (x : ReadOf s b l t) where
  pub query-corners : {n : ℕ} {a : Result Located Refusal} → b ≡ Ok n → a ≡ answer_at (corners_in l n) p → QueryOf s p a l t
  unfolding query_of
  query-corners {n} e f =
      record { answer = f ∙ rw x.corners_left (ap (λ (z : Result ℕ Refusal). answer_by z (left_corners s) p) (sym e ∙ x.boundary)); corners_left = x.corners_left; table_left = x.table_left }

  pub query-refused : {k : Refusal} → b ≡ Err k → QueryOf s p (Err k) l t
  unfolding query_of
  query-refused e =
      record { answer = ap (λ (z : Result ℕ Refusal). answer_by z (left_corners s) p) (sym e ∙ x.boundary); corners_left = x.corners_left; table_left = x.table_left }
