-- A byte written into a table's bytes is written into one of its parts, and leaves the others. Assumes nothing.
use mathlib.Core.Bool.{Bool, true, false, cond}
use mathlib.Core.List.{List, [], ◌∷◌}
use mathlib.Core.Path.{◌≡◌, refl, sym, ap, ◌∙◌, fun_ext}
use mathlib.Core.Logic.{◌⊎◌, inl, inr}
use Prim.Native.Nat.{ℕ, zero, suc, ◌+◌, ◌*◌, ◌-◌, ◌<◌, ◌≤◌}
use native.Mathlib.Decide.{dec_lt}
use native.Mathlib.Nat.{add-zero, add-suc, le_refl}
use native.Mathlib.Omega.{arith}
use lib.Dec.{eqb}
use lib.ListN.{length, get_or, set, take, drop, replicate, length-take, length-drop, length-replicate, get_or-replicate}
use lib.Seq.{take-set-le, take-set-lt, drop-set-lt, drop-set-add, ext_get_or, get_or-take, get_or-drop}
use borrow.Author.Tests.{eqb-true, eqb-false}
use Rattle.table.specs.Flat.{part, paired, table_in, empty_table}
use Rattle.table.proofs.FlatLaws.{get_d_part}
use Rattle.table.specs.Inverse.{length_part}
use Rattle.table.specs.Slots.{slot_size, slot_start, slots, table_with, put_at}

-- the bytes between the counts and the first array
spare-part : (l : List ℕ) → part l 3 13 ≡ drop 3 (part l 0 16)
unfolding part
spare-part [] = refl
spare-part (a ∷ []) = refl
spare-part (a ∷ (b ∷ [])) = refl
spare-part (a ∷ (b ∷ (c ∷ l))) = refl

pub table_in-slots : (l : List ℕ) → table_in l ≡ table_with (slots l)
unfolding table_in slots
table_in-slots l =
    let a : get_or l 0 0 ≡ get_or (part l 0 16) 0 0 = get_d_part l 0 16 0 (omega arith) in
    let b : get_or l 1 0 ≡ get_or (part l 0 16) 1 0 = get_d_part l 0 16 1 (omega arith) in
    let c : get_or l 2 0 ≡ get_or (part l 0 16) 2 0 = get_d_part l 0 16 2 (omega arith) in
    rw (a, b, c, spare-part l)

apart : (j k : ℕ) → (j ≡ k → ⊥) → (j < k) ⊎ (k < j)
apart j k h = go (dec_lt j k)
  where
    go : Dec (j < k) → (j < k) ⊎ (k < j)
    go (yes l) = inl l
    go (no l) = go2 (dec_lt k j)
      where
        go2 : Dec (k < j) → (j < k) ⊎ (k < j)
        go2 (yes m) = inr m
        go2 (no m) = absurd (h (omega arith))

-- ---- parts
part_in : (l : List ℕ) (a n i x : ℕ) → i < n → part (set l (a + i) x) a n ≡ set (part l a n) i x
unfolding part
part_in l a n i x h = rw (drop-set-add a l i x) (take-set-lt n (drop a l) i x h)

part-before : (l : List ℕ) (a n j x : ℕ) → j < a → part (set l j x) a n ≡ part l a n
unfolding part
part-before l a n j x h = rw (drop-set-lt a l j x h)

part-behind : (l : List ℕ) (a n d x : ℕ) → n ≤ d → part (set l (a + d) x) a n ≡ part l a n
unfolding part
part-behind l a n d x h = rw (drop-set-add a l d x) (take-set-le n (drop a l) d x h)

-- ---- parts by number
start-le : (j d : ℕ) → slot_start (suc j) ≤ slot_start (suc j + d)
start-le j zero = rw (add-zero (suc j)) (le_refl (slot_start (suc j)))
start-le j (suc d) = rw (add-suc (suc j) d) (omega (arith, start-le j d))

-- a part ends where a later one begins, or before
ends-before : (j k : ℕ) → j < k → slot_start j + slot_size j ≤ slot_start k
ends-before j k h = let e : suc j + (k - suc j) ≡ k = omega arith in rw e at (start-le j (k - suc j))

module _ (l : List ℕ) (k i x : ℕ) (h : i < slot_size k) where
  at_slot : (j : ℕ) → slots (set l (slot_start k + i) x) j ≡ put_at (slots l) k i x j
  unfolding slots
  at_slot j = go (eqb j k) refl
    where
      other : (j < k) ⊎ (k < j) → part (set l (slot_start k + i) x) (slot_start j) (slot_size j) ≡ part l (slot_start j) (slot_size j)
      other (inl u) =
          let a = ends-before j k u in
          let e : slot_start k + i ≡ slot_start j + (slot_start k + i - slot_start j) = omega arith in
          rw e (part-behind l (slot_start j) (slot_size j) (slot_start k + i - slot_start j) x (omega arith))
      other (inr u) = part-before l (slot_start j) (slot_size j) (slot_start k + i) x (omega (arith, ends-before k j u))

      go : (b : Bool) → eqb j k ≡ b
          → part (set l (slot_start k + i) x) (slot_start j) (slot_size j) ≡ cond b (set (part l (slot_start j) (slot_size j)) i x) (part l (slot_start j) (slot_size j))
      go true e = let q = eqb-true j k e in rw q (part_in l (slot_start k) (slot_size k) i x h)
      go false e = let q = eqb-false j k e in other (apart j k q)

  pub put-slot : slots (set l (slot_start k + i) x) ≡ put_at (slots l) k i x
  put-slot = fun_ext at_slot

-- ---- numbers of two bytes
pub paired-set : (ls hs : List ℕ) (i x y : ℕ) → paired (set ls i x) (set hs i y) ≡ set (paired ls hs) i (x + 256 * y)
unfolding paired
paired-set [] hs i x y = refl
paired-set (a ∷ ls) [] zero x y = refl
paired-set (a ∷ ls) [] (suc i) x y = refl
paired-set (a ∷ ls) (h ∷ hs) zero x y = refl
paired-set (a ∷ ls) (h ∷ hs) (suc i) x y = ap (λ (t : List ℕ). (a + 256 * h) ∷ t) (paired-set ls hs i x y)

pub length-counts : (l : List ℕ) → length l ≡ 7920 → length (slots l 0) ≡ 16
unfolding slots part
length-counts l h = length-take 16 l ∙ omega arith

get_d-paired : (ls hs : List ℕ) (i : ℕ) → length ls ≡ length hs → get_or ls i 0 + 256 * get_or hs i 0 ≡ get_or (paired ls hs) i 0
unfolding paired
get_d-paired [] [] i e = refl
get_d-paired [] (h ∷ hs) i e = absurd (omega arith)
get_d-paired (a ∷ ls) [] i e = absurd (omega arith)
get_d-paired (a ∷ ls) (h ∷ hs) zero e = refl
get_d-paired (a ∷ ls) (h ∷ hs) (suc i) e = get_d-paired ls hs i (omega arith)

-- a number of two bytes
pub line_read : (l : List ℕ) (e a b : ℕ) → length l ≡ 7920 → a ≡ get_or (part l 2576 512) e 0 → b ≡ get_or (part l 3088 512) e 0
    → a + 256 * b ≡ get_or (table_in l).edge_line e 0
unfolding table_in
line_read l e a b u p q =
    rw (p, q) (get_d-paired (part l 2576 512) (part l 3088 512) e (length_part l 2576 512 (omega arith) ∙ sym (length_part l 3088 512 (omega arith))))

-- ---- the empty table
zeros : ℕ → List ℕ
zeros n = replicate n 0

part-replicate : (m a n : ℕ) → a + n ≤ m → part (replicate m 0) a n ≡ replicate n 0
unfolding part zeros
part-replicate m a n h =
    ext_get_or 0 (take n (drop a (zeros m))) (zeros n) (long ∙ sym (length-replicate n 0))
    (λ i u. let v : i < n = omega (arith, long) in
    get_or-take n (drop a (zeros m)) i 0 v ∙ get_or-drop a (zeros m) i 0 ∙ get_or-replicate m (a + i) 0 0 (omega arith) ∙ sym (get_or-replicate n i 0 0 v))
  where
    long : length (take n (drop a (zeros m))) ≡ n
    long = length-take n (drop a (zeros m)) ∙ omega (arith, length-drop a (zeros m), length-replicate {A = ℕ} m 0)

paired-replicate : (n : ℕ) → paired (replicate n 0) (replicate n 0) ≡ replicate n 0
unfolding paired
paired-replicate zero = refl
paired-replicate (suc n) = ap (λ (t : List ℕ). 0 ∷ t) (paired-replicate n)

-- what the parts of bytes that are all 0 are
slots-zero : (k : ℕ) → slot_start k + slot_size k ≤ 7920 → slots (replicate 7920 0) k ≡ replicate (slot_size k) 0
unfolding slots
slots-zero k h = part-replicate 7920 (slot_start k) (slot_size k) h

-- the parts of the empty table
pub empty_table-parts : empty_table ≡ table_with (λ k. replicate (slot_size k) 0)
unfolding empty_table
empty_table-parts =
    table_in-slots (replicate 7920 0) ∙ rw (
      slots-zero 0 (omega arith),
      slots-zero 1 (omega arith),
      slots-zero 2 (omega arith),
      slots-zero 3 (omega arith),
      slots-zero 4 (omega arith),
      slots-zero 5 (omega arith),
      slots-zero 6 (omega arith),
      slots-zero 7 (omega arith),
      slots-zero 8 (omega arith),
      slots-zero 9 (omega arith),
      slots-zero 10 (omega arith),
      slots-zero 11 (omega arith),
    )

-- the lines of edges are 0 where the bytes are all 0
pub lines-zero : paired (replicate 512 0) (replicate 512 0) ≡ replicate 512 0
lines-zero = paired-replicate 512
