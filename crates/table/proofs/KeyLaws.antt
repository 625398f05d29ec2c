-- The number of a key: its search, key by key, and what it is in a frame. Assumes nothing.
use mathlib.Core.Bool.{Bool, true, false, cond}
use mathlib.Core.List.{List, [], ◌∷◌}
use mathlib.Core.Path.{◌≡◌, refl, sym, ap, ◌∙◌}
use Prim.Native.Nat.{ℕ, zero, suc, ◌+◌, ◌*◌, ◌-◌, ◌<◌, ◌≤◌, min}
use native.Mathlib.Numerals.{add-one}
use native.Mathlib.Omega.{arith}
use lib.Dec.{ltb}
use lib.ListN.{length, get_or, take, drop, length-take, get_or-eq_default}
use lib.Seq.{drop-drop}
use Rattle.std.proofs.Common.{nat_eq, Option, Some, None, find, unwrap_or}
use Rattle.std.specs.Cmp.Lexicographic.{pointwise}
use Rattle.std.specs.List.{range_with_len}
use borrow.Author.Tests.{lt-ltb, le-ltb, ltb-true, ltb-false}
use Rattle.laws.specs.Lists.{same}
use Rattle.laws.specs.Tab.{tab}
use Rattle.laws.proofs.TabLaws.{length-tab}
use Rattle.table.specs.Table.{Table}
use Rattle.table.specs.Flat.{part, table_in}
use Rattle.table.specs.Keys.{key_at, table_keys, number_of, key_index, known_key, or_unknown, key_found}

-- a key has a number up to how many keys there are
pub number_of-le : (ks : List (List ℕ)) (k : List ℕ) → number_of ks k ≤ length ks
unfolding number_of
number_of-le [] k = omega arith
number_of-le (x ∷ ks) k = go (same x k) (number_of-le ks k)
  where
    go : (b : Bool) → number_of ks k ≤ length ks → cond b 0 (suc (number_of ks k)) ≤ suc (length ks)
    go true h = omega arith
    go false h = omega arith

-- a table has as many keys as it counts
pub length-table_keys : (t : Table) → length (table_keys t) ≡ t.keys
unfolding table_keys
length-table_keys t = length-tab (key_at t.key_bytes t.key_len) 0 t.keys

-- ---- one key in a table's bytes

take_min : (m n : ℕ) (l : List ℕ) → take (min m n) l ≡ take m (take n l)
take_min zero n l = let e : min 0 n ≡ 0 = omega arith in rw e
take_min (suc m) zero l = let e : min (suc m) 0 ≡ 0 = omega arith in rw e
take_min (suc m) (suc n) [] = let e : min (suc m) (suc n) ≡ suc (min m n) = omega arith in rw e
take_min (suc m) (suc n) (x ∷ l) = let e : min (suc m) (suc n) ≡ suc (min m n) = omega arith in rw (e, take_min m n l)

drop-take : (b n : ℕ) (l : List ℕ) → drop b (take n l) ≡ take (n - b) (drop b l)
drop-take zero n l = let e : n - 0 ≡ n = omega arith in rw e
drop-take (suc b) zero l = let e : 0 - suc b ≡ 0 = omega arith in rw e
drop-take (suc b) (suc n) [] = let e : suc n - suc b ≡ n - b = omega arith in rw e (none (n - b))
  where
    none : (k : ℕ) → ◌≡◌ {A = List ℕ} [] (take k [])
    none zero = refl
    none (suc k) = refl
drop-take (suc b) (suc n) (x ∷ l) = let e : suc n - suc b ≡ n - b = omega arith in rw e (drop-take b n l)

-- m bytes at place b of a part of n bytes are those of the whole at its place, up to the part's end
part-part : (l : List ℕ) (a n b m : ℕ) → take (min m (n - b)) (drop (a + b) l) ≡ take m (drop b (take n (drop a l)))
part-part l a n b m = take_min m (n - b) (drop (a + b) l) ∙ sym (rw (drop-take b n (drop a l), drop-drop b a l))

-- a key past the last has no bytes
pub key-past-keys : (l : List ℕ) (t : Table) (i : ℕ) → table_in l ≡ t → 128 ≤ i → [] ≡ key_at t.key_bytes t.key_len i
unfolding table_in part
key-past-keys l t i is h =
    let z : get_or (take 128 (drop 7696 l)) i 0 ≡ 0 = get_or-eq_default (take 128 (drop 7696 l)) 0 {n = i} (omega (arith, length-take 128 (drop 7696 l))) in
    rw (← is) (rw z)

-- the bytes of key i, of which x are told and e is the end
pub key-in-place : (l : List ℕ) (t : Table) (i x e : ℕ) → table_in l ≡ t → i < 128 → x ≡ get_or t.key_len i 0 → e ≡ min (3600 + 32 * i + x) 7696
    → take (e - (3600 + 32 * i)) (drop (3600 + 32 * i) l) ≡ key_at t.key_bytes t.key_len i
unfolding table_in part
key-in-place l t i x e is h q w =
    let u : e - (3600 + 32 * i) ≡ min x (4096 - 32 * i) = omega arith in
    let k : x ≡ get_or (table_in l).key_len i 0 = q ∙ ap (λ (v : Table). get_or v.key_len i 0) (sym is) in
    rw (← is) (rw u (part-part l 3600 4096 (32 * i) x) ∙ ap (λ (m : ℕ). take m (drop (32 * i) (take 4096 (drop 3600 l)))) k)

-- ---- the search

-- the comparison of two byte strings by the library
pub same_pointwise : (s t : List ℕ) → pointwise nat_eq s t ≡ same s t
unfolding same
same_pointwise [] [] = refl
same_pointwise [] (b ∷ t) = refl
same_pointwise (a ∷ s) [] = refl
same_pointwise (a ∷ s) (b ∷ t) = rw (same_pointwise s t)

suc-ltb : (m n : ℕ) → ltb (suc m) (suc n) ≡ ltb m n
suc-ltb m n = go (ltb m n) refl
  where
    go : (b : Bool) → ltb m n ≡ b → ltb (suc m) (suc n) ≡ b
    go true e = let h = ltb-true m n e in lt-ltb (suc m) (suc n) (omega arith)
    go false e = let h = ltb-false m n e in le-ltb (suc m) (suc n) (omega arith)

-- the first of the strings f a, f (a + 1), .., n of them, that is the same as k
find-number : (f : ℕ → List ℕ) (k : List ℕ) (a n : ℕ)
    → find (λ i. pointwise nat_eq (f i) k) (range_with_len a n) ≡ cond (ltb (number_of (tab f a n) k) n) (Some (a + number_of (tab f a n) k)) None
unfolding number_of
find-number f k a zero = refl
find-number f k a (suc n) = rw (same_pointwise (f a) k, add-one, find-number f k (suc a) n) (go (same (f a) k) (number_of (tab f (suc a) n) k))
  where
    go : (b : Bool) (m : ℕ) → cond b (Some a) (cond (ltb m n) (Some (suc a + m)) None) ≡ cond (ltb (cond b 0 (suc m)) (suc n)) (Some (a + cond b 0 (suc m))) None
    go true m = let e : a + 0 ≡ a = omega arith in rw (lt-ltb 0 (suc n) (omega arith), e)
    go false m = let e : a + suc m ≡ suc a + m = omega arith in rw (suc-ltb m n, e)

pub found-key : (t : Table) (k : List ℕ) (r : Option ℕ)
    → r ≡ find (λ i. pointwise nat_eq (key_at t.key_bytes t.key_len i) k) (range_with_len 0 t.keys) → r ≡ key_index t k
unfolding key_index table_keys
found-key t k r q =
    let z : 0 + number_of (tab (key_at t.key_bytes t.key_len) 0 t.keys) k ≡ number_of (tab (key_at t.key_bytes t.key_len) 0 t.keys) k = omega arith in
    q ∙ find-number (key_at t.key_bytes t.key_len) k 0 t.keys ∙ rw z

-- ---- the number in a frame

-- the number of a key, and how many keys there are where it has none
pub key_index-or : (t : Table) (k : List ℕ) → unwrap_or (key_index t k) t.keys ≡ number_of (table_keys t) k
unfolding key_index
key_index-or t k = go (ltb (number_of (table_keys t) k) t.keys) refl
  where
    go : (b : Bool) → ltb (number_of (table_keys t) k) t.keys ≡ b → unwrap_or (cond b (Some (number_of (table_keys t) k)) None) t.keys ≡ number_of (table_keys t) k
    go true e = refl
    go false e =
        let h = ltb-false (number_of (table_keys t) k) t.keys e in
        omega (arith, number_of-le (table_keys t) k, length-table_keys t)

module _ (t : Table) (key : List ℕ) (len : ℕ) where
  pub known-long : 32 < len → None ≡ known_key t key len
  unfolding known_key
  known-long h = rw (lt-ltb 32 len h)

  pub known-short : (o : Option ℕ) → len ≤ 32 → o ≡ key_index t (take len key) → o ≡ known_key t key len
  unfolding known_key
  known-short o h e = e ∙ rw (le-ltb 32 len h)

  pub found-known : (o : Option ℕ) → o ≡ known_key t key len → unwrap_or o 255 ≡ key_found t key len
  unfolding known_key key_found key_index or_unknown
  found-known o e = rw e (go (ltb 32 len) (ltb (number_of (table_keys t) (take len key)) t.keys))
    where
      go : (a b : Bool) → unwrap_or (cond a None (cond b (Some (number_of (table_keys t) (take len key))) None)) 255
          ≡ cond a 255 (cond b (number_of (table_keys t) (take len key)) 255)
      go true b = refl
      go false true = refl
      go false false = refl
