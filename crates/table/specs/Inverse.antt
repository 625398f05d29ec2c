-- The law of the model of `flat::Table`: a table's numbers give its bytes back, so that none is forgotten. Derived. Assumes nothing.
use mathlib.Core.List.{List, [], ◌∷◌, ◌++◌}
use mathlib.Core.Path.{◌≡◌, refl, sym, ◌∙◌}
use Prim.Native.Nat.{ℕ, suc, ◌+◌, ◌*◌, ◌%◌, ◌/◌, ◌<◌, ◌≤◌}
use native.Mathlib.Decide.{dec_lt}
use native.Mathlib.Omega.{arith}
use lib.ListN.{length, get_or, take, drop, length-take, length-drop, get_or-eq_default}
use lib.Seq.{take-length, get_or-take, get_or-drop, drop-drop}
use Rattle.std.proofs.Common.{map}
use Rattle.std.proofs.lemmas.List.{take-append-drop}
use Rattle.table.specs.Flat.{part, paired, table_in}
use Rattle.table.specs.Bytes.{TableBytes, bytes_of}

-- a part and what stands behind it
part-append : (l : List ℕ) (a n b : ℕ) → b ≡ a + n → part l a n ++ drop b l ≡ drop a l
unfolding part
part-append l a n b e = rw e (rw (← drop-drop n a l) (take-append-drop n (drop a l)))

-- the bytes of numbers of two bytes
lows : (ls hs : List ℕ) → length ls ≡ length hs → ((k : ℕ) → get_or ls k 0 < 256) → map (λ n. n % 256) (paired ls hs) ≡ ls
unfolding paired
lows [] hs e h = refl
lows (a ∷ ls) [] e h = absurd (omega arith)
lows (a ∷ ls) (b ∷ hs) e h =
    let x : (a + 256 * b) % 256 ≡ a = omega (arith, h 0) in
    rw (x, lows ls hs (omega arith) (λ k. h (suc k)))

highs : (ls hs : List ℕ) → length ls ≡ length hs → ((k : ℕ) → get_or ls k 0 < 256) → map (λ n. n / 256) (paired ls hs) ≡ hs
unfolding paired
highs [] [] e h = refl
highs [] (b ∷ hs) e h = absurd (omega arith)
highs (a ∷ ls) [] e h = absurd (omega arith)
highs (a ∷ ls) (b ∷ hs) e h =
    let x : (a + 256 * b) / 256 ≡ b = omega (arith, h 0) in
    rw (x, highs ls hs (omega arith) (λ k. h (suc k)))

-- the three bytes of the counts
counts : (l : List ℕ) → 3 ≤ length l → (get_or l 0 0 ∷ (get_or l 1 0 ∷ (get_or l 2 0 ∷ []))) ++ drop 3 l ≡ l
counts [] h = absurd (omega arith)
counts (a ∷ []) h = absurd (omega arith)
counts (a ∷ (b ∷ [])) h = absurd (omega arith)
counts (a ∷ (b ∷ (c ∷ l))) h = refl

pub length_part : (l : List ℕ) (a n : ℕ) → a + n ≤ length l → length (part l a n) ≡ n
unfolding part
length_part l a n h = length-take n (drop a l) ∙ omega (arith, length-drop a l)

-- the last part
part-last : (l : List ℕ) (a n : ℕ) → length l ≡ a + n → part l a n ≡ drop a l
unfolding part
part-last l a n e = let h : n ≡ length (drop a l) = omega (arith, length-drop a l) in rw h (take-length (drop a l))

-- a byte of a part is a byte
small-part : (l : List ℕ) (a n : ℕ) → ((k : ℕ) → get_or l k 0 < 256) → (k : ℕ) → get_or (part l a n) k 0 < 256
unfolding part
small-part l a n h k = go (dec_lt k n)
  where
    go : Dec (k < n) → get_or (take n (drop a l)) k 0 < 256
    go (yes u) = rw (get_or-take n (drop a l) k 0 u, get_or-drop a l k 0) (h (a + k))
    go (no u) =
        let z : get_or (take n (drop a l)) k 0 ≡ 0 = get_or-eq_default (take n (drop a l)) 0 {n = k} (omega (arith, length-take n (drop a l))) in
        omega arith

pub bytes_of-inside : (l : List ℕ) → TableBytes l → bytes_of (table_in l) ≡ l
unfolding bytes_of table_in
bytes_of-inside l t =
    let long = t.size in
    let e0 : (get_or l 0 0 + 256 * get_or l 1 0) % 256 ≡ get_or l 0 0 = omega (arith, t.small 0) in
    let e1 : (get_or l 0 0 + 256 * get_or l 1 0) / 256 ≡ get_or l 1 0 = omega (arith, t.small 0) in
    let same : length (part l 2576 512) ≡ length (part l 3088 512) = length_part l 2576 512 (omega arith) ∙ sym (length_part l 3088 512 (omega arith)) in
    rw (
      e0,
      e1,
      lows (part l 2576 512) (part l 3088 512) same (small-part l 2576 512 t.small),
      highs (part l 2576 512) (part l 3088 512) same (small-part l 2576 512 t.small),
      part-last l 7888 32 long,
      part-append l 7824 64 7888 refl,
      part-append l 7696 128 7824 refl,
      part-append l 3600 4096 7696 refl,
      part-append l 3088 512 3600 refl,
      part-append l 2576 512 3088 refl,
      part-append l 2064 512 2576 refl,
      part-append l 1552 512 2064 refl,
      part-append l 1040 512 1552 refl,
      part-append l 528 512 1040 refl,
      part-append l 16 512 528 refl,
      part-append l 3 13 16 refl,
    )
    (counts l (omega arith))
