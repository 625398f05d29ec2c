-- Bytes that are 0 together. Assumes nothing.
use mathlib.Core.List.{List}
use mathlib.Core.Path.{◌≡◌, ap, ◌∙◌}
use Prim.Native.Nat.{ℕ, ◌+◌, ◌<◌}
use native.Mathlib.Nat.{add-zero}
use native.Mathlib.Omega.{arith}
use lib.Bits.{bit_or, or_add_and, and_le_l, and_le_r}
use lib.ListN.{get_or}
use borrow.Author.Count.{below_none, below_more}

-- ---- eight bytes

or_left : (a b : ℕ) → bit_or a b ≡ 0 → a ≡ 0
or_left a b e = omega (arith, or_add_and a b, and_le_l a b, and_le_r a b)

or_right : (a b : ℕ) → bit_or a b ≡ 0 → b ≡ 0
or_right a b e = omega (arith, or_add_and a b, and_le_l a b, and_le_r a b)

-- four bytes that are 0 together
four-zero : (a b c d : ℕ) → bit_or (bit_or (bit_or a b) c) d ≡ 0 → (a ≡ 0) × (b ≡ 0) × (c ≡ 0) × (d ≡ 0)
four-zero a b c d e =
    let abc = or_left (bit_or (bit_or a b) c) d e in
    let ab = or_left (bit_or a b) c abc in
    (or_left a b ab, or_right a b ab, or_right (bit_or a b) c abc, or_right (bit_or (bit_or a b) c) d e)

module _ (s : List ℕ) (a : ℕ) where
  low : ℕ
  low = bit_or (bit_or (bit_or (get_or s a 0) (get_or s (a + 1) 0)) (get_or s (a + 2) 0)) (get_or s (a + 3) 0)

  high : ℕ
  high = bit_or (bit_or (bit_or (get_or s (a + 4) 0) (get_or s (a + 5) 0)) (get_or s (a + 6) 0)) (get_or s (a + 7) 0)

  -- eight bytes that are 0 together are 0 each
  pub quiet-eight : bit_or (bit_or (bit_or (bit_or (get_or s a 0) (get_or s (a + 1) 0)) (get_or s (a + 2) 0)) (get_or s (a + 3) 0))
      (bit_or (bit_or (bit_or (get_or s (a + 4) 0) (get_or s (a + 5) 0)) (get_or s (a + 6) 0)) (get_or s (a + 7) 0)) ≡ 0
      → (k : ℕ) → k < 8 → get_or s (a + k) 0 ≡ 0
  unfolding low high
  quiet-eight e =
      let l = four-zero (get_or s a 0) (get_or s (a + 1) 0) (get_or s (a + 2) 0) (get_or s (a + 3) 0) (or_left low high e) in
      let h = four-zero (get_or s (a + 4) 0) (get_or s (a + 5) 0) (get_or s (a + 6) 0) (get_or s (a + 7) 0) (or_right low high e) in
      below_more P 7 (below_more P 6 (below_more P 5 (below_more P 4 (below_more P 3 (below_more P 2 (below_more P 1 (below_more P 0 (below_none P)
      (ap (λ (i : ℕ). get_or s i 0) (add-zero a) ∙ l.0)) l.1) l.2) l.3) h.0) h.1) h.2) h.3
    where
      P : ℕ → Type 0
      P k = get_or s (a + k) 0 ≡ 0
