-- What is written into a table's bytes, as what it does to the table. Assumes nothing.
use mathlib.Core.Bool.{Bool, true, false, cond}
use mathlib.Core.List.{List, [], ◌∷◌}
use mathlib.Core.Path.{◌≡◌, refl, sym, ap, ◌∙◌, fun_ext}
use Prim.Native.Nat.{ℕ, zero, suc, ◌+◌, ◌*◌, ◌%◌, ◌/◌, ◌^◌, ◌<◌, ◌≤◌}
use native.Mathlib.Numerals.{add-one}
use native.Mathlib.Omega.{arith}
use lib.Bits.{bit_or}
use lib.Dec.{eqb}
use lib.ListN.{length, get_or, set, drop, drop_of_length-le, replicate, length-replicate, length-set}
use lib.Seq.{get_or-set_same, get_or-set_other, drop-set-lt, drop-cons}
use Rattle.laws.specs.Bits.{set_bit}
use Rattle.table.specs.Table.{Table}
use Rattle.table.specs.Flat.{part, table_in, empty_table}
use Rattle.table.specs.Slots.{slot_size, slot_start, slots, table_with, put_at}
use Rattle.table.proofs.FlatLaws.{get_d_part}
use Rattle.table.proofs.SlotLaws.{table_in-slots, put-slot, paired-set, length-counts, line_read}
use Rattle.table.specs.declared.flat.Cell.{Cell}
use Rattle.table.specs.Bytes.{TableBytes}
use Rattle.table.specs.Cells.{with_end, with_edge, with_key, written}

-- the two bytes of a number
two_bytes : (n : ℕ) → n % 256 + 256 * (n / 256) ≡ n
two_bytes n = omega arith

-- one edge more
pub edge-in-place : (l : List ℕ) (t : Table) (f : ℕ) (c : Cell) (n at : ℕ) → table_in l ≡ t → length l ≡ 7920 → at ≡ t.edges → t.edges < 512 → c.rule < 32
    → table_in (set (set (set (set (set (set (set (set (set (set l (16 + at) c.rule) (528 + at) c.state) (1040 + at) c.key) (1552 + at) c.kind)
    (2064 + at) c.next) (2576 + at) (n % 256)) (3088 + at) (n / 256)) (7888 + c.rule) f) 0 ((at + 1) % 256)) 1 ((at + 1) / 256)) ≡ with_edge t f c n
edge-in-place l t f c n at is long q room r = table_in-slots _ ∙ ap table_with parts ∙ whole ∙ ap (λ (u : Table). with_edge u f c n) is
  where
    h : at < 512
    h = omega arith

    s : ℕ → List ℕ
    s = slots l

    o : ℕ → List ℕ
    o = put_at (put_at (put_at (put_at (put_at (put_at (put_at (put_at s 1 at c.rule) 2 at c.state) 3 at c.key) 4 at c.kind) 5 at c.next) 6 at (n % 256)) 7 at (n / 256)) 11 c.rule f

    parts : slots (set (set (set (set (set (set (set (set (set (set l (16 + at) c.rule) (528 + at) c.state) (1040 + at) c.key) (1552 + at) c.kind)
        (2064 + at) c.next) (2576 + at) (n % 256)) (3088 + at) (n / 256)) (7888 + c.rule) f) 0 ((at + 1) % 256)) 1 ((at + 1) / 256))
        ≡ put_at (put_at o 0 0 ((at + 1) % 256)) 0 1 ((at + 1) / 256)
    parts =
        rw (
          put-slot _ 0 1 _ (omega arith),
          put-slot _ 0 0 _ (omega arith),
          put-slot _ 11 c.rule _ r,
          put-slot _ 7 at _ h,
          put-slot _ 6 at _ h,
          put-slot _ 5 at _ h,
          put-slot _ 4 at _ h,
          put-slot _ 3 at _ h,
          put-slot _ 2 at _ h,
          put-slot _ 1 at _ h,
        )

    whole : table_with (put_at (put_at o 0 0 ((at + 1) % 256)) 0 1 ((at + 1) / 256)) ≡ with_edge (table_in l) f c n
    whole =
        let long0 = length-counts l long in
        let a : get_or (set (set (s 0) 0 ((at + 1) % 256)) 1 ((at + 1) / 256)) 0 0 ≡ (at + 1) % 256 =
        get_or-set_other (set (s 0) 0 ((at + 1) % 256)) 1 0 ((at + 1) / 256) 0 (λ z. omega arith) ∙ get_or-set_same (s 0) 0 ((at + 1) % 256) 0 (omega arith) in
        let b : get_or (set (set (s 0) 0 ((at + 1) % 256)) 1 ((at + 1) / 256)) 1 0 ≡ (at + 1) / 256 =
        get_or-set_same (set (s 0) 0 ((at + 1) % 256)) 1 ((at + 1) / 256) 0 (omega (arith, length-set (s 0) 0 ((at + 1) % 256))) in
        let k : get_or (set (set (s 0) 0 ((at + 1) % 256)) 1 ((at + 1) / 256)) 2 0 ≡ get_or (s 0) 2 0 =
        get_or-set_other (set (s 0) 0 ((at + 1) % 256)) 1 2 ((at + 1) / 256) 0 (λ z. omega arith) ∙ get_or-set_other (s 0) 0 2 ((at + 1) % 256) 0 (λ z. omega arith) in
        let d : drop 3 (set (set (s 0) 0 ((at + 1) % 256)) 1 ((at + 1) / 256)) ≡ drop 3 (s 0) =
        drop-set-lt 3 (set (s 0) 0 ((at + 1) % 256)) 1 ((at + 1) / 256) (omega arith) ∙ drop-set-lt 3 (s 0) 0 ((at + 1) % 256) (omega arith) in
        let q' : at ≡ (table_with (slots l)).edges = q ∙ ap (λ (u : Table). u.edges) (sym is ∙ table_in-slots l) in
        rw (a, b, k, d, two_bytes (at + 1), paired-set (s 6) (s 7) at (n % 256) (n / 256), two_bytes n, table_in-slots l, ← q')

-- ---- all bytes 0
pub zeros-inside : (l : List ℕ) → l ≡ replicate 7920 0 → TableBytes l
zeros-inside l e = rw e (record { size = length-replicate {A = ℕ} 7920 0; small = λ k. small-zeros 7920 k })
  where
    small-zeros : (n k : ℕ) → get_or (replicate n 0) k 0 < 256
    small-zeros zero k = omega arith
    small-zeros (suc n) zero = omega arith
    small-zeros (suc n) (suc k) = small-zeros n k

pub empty-in-place : (l : List ℕ) → l ≡ replicate 7920 0 → table_in l ≡ empty_table
unfolding empty_table
empty-in-place l e = ap table_in e

-- ---- one key more

-- writing a key, one byte after the other: what is left to write gives v
module _ (w k v : List ℕ) (a i : ℕ) (inv : written w (a + i) (drop i k) ≡ v) where
  pub written-more : i < length k → written (set w (a + i) (get_or k i 0)) (a + (i + 1)) (drop (i + 1) k) ≡ v
  unfolding written
  written-more h = let e : a + (i + 1) ≡ suc (a + i) = omega arith in rw (e, add-one) (rw (drop-cons k i 0) at inv)

  pub written-end : length k ≤ i → w ≡ v
  unfolding written
  written-end h = rw (drop_of_length-le k h) at inv

pub written-start : (w k : List ℕ) (a : ℕ) → written w (a + 0) k ≡ written w a k
written-start w k a = let e : a + 0 ≡ a = omega arith in rw e

-- bytes written into one part leave the other parts
written-slot : (l : List ℕ) (k i : ℕ) (bs : List ℕ) → i + length bs ≤ slot_size k
    → (j : ℕ) → slots (written l (slot_start k + i) bs) j ≡ cond (eqb j k) (written (slots l j) i bs) (slots l j)
unfolding written
written-slot l k i [] h j = sym (same (eqb j k))
  where
    same : (b : Bool) → cond b (slots l j) (slots l j) ≡ slots l j
    same true = refl
    same false = refl
written-slot l k i (x ∷ bs) h j =
    ap (λ (a : ℕ). slots (written (set l (slot_start k + i) x) a bs) j) e ∙ written-slot (set l (slot_start k + i) x) k (suc i) bs (omega arith) j
    ∙ ap (λ (f : ℕ → List ℕ). cond (eqb j k) (written (f j) (suc i) bs) (f j)) (put-slot l k i x (omega arith)) ∙ go (eqb j k)
  where
    e : suc (slot_start k + i) ≡ slot_start k + suc i
    e = omega arith

    go : (b : Bool) → cond b (written (cond b (set (slots l j) i x) (slots l j)) (suc i) bs) (cond b (set (slots l j) i x) (slots l j))
        ≡ cond b (written (set (slots l j) i x) (suc i) bs) (slots l j)
    go true = refl
    go false = refl

pub key-in-place : (l w : List ℕ) (t : Table) (k : List ℕ) (at : ℕ) → table_in l ≡ t → length l ≡ 7920 → at ≡ t.keys → t.keys < 128 → length k ≤ 32
    → w ≡ written l (3600 + 32 * at) k → table_in (set (set w (7696 + at) (length k)) 2 (at + 1)) ≡ with_key t k
key-in-place l w t k at is long q room m e = table_in-slots _ ∙ ap table_with parts ∙ whole ∙ ap (λ (u : Table). with_key u k) is
  where
    h : at < 128
    h = omega arith

    s : ℕ → List ℕ
    s = slots l

    o : ℕ → List ℕ
    o = λ j. cond (eqb j 8) (written (s j) (32 * at) k) (s j)

    parts : slots (set (set w (7696 + at) (length k)) 2 (at + 1)) ≡ put_at (put_at o 9 at (length k)) 0 2 (at + 1)
    parts = rw (put-slot _ 0 2 _ (omega arith), put-slot _ 9 at _ h, e, fun_ext (written-slot l 8 (32 * at) k (omega arith)))

    whole : table_with (put_at (put_at o 9 at (length k)) 0 2 (at + 1)) ≡ with_key (table_in l) k
    whole =
        let long0 = length-counts l long in
        let a : get_or (set (s 0) 2 (at + 1)) 0 0 ≡ get_or (s 0) 0 0 = get_or-set_other (s 0) 2 0 (at + 1) 0 (λ z. omega arith) in
        let b : get_or (set (s 0) 2 (at + 1)) 1 0 ≡ get_or (s 0) 1 0 = get_or-set_other (s 0) 2 1 (at + 1) 0 (λ z. omega arith) in
        let d : get_or (set (s 0) 2 (at + 1)) 2 0 ≡ at + 1 = get_or-set_same (s 0) 2 (at + 1) 0 (omega arith) in
        let r : drop 3 (set (s 0) 2 (at + 1)) ≡ drop 3 (s 0) = drop-set-lt 3 (s 0) 2 (at + 1) (omega arith) in
        let q' : at ≡ (table_with (slots l)).keys = q ∙ ap (λ (u : Table). u.keys) (sym is ∙ table_in-slots l) in
        rw (a, b, d, r, table_in-slots l, ← q')

-- ---- one end state more

set_bit-ends : (l : List ℕ) (i : ℕ) → i < 512 → set_bit l (62592 + i) ≡ set l (7824 + i / 8) (bit_or (get_or (slots l 10) (i / 8) 0) (2 ^ (i % 8)))
unfolding set_bit slots
set_bit-ends l i h =
    let q : (62592 + i) / 8 ≡ 7824 + i / 8 = omega arith in
    let m : (62592 + i) % 8 ≡ i % 8 = omega arith in
    rw (q, m, get_d_part l 7824 64 (i / 8) (omega arith))

pub end-in-place : (l w : List ℕ) (t : Table) (r f q : ℕ) → table_in l ≡ t → r < 32 → q < 16 → w ≡ set_bit l (62592 + (16 * r + q))
    → table_in (set w (7888 + r) f) ≡ with_end t r f q
unfolding set_bit
end-in-place l w t r f q is a b e = table_in-slots _ ∙ ap table_with parts ∙ whole ∙ ap (λ (u : Table). with_end u r f q) is
  where
    i : ℕ
    i = 16 * r + q

    whole : table_with (put_at (put_at (slots l) 10 (i / 8) (bit_or (get_or (slots l 10) (i / 8) 0) (2 ^ (i % 8)))) 11 r f) ≡ with_end (table_in l) r f q
    whole = rw (table_in-slots l)

    parts : slots (set w (7888 + r) f) ≡ put_at (put_at (slots l) 10 (i / 8) (bit_or (get_or (slots l 10) (i / 8) 0) (2 ^ (i % 8)))) 11 r f
    parts = rw (put-slot _ 11 r _ a, e ∙ set_bit-ends l i (omega arith), put-slot _ 10 (i / 8) _ (omega arith))

-- ---- forms

-- eight rules without a form, as bytes of the table
pub no_forms : (l : List ℕ) (t : Table) (r : ℕ) (q : Bool) → table_in l ≡ t → r + 8 ≤ 32 → (q ≡ true → (k : ℕ) → k < 8 → get_or l (7888 + r + k) 0 ≡ 0)
    → q ≡ true → (k : ℕ) → k < 8 → get_or t.forms (r + k) 0 ≡ 0
unfolding table_in
no_forms l t r q is h f e k u =
    let a : 7888 + r + k ≡ 7888 + (r + k) = omega arith in
    rw (← is) (sym (get_d_part l 7888 32 (r + k) (omega arith)) ∙ ap (λ (i : ℕ). get_or l i 0) (sym a) ∙ f e k u)

-- a line of two bytes
pub line-in-place : (l : List ℕ) (t : Table) (e a b : ℕ) → table_in l ≡ t → length l ≡ 7920 → a ≡ get_or (part l 2576 512) e 0
    → b ≡ get_or (part l 3088 512) e 0 → a + 256 * b ≡ get_or t.edge_line e 0
line-in-place l t e a b is long p q = rw (← is) (line_read l e a b long p q)
