-- The numbers of a table stay in their ranges as entries are taken. Assumes nothing.
use mathlib.Core.Bool.{Bool, true, false, cond}
use mathlib.Core.List.{List, [], ◌∷◌}
use mathlib.Core.Path.{◌≡◌, refl}
use Prim.Native.Nat.{ℕ, zero, suc, ◌+◌, ◌*◌, ◌<◌, ◌≤◌}
use native.Mathlib.Omega.{arith}
use lib.Dec.{leb}
use lib.ListN.{length, get_or, set, replicate}
use borrow.Author.Tests.{leb-false}
use Rattle.laws.specs.Bits.{bit_at}
use Rattle.table.specs.Table.{Table}
use Rattle.table.specs.Flat.{empty_table}
use Rattle.table.specs.Kind.{code_of}
use Rattle.table.specs.Limits.{WithinLimits}
use Rattle.table.specs.Keys.{table_keys}
use Rattle.table.proofs.KeyLaws.{number_of-le, length-table_keys}
use Rattle.table.proofs.SlotLaws.{empty_table-parts}
use Rattle.book.specs.Entry.{Form, obj, arr, Entry, edge, end_state}
use Rattle.book.specs.Holds.{key_number, form_code}
use Rattle.table.specs.declared.flat.Cell.{Cell}
use Rattle.store.specs.Proper.{Proper}
use Rattle.load.specs.Ranges.{Ranges}
use Rattle.table.specs.Cells.{with_end, with_edge, with_key}
use Rattle.store.specs.Store.{has_cell, is_new, form_changes, taken, cell_for, take_edge, take_end, take_entry}

-- the ranges of the counts are their limits
pub within_limits-of-ranges : (t : Table) → Ranges t → WithinLimits t
within_limits-of-ranges t w = record { edges = w.edges; keys = w.keys }

-- a store of a number that is at most m keeps all numbers at most m
pub set-le : (m : ℕ) (l : List ℕ) (i a : ℕ) → a ≤ m → ((j : ℕ) → get_or l j 0 ≤ m) → (j : ℕ) → get_or (set l i a) j 0 ≤ m
set-le m [] i a h g j = omega arith
set-le m (x ∷ l) zero a h g zero = h
set-le m (x ∷ l) zero a h g (suc j) = g (suc j)
set-le m (x ∷ l) (suc i) a h g zero = g 0
set-le m (x ∷ l) (suc i) a h g (suc j) = set-le m l i a h (λ k. g (suc k)) j

zeros-le : (n m j : ℕ) → get_or (replicate n 0) j 0 ≤ m
zeros-le zero m j = omega arith
zeros-le (suc n) m zero = omega arith
zeros-le (suc n) m (suc j) = zeros-le n m j

-- the table of a refusal
pub ranges-empty : Ranges empty_table
ranges-empty =
    rw empty_table-parts (record {
      edges = omega arith;
      keys = omega arith;
      rule = zeros-le 512 31;
      state = zeros-le 512 15;
      key = zeros-le 512 128;
      kind = zeros-le 512 37;
      next = zeros-le 512 15;
      len = zeros-le 128 32;
      form = zeros-le 32 2;
    })

form_code-le : (f : Form) → form_code f ≤ 2
unfolding form_code
form_code-le obj = omega arith
form_code-le arr = omega arith

key_number-le : (t : Table) (k : List ℕ) → t.keys ≤ 128 → key_number (table_keys t) k ≤ 128
unfolding key_number
key_number-le t [] h = omega arith
key_number-le t (b ∷ k) h = omega (arith, number_of-le (table_keys t) (b ∷ k), length-table_keys t)

pub ranges-with_edge : (t : Table) → Ranges t → (f n : ℕ) (c : Cell) → t.edges < 512 → f ≤ 2 → c.rule ≤ 31 → c.state ≤ 15 → c.key ≤ 128 → c.kind ≤ 37 → c.next ≤ 15
    → Ranges (with_edge t f c n)
ranges-with_edge t w f n c h a b d e g i = record {
  edges = omega arith;
  keys = w.keys;
  rule = set-le 31 t.edge_rule t.edges c.rule b w.rule;
  state = set-le 15 t.edge_state t.edges c.state d w.state;
  key = set-le 128 t.edge_key t.edges c.key e w.key;
  kind = set-le 37 t.edge_kind t.edges c.kind g w.kind;
  next = set-le 15 t.edge_next t.edges c.next i w.next;
  len = w.len;
  form = set-le 2 t.forms c.rule f a w.form;
}

module _ (t : Table) (w : Ranges t) where
  pub ranges-with_key : (k : List ℕ) → t.keys < 128 → length k ≤ 32 → Ranges (with_key t k)
  ranges-with_key k h l = record {
    edges = w.edges;
    keys = omega arith;
    rule = w.rule;
    state = w.state;
    key = w.key;
    kind = w.kind;
    next = w.next;
    len = set-le 32 t.key_len t.keys (length k) l w.len;
    form = w.form;
  }

  ranges-take_end : (r f q : ℕ) → f ≤ 2 → Ranges (take_end t r f q).table
  unfolding take_end
  ranges-take_end r f q h = go (bit_at t.ends (16 * r + q))
    where
      go : (b : Bool) → Ranges (cond b (taken 7 t) (taken 0 (with_end t r f q))).table
      go true = w
      go false = record {
        edges = w.edges;
        keys = w.keys;
        rule = w.rule;
        state = w.state;
        key = w.key;
        kind = w.kind;
        next = w.next;
        len = w.len;
        form = set-le 2 t.forms r f h w.form;
      }

  ranges-take_edge : (n f : ℕ) (c : Cell) (k : List ℕ) → length k ≤ 32 → f ≤ 2 → c.rule ≤ 31 → c.state ≤ 15 → c.key ≤ 128 → c.kind ≤ 37 → c.next ≤ 15
      → Ranges (take_edge n t f c k).table
  unfolding take_edge
  ranges-take_edge n f c k l a b d e g i = go (has_cell t c) (leb 512 t.edges) (is_new (length k) c.key t.keys) (leb 128 t.keys) refl refl
    where
      go : (p q r s : Bool) → leb 512 t.edges ≡ q → leb 128 t.keys ≡ s
          → Ranges
          (cond p (taken 7 t) (cond q (taken 5 t) (cond r (cond s (taken 5 t) (taken 0 (with_edge (with_key t k) f c n))) (taken 0 (with_edge t f c n))))).table
      go true q r s x y = w
      go false true r s x y = w
      go false false true true x y = w
      go false false true false x y =
          ranges-with_edge (with_key t k) (ranges-with_key k (leb-false 128 t.keys y) l) f n c (leb-false 512 t.edges x) a b d e g i
      go false false false s x y = ranges-with_edge t w f n c (leb-false 512 t.edges x) a b d e g i

-- taking an entry keeps the numbers of a table in their ranges
pub ranges-take_entry : (n : ℕ) (t : Table) (e : Entry) → Ranges t → Proper e → Ranges (take_entry n t e).table
unfolding take_entry
ranges-take_entry n t (edge r f q k v m) w p = go (form_changes (get_or t.forms r 0) (form_code f))
  where
    go : (b : Bool) → Ranges (cond b (taken 6 t) (take_edge n t (form_code f) (cell_for t r q k (code_of v) m) k)).table
    go true = w
    go false =
        ranges-take_edge t w n (form_code f) (cell_for t r q k (code_of v) m) k p.len (form_code-le f)
        (omega (arith, p.rule)) (omega (arith, p.state)) (key_number-le t k w.keys) (omega (arith, p.kind)) (omega (arith, p.next))
ranges-take_entry n t (end_state r f q) w p = go (form_changes (get_or t.forms r 0) (form_code f))
  where
    go : (b : Bool) → Ranges (cond b (taken 6 t) (take_end t r (form_code f) q)).table
    go true = w
    go false = ranges-take_end t w r (form_code f) q (form_code-le f)
