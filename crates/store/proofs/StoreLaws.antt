-- What taking an entry gives, by the tests on the way: each law takes their results and gives the answer there. Assumes nothing.
use mathlib.Core.Bool.{Bool, true, false}
use mathlib.Core.List.{List, [], ◌∷◌}
use mathlib.Core.Path.{◌≡◌, refl, sym, ap, ◌∙◌}
use Prim.Native.Nat.{ℕ, ◌+◌, ◌*◌, ◌<◌, ◌≤◌}
use native.Mathlib.Omega.{arith}
use lib.ListN.{length, get_or}
use borrow.Author.Tests.{le-leb, lt-leb}
use Rattle.laws.specs.Bits.{bit_at}
use Rattle.table.specs.Table.{Table}
use Rattle.table.specs.Kind.{form_number, code_of}
use Rattle.table.specs.declared.kind.Form.{Form}
use Rattle.table.specs.declared.kind.Form.TheVariants.{Object, Array}
use Rattle.std.proofs.Common.{Option, Some, None, unwrap_or}
use Rattle.table.specs.Keys.{table_keys, key_index}
use Rattle.table.proofs.KeyLaws.{key_index-or}
use Rattle.book.specs.Holds.{key_number, form_code}
use Rattle.line.specs.declared.Line.{Line}
use Rattle.line.specs.declared.EdgeLine.{EdgeLine}
use Rattle.line.specs.Line.{form_in, entry_as, entry_in}
use Rattle.table.specs.declared.flat.Cell.{Cell}
use Rattle.table.specs.Cells.{with_end, with_edge, with_key}
use Rattle.store.specs.Store.{Taken, has_cell, is_new, form_changes, taken, take_edge, take_end, take_entry}

-- ---- keys
pub key_number-none : (ks : List (List ℕ)) (k : List ℕ) → length k ≡ 0 → 128 ≡ key_number ks k
unfolding key_number
key_number-none ks [] e = refl
key_number-none ks (x ∷ k) e = absurd (omega arith)

pub key_number-some : (t : Table) (k : List ℕ) (o : Option ℕ) → (length k ≡ 0 → ⊥) → o ≡ key_index t k → unwrap_or o t.keys ≡ key_number (table_keys t) k
unfolding key_number
key_number-some t [] o e q = absurd (e refl)
key_number-some t (x ∷ k) o e q = rw q (key_index-or t (x ∷ k))

-- ---- end lines
module _ (t : Table) (r f q : ℕ) (b : Bool) (p : b ≡ bit_at t.ends (16 * r + q)) where
  pub take_end-again : b ≡ true → taken 7 t ≡ take_end t r f q
  unfolding take_end
  take_end-again e = rw (sym p ∙ e)

  pub take_end-new : (u : Table) → b ≡ false → u ≡ with_end t r f q → taken 0 u ≡ take_end t r f q
  unfolding take_end
  take_end-new u e w = rw (sym p ∙ e, w)

-- ---- edges
-- b: an edge of the table has the numbers; a and m: the counts of edges and keys as they were read
module _ (n : ℕ) (t : Table) (f : ℕ) (c : Cell) (k : List ℕ) (b : Bool) (p : b ≡ has_cell t c) where
  pub take_edge-again : b ≡ true → taken 7 t ≡ take_edge n t f c k
  unfolding take_edge
  take_edge-again e = rw (sym p ∙ e)

  module _ (a : ℕ) (qa : a ≡ t.edges) (nb : b ≡ false) where
    pub take_edge-full : 512 ≤ a → taken 5 t ≡ take_edge n t f c k
    unfolding take_edge
    take_edge-full h = rw (sym p ∙ nb, le-leb 512 t.edges (omega arith))

    module _ (h : a < 512) (w : Bool) (m x : ℕ) (qm : m ≡ t.keys) (qx : x ≡ c.key) (qw : w ≡ is_new (length k) x m) where
      test : {y : Bool} → w ≡ y → is_new (length k) c.key t.keys ≡ y
      test e = ap (λ (i : ℕ). is_new (length k) i t.keys) (sym qx) ∙ ap (is_new (length k) x) (sym qm) ∙ sym qw ∙ e

      pub take_edge-keys : w ≡ true → 128 ≤ m → taken 5 t ≡ take_edge n t f c k
      unfolding take_edge
      take_edge-keys e l = rw (sym p ∙ nb, lt-leb 512 t.edges (omega arith), test e, le-leb 128 t.keys (omega arith))

      pub take_edge-key : (u v : Table) → w ≡ true → m < 128 → u ≡ with_key t k → v ≡ with_edge u f c n → taken 0 v ≡ take_edge n t f c k
      unfolding take_edge
      take_edge-key u v e l y z = rw (sym p ∙ nb, lt-leb 512 t.edges (omega arith), test e, lt-leb 128 t.keys (omega arith), z, y)

      pub take_edge-old : (v : Table) → w ≡ false → v ≡ with_edge t f c n → taken 0 v ≡ take_edge n t f c k
      unfolding take_edge
      take_edge-old v e y = rw (sym p ∙ nb, lt-leb 512 t.edges (omega arith), test e, y)

-- ---- entries

-- the number of a form is the code of the book's
form_number-is_code : (f : Form) → form_number f ≡ form_code (form_in f)
unfolding form_code
form_number-is_code Object = refl
form_number-is_code Array = refl

module _ (n : ℕ) (t : Table) (l : Line) (f : ℕ) (qf : f ≡ form_number l.form) (b : Bool)
    (x : ℕ) (qx : x ≡ get_or t.forms l.rule 0) (qy : b ≡ form_changes x f) where
  code : f ≡ form_code (form_in l.form)
  code = qf ∙ form_number-is_code l.form

  test-form : {y : Bool} → b ≡ y → form_changes (get_or t.forms l.rule 0) (form_code (form_in l.form)) ≡ y
  test-form e = sym (ap (form_changes (get_or t.forms l.rule 0)) code) ∙ sym (qy ∙ ap (λ (i : ℕ). form_changes i f) qx) ∙ e

  pub take_entry-form : b ≡ true → taken 6 t ≡ take_entry n t (entry_in l)
  unfolding take_entry
  take_entry-form e = go l.edge
    where
      go : (s : Option EdgeLine) → taken 6 t ≡ take_entry n t (entry_as s l.rule (form_in l.form) l.state)
      go None = rw (test-form e)
      go (Some v) = rw (test-form e)

  module _ (nb : b ≡ false) where
    pub take_entry-edge : (v : EdgeLine) (m c : ℕ) (w : Taken) → l.edge ≡ Some v → m ≡ key_number (table_keys t) v.key.now → c ≡ code_of v.kind
        → w ≡ take_edge n t f (record { rule = l.rule; state = l.state; key = m; kind = c; next = v.next }) v.key.now → w ≡ take_entry n t (entry_in l)
    unfolding take_entry
    take_entry-edge v m c w is qm qc e = e ∙ rw (is, test-form nb, qc, sym qm, code)

    pub take_entry-end : (w : Taken) → l.edge ≡ None → w ≡ take_end t l.rule f l.state → w ≡ take_entry n t (entry_in l)
    unfolding take_entry
    take_entry-end w is e = e ∙ rw (is, test-form nb, code)
