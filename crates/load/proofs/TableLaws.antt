-- What one more key, edge or end state does to what stands in a table. Assumes nothing.
use mathlib.Core.Bool.{Bool, ◌&&◌}
use mathlib.Core.List.{List, [], ◌∷◌, ◌++◌, append_assoc}
use mathlib.Core.Path.{◌≡◌, refl, sym, ap, ◌∙◌}
use Prim.Native.Nat.{ℕ, zero, suc, ◌+◌, ◌*◌, ◌<◌, ◌≤◌}
use native.Mathlib.Nat.{add-zero, add-suc, suc-add, zero-add}
use native.Mathlib.Numerals.{add-one}
use native.Mathlib.Omega.{arith}
use lib.Dec.{eqb}
use lib.ListN.{length, get_or, set, take, drop, replicate, length-set, length-replicate, length-drop, take-append-drop}
use lib.Seq.{get_or-set_same, get_or-set_other, sets, sets-eq, length-sets, take-append-le, drop-append-le, drop_at, length-take-le, take-append_seam}
use Rattle.laws.specs.Lists.{any}
use Rattle.laws.specs.Tab.{tab}
use Rattle.laws.proofs.BitLaws.{length-set_bit}
use Rattle.laws.proofs.TabLaws.{length-tab}
use Rattle.table.specs.Table.{Table}
use Rattle.table.specs.Flat.{empty_table}
use Rattle.table.specs.Keys.{key_at, table_keys}
use Rattle.table.proofs.SlotLaws.{empty_table-parts, lines-zero}
use Rattle.book.specs.Holds.{Edge, edge_at, table_edges}
use Rattle.table.specs.declared.flat.Cell.{Cell}
use Rattle.load.specs.Ranges.{Ranges}
use Rattle.table.specs.Cells.{with_end, with_edge, with_key, written}
use Rattle.store.specs.Store.{some, same_at, has_cell}

-- ---- computed lists

-- one entry more
tab-last : {A : Type 0} (f : ℕ → A) (i n : ℕ) → tab f i (suc n) ≡ tab f i n ++ (f (i + n) ∷ [])
tab-last f i zero = ap (λ (k : ℕ). f k ∷ []) (sym (add-zero i))
tab-last f i (suc n) = ap (λ (l : List _). f i ∷ l) (tab-last f (suc i) n ∙ ap (λ (k : ℕ). tab f (suc i) n ++ (f k ∷ [])) (suc-add i n ∙ sym (add-suc i n)))

tab-ext : {A : Type 0} (f g : ℕ → A) (i n : ℕ) → ((k : ℕ) → i ≤ k → k < i + n → f k ≡ g k) → tab f i n ≡ tab g i n
tab-ext f g i zero h = refl
tab-ext f g i (suc n) h =
    let a : f i ≡ g i = h i (omega arith) (omega arith) in
    let b : tab f (suc i) n ≡ tab g (suc i) n = tab-ext f g (suc i) n (λ k l m. h k (omega arith) (omega arith)) in
    rw (a, b)

-- one entry more, after entries that stay
tab-add : {A : Type 0} (f g : ℕ → A) (n : ℕ) (x : A) → ((k : ℕ) → k < n → f k ≡ g k) → f n ≡ x → tab f 0 (n + 1) ≡ tab g 0 n ++ (x ∷ [])
tab-add f g n x h e =
    let a : tab f 0 n ≡ tab g 0 n = tab-ext f g 0 n (λ k l m. h k (omega arith)) in
    rw add-one (tab-last f 0 n ∙ rw (a, zero-add n, e))

pub tab-one-more : {A : Type 0} (f : ℕ → A) (n : ℕ) → tab f 0 (n + 1) ≡ tab f 0 n ++ (f n ∷ [])
tab-one-more f n = tab-add f f n (f n) (λ k l. refl) refl

-- a test of the numbers below a bound is a test of what stands at them
pub some-tab : {A : Type 0} (f : ℕ → Bool) (p : A → Bool) (h : ℕ → A) (i n : ℕ) → ((k : ℕ) → f k ≡ p (h k)) → some f i n ≡ any p (tab h i n)
unfolding any
some-tab f p h i zero e = refl
some-tab f p h i (suc n) e = rw (e i, add-one, some-tab f p h (suc i) n e)

-- ---- the arrays of a table have their lengths, and its bytes that mean nothing are 0
pub record Sized (t : Table) : Type 0 where
  pub rule : length t.edge_rule ≡ 512
  pub state : length t.edge_state ≡ 512
  pub key : length t.edge_key ≡ 512
  pub kind : length t.edge_kind ≡ 512
  pub next : length t.edge_next ≡ 512
  pub line : length t.edge_line ≡ 512
  pub bytes : length t.key_bytes ≡ 4096
  pub lens : length t.key_len ≡ 128
  pub ends : length t.ends ≡ 64
  pub forms : length t.forms ≡ 32
  pub spare : t.spare ≡ replicate 13 0

pub sized-empty : Sized empty_table
sized-empty =
    rw empty_table-parts (record {
      rule = length-replicate {A = ℕ} 512 0;
      state = length-replicate {A = ℕ} 512 0;
      key = length-replicate {A = ℕ} 512 0;
      kind = length-replicate {A = ℕ} 512 0;
      next = length-replicate {A = ℕ} 512 0;
      line = rw lines-zero (length-replicate {A = ℕ} 512 0);
      bytes = length-replicate {A = ℕ} 4096 0;
      lens = length-replicate {A = ℕ} 128 0;
      ends = length-replicate {A = ℕ} 64 0;
      forms = length-replicate {A = ℕ} 32 0;
      spare = refl;
    })

written-sets : (w : List ℕ) (a : ℕ) (k : List ℕ) → written w a k ≡ sets w a k
unfolding written
written-sets w a [] = refl
written-sets w a (x ∷ k) = written-sets (set w a x) (suc a) k

module _ (t : Table) (s : Sized t) where
  pub sized-with_end : (r f q : ℕ) → Sized (with_end t r f q)
  sized-with_end r f q = record {
    rule = s.rule;
    state = s.state;
    key = s.key;
    kind = s.kind;
    next = s.next;
    line = s.line;
    bytes = s.bytes;
    lens = s.lens;
    ends = length-set_bit t.ends (16 * r + q) ∙ s.ends;
    forms = length-set t.forms r f ∙ s.forms;
    spare = s.spare;
  }

  pub sized-with_edge : (f : ℕ) (c : Cell) (n : ℕ) → Sized (with_edge t f c n)
  sized-with_edge f c n = record {
    rule = length-set t.edge_rule _ _ ∙ s.rule;
    state = length-set t.edge_state _ _ ∙ s.state;
    key = length-set t.edge_key _ _ ∙ s.key;
    kind = length-set t.edge_kind _ _ ∙ s.kind;
    next = length-set t.edge_next _ _ ∙ s.next;
    line = length-set t.edge_line _ _ ∙ s.line;
    bytes = s.bytes;
    lens = s.lens;
    ends = s.ends;
    forms = length-set t.forms _ _ ∙ s.forms;
    spare = s.spare;
  }

  pub sized-with_key : (k : List ℕ) → Sized (with_key t k)
  sized-with_key k = record {
    rule = s.rule;
    state = s.state;
    key = s.key;
    kind = s.kind;
    next = s.next;
    line = s.line;
    bytes = ap length (written-sets t.key_bytes (32 * t.keys) k) ∙ length-sets t.key_bytes (32 * t.keys) k ∙ s.bytes;
    lens = length-set t.key_len _ _ ∙ s.lens;
    ends = s.ends;
    forms = s.forms;
    spare = s.spare;
  }

-- ---- edges
earlier : (l : List ℕ) (n k v : ℕ) → k < n → get_or (set l n v) k 0 ≡ get_or l k 0
earlier l n k v h = get_or-set_other l n k v 0 (λ e. omega arith)

-- the edge with the numbers of a cell, on line n
abbrev pub edge_on : Cell → ℕ → Edge
edge_on c n = record { rule = c.rule; state = c.state; key = c.key; kind = c.kind; next = c.next; line = n }

pub table_edges-with_edge : (t : Table) (f : ℕ) (c : Cell) (n : ℕ) → Sized t → t.edges < 512 → table_edges (with_edge t f c n) ≡ table_edges t ++ (edge_on c n ∷ [])
unfolding table_edges
table_edges-with_edge t f c n s h =
    tab-add (edge_at (with_edge t f c n)) (edge_at t) t.edges (edge_on c n)
    (λ k l.
    rw (
      earlier t.edge_rule t.edges k c.rule l,
      earlier t.edge_state t.edges k c.state l,
      earlier t.edge_key t.edges k c.key l,
      earlier t.edge_kind t.edges k c.kind l,
      earlier t.edge_next t.edges k c.next l,
      earlier t.edge_line t.edges k n l,
    ))
    (let a = s.rule in let b = s.state in let d = s.key in let e = s.kind in let g = s.next in let i = s.line in
    rw (
      get_or-set_same t.edge_rule t.edges c.rule 0 (omega arith),
      get_or-set_same t.edge_state t.edges c.state 0 (omega arith),
      get_or-set_same t.edge_key t.edges c.key 0 (omega arith),
      get_or-set_same t.edge_kind t.edges c.kind 0 (omega arith),
      get_or-set_same t.edge_next t.edges c.next 0 (omega arith),
      get_or-set_same t.edge_line t.edges n 0 (omega arith),
    ))

pub length-table_edges : (t : Table) → length (table_edges t) ≡ t.edges
unfolding table_edges
length-table_edges t = length-tab (edge_at t) 0 t.edges

-- an edge has the numbers of a cell
unfoldable pub same_cell : Cell → Edge → Bool
same_cell c x = eqb c.rule x.rule && (eqb c.state x.state && (eqb c.key x.key && (eqb c.kind x.kind && eqb c.next x.next)))

pub has_cell-table_edges : (t : Table) (c : Cell) → has_cell t c ≡ any (same_cell c) (table_edges t)
unfolding has_cell table_edges same_cell
has_cell-table_edges t c =
    some-tab (same_at t c) (same_cell c) (edge_at t) 0 t.edges (λ k. refl)

-- ---- keys
module _ (w : List ℕ) (a : ℕ) (k : List ℕ) (fits : a + length k ≤ length w) where
  parts : written w a k ≡ take a w ++ (k ++ drop (a + length k) w)
  parts = written-sets w a k ∙ sets-eq k w a fits ∙ append_assoc (take a w) k (drop (a + length k) w)

  -- the bytes k stand where they were written
  written-here : take (length k) (drop a (written w a k)) ≡ k
  written-here = rw parts (rw (drop_at (take a w) (k ++ drop (a + length k) w) a (length-take-le a w (omega arith))) (take-append_seam k (drop (a + length k) w)))

  -- the bytes before what was written stay
  written-before : (b m : ℕ) → b + m ≤ a → take m (drop b (written w a k)) ≡ take m (drop b w)
  written-before b m h =
      let l : length (take a w) ≡ a = length-take-le a w (omega arith) in
      rw parts
      (ap (take m) (drop-append-le b (take a w) (k ++ drop (a + length k) w) (omega arith))
      ∙ take-append-le m (drop b (take a w)) (k ++ drop (a + length k) w) (rw length-drop (omega arith))
      ∙ sym (ap (take m) (ap (drop b) (sym (take-append-drop a w)) ∙ drop-append-le b (take a w) (drop a w) (omega arith))
      ∙ take-append-le m (drop b (take a w)) (drop a w) (rw length-drop (omega arith))))

pub table_keys-with_key : (t : Table) (k : List ℕ) → Sized t → Ranges t → t.keys < 128 → length k ≤ 32 → table_keys (with_key t k) ≡ table_keys t ++ (k ∷ [])
unfolding table_keys
table_keys-with_key t k s w h l =
    let sb = s.bytes in
    let sl = s.lens in
    tab-add (key_at (with_key t k).key_bytes (with_key t k).key_len) (key_at t.key_bytes t.key_len) t.keys k
    (λ i b.
    let q = w.len i in
    rw (earlier t.key_len t.keys i (length k) b)
    (written-before t.key_bytes (32 * t.keys) k (omega arith) (32 * i) (get_or t.key_len i 0) (omega (arith, q))))
    (rw (get_or-set_same t.key_len t.keys (length k) 0 (omega arith)) (written-here t.key_bytes (32 * t.keys) k (omega arith)))

-- ---- what does not change
pub table_keys-with_edge : (t : Table) (f : ℕ) (c : Cell) (n : ℕ) → table_keys (with_edge t f c n) ≡ table_keys t
unfolding table_keys
table_keys-with_edge t f c n = refl

pub table_edges-with_key : (t : Table) (k : List ℕ) → table_edges (with_key t k) ≡ table_edges t
unfolding table_edges
table_edges-with_key t k = refl

pub table_keys-with_end : (t : Table) (r f q : ℕ) → table_keys (with_end t r f q) ≡ table_keys t
unfolding table_keys
table_keys-with_end t r f q = refl

pub table_edges-with_end : (t : Table) (r f q : ℕ) → table_edges (with_end t r f q) ≡ table_edges t
unfolding table_edges
table_edges-with_end t r f q = refl
