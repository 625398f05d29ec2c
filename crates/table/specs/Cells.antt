-- The numbers of an edge together, and a table with an edge, a key or an end state more. Derived: `loaded-holds` of crate load says what the
-- table of a book holds. Assumes nothing.
use Rattle.std.specs.Prelude.{cond, List, [], ◌∷◌, ℕ, suc, ◌+◌, ◌*◌, ◌-◌, ltb, eqb, length, get_or, set}
use Rattle.laws.specs.Bits.{set_bit}
use Rattle.table.specs.Table.{Table}
use Rattle.table.specs.declared.flat.Cell.{Cell}

-- the numbers of edge e, but for its line
abbrev pub cell_at : Table → ℕ → Cell
cell_at t e = record {
  rule = get_or t.edge_rule e 0;
  state = get_or t.edge_state e 0;
  key = get_or t.edge_key e 0;
  kind = get_or t.edge_kind e 0;
  next = get_or t.edge_next e 0;
}

-- the table t with e edges and k keys, and with each of its arrays changed as g says, which is told its number: 1 to 5 of edges the rules,
-- states, keys, kinds and nexts, 6 their lines, 8 the bytes of keys, 9 their lengths, 10 the end states, 11 the forms
abbrev pub changed : Table → ℕ → ℕ → (ℕ → List ℕ → List ℕ) → Table
changed t e k g = record {
  edges = e;
  keys = k;
  spare = t.spare;
  edge_rule = g 1 t.edge_rule;
  edge_state = g 2 t.edge_state;
  edge_key = g 3 t.edge_key;
  edge_kind = g 4 t.edge_kind;
  edge_next = g 5 t.edge_next;
  edge_line = g 6 t.edge_line;
  key_bytes = g 8 t.key_bytes;
  key_len = g 9 t.key_len;
  ends = g 10 t.ends;
  forms = g 11 t.forms;
}

-- one end state more, of a rule with form f
abbrev pub with_end : Table → ℕ → ℕ → ℕ → Table
with_end t r f q = changed t t.edges t.keys (λ j xs. cond (eqb j 10) (set_bit xs (16 * r + q)) (cond (eqb j 11) (set xs r f) xs))

-- one edge more, of a rule with form f, on line n: its numbers stand at its place in the arrays 1 to 6
abbrev pub with_edge : Table → ℕ → Cell → ℕ → Table
with_edge t f c n =
    changed t (t.edges + 1) t.keys
    (λ j xs. cond (ltb j 7)
    (set xs t.edges (get_or (c.rule ∷ c.state ∷ c.key ∷ c.kind ∷ c.next ∷ n ∷ []) (j - 1) 0))
    (cond (eqb j 11) (set xs c.rule f) xs))

-- the bytes k from place a on
unfoldable pub written : List ℕ → ℕ → List ℕ → List ℕ
written w a [] = w
written w a (b ∷ k) = written (set w a b) (suc a) k

-- one key more
abbrev pub with_key : Table → List ℕ → Table
with_key t k =
    changed t t.edges (t.keys + 1)
    (λ j xs. cond (eqb j 8) (written xs (32 * t.keys) k) (cond (eqb j 9) (set xs t.keys (length k)) xs))
