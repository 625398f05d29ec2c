-- What it means that a table holds the entries of a book: REQUIREMENT.md, section 3: its rules, edges, end states and keys.
-- Stated. Assumes nothing.
use Rattle.std.specs.Prelude.{Bool, false, cond, ◌&&◌, List, [], ◌∷◌, ◌≡◌, ℕ, suc, ◌+◌, ◌*◌, ◌<◌, eqb, get_or}
use Rattle.laws.specs.Tab.{tab}
use Rattle.laws.specs.Lists.{any}
use Rattle.laws.specs.Bits.{bit_at}
use Rattle.table.specs.Table.{Table}
use Rattle.table.specs.Kind.{code_of}
use Rattle.table.specs.Keys.{table_keys, number_of}
use Rattle.book.specs.Entry.{Form, obj, arr, Entry, edge, end_state, keys_of}
use Rattle.book.specs.Load.{rule_of, form_in}

-- ---- what stands in a table

-- an edge by its numbers, with the line of the book that it stands on
pub record Edge : Type 0 where
  pub rule : ℕ
  pub state : ℕ
  pub key : ℕ
  pub kind : ℕ
  pub next : ℕ
  pub line : ℕ

-- edge number e
abbrev pub edge_at : Table → ℕ → Edge
edge_at t e = record {
  rule = get_or t.edge_rule e 0;
  state = get_or t.edge_state e 0;
  key = get_or t.edge_key e 0;
  kind = get_or t.edge_kind e 0;
  next = get_or t.edge_next e 0;
  line = get_or t.edge_line e 0;
}

-- the edges of a table
unfoldable pub table_edges : Table → List Edge
table_edges t = tab (edge_at t) 0 t.edges

-- ---- what stands in a book

-- the number of a key; 128 for none
unfoldable pub key_number : List (List ℕ) → List ℕ → ℕ
key_number ks [] = 128
key_number ks (b ∷ k) = number_of ks (b ∷ k)

-- the edges of entries, the first entry being on line n
unfoldable pub edges_from : List (List ℕ) → ℕ → List Entry → List Edge
edges_from ks n [] = []
edges_from ks n (edge r f q k v m ∷ es) =
    record { rule = r; state = q; key = key_number ks k; kind = code_of v; next = m; line = n } ∷ edges_from ks (suc n) es
edges_from ks n (end_state r f q ∷ es) = edges_from ks (suc n) es

-- the edges of a book, numbered from 0 in book order; its entries begin on line 2
unfoldable pub edges_of : List Entry → List Edge
edges_of es = edges_from (keys_of es) 2 es

-- 1 for `obj`, 2 for `arr`
unfoldable pub form_code : Form → ℕ
form_code obj = 1
form_code arr = 2

-- the form of a rule by its code; 0 where the rule has no lines
unfoldable pub rule_form : List Entry → ℕ → ℕ
rule_form [] n = 0
rule_form (e ∷ es) n = cond (eqb (rule_of e) n) (form_code (form_in e)) (rule_form es n)

-- an entry makes state q of rule r an end state
unfoldable pub ends_at : ℕ → ℕ → Entry → Bool
ends_at r q (edge r' f k' k v m) = false
ends_at r q (end_state r' f q') = eqb r' r && eqb q' q

-- a table holds the entries of a book
pub record Holds (t : Table) (es : List Entry) : Type 0 where
  -- the table's keys are those of the book, numbered by first appearance
  pub keyed : table_keys t ≡ keys_of es
  -- the table's edges are those of the book, numbered in book order, each with its rule, state, key number, kind, next and line
  pub edged : table_edges t ≡ edges_of es
  -- the form of each rule
  pub formed : (r : ℕ) → r < 32 → get_or t.forms r 0 ≡ rule_form es r
  -- the end states of each rule
  pub ended : (r q : ℕ) → r < 32 → q < 16 → bit_at t.ends (16 * r + q) ≡ any (ends_at r q) es
