-- Entries put into a table, one after the other, as the code does it. Derived: `loaded-holds` of crate load says what the table of a book holds.
-- Assumes nothing.
use Rattle.std.specs.Prelude.{Bool, not, cond, ◌&&◌, List, [], ◌∷◌, ℕ, suc, ◌+◌, ◌*◌, leb, eqb, length, get_or, Result, Ok, Err}
use Rattle.std.specs.List.{list_any, range_with_len}
use Rattle.laws.specs.Bits.{bit_at}
use Rattle.table.specs.Table.{Table}
use Rattle.table.specs.Flat.{empty_table}
use Rattle.table.specs.Kind.{code_of}
use Rattle.table.specs.Keys.{table_keys}
use Rattle.book.specs.Entry.{Entry, edge, end_state}
use Rattle.line.specs.declared.Fault.{Fault}
use Rattle.line.specs.Line.{fault_number}
use Rattle.book.specs.Holds.{key_number, form_code}
use Rattle.table.specs.declared.flat.Cell.{Cell}
use Rattle.table.specs.Cells.{with_end, with_edge, with_key}

-- ---- numbers below a bound

-- the test passes at one of i, i + 1, .., n of them
abbrev pub some : (ℕ → Bool) → ℕ → ℕ → Bool
some f i n = list_any f (range_with_len i n)

-- ---- one line

-- edge e has the numbers of a cell
abbrev pub same_at : Table → Cell → ℕ → Bool
same_at t c e =
    eqb c.rule (get_or t.edge_rule e 0)
    && (eqb c.state (get_or t.edge_state e 0)
    && (eqb c.key (get_or t.edge_key e 0)
    && (eqb c.kind (get_or t.edge_kind e 0) && eqb c.next (get_or t.edge_next e 0))))

-- an edge of the table has the numbers of a cell
unfoldable pub has_cell : Table → Cell → Bool
has_cell t c = some (same_at t c) 0 t.edges

-- the key of n bytes with number k is a new one after m keys
unfoldable pub is_new : ℕ → ℕ → ℕ → Bool
is_new n k m = not (eqb n 0) && eqb k m

-- a rule has another form already
unfoldable pub form_changes : ℕ → ℕ → Bool
form_changes old new = not (eqb old 0) && not (eqb old new)

-- the table with one entry more; or the fault of the entry, and the table as it was
pub record Taken : Type 0 where
  pub fault : ℕ
  pub table : Table

abbrev pub taken : ℕ → Table → Taken
taken k t = record { fault = k; table = t }

-- the number of a refusal; 0 is none
abbrev pub fault_in : {A : Type 0} → Result A Fault → ℕ
fault_in (Ok x) = 0
fault_in (Err f) = fault_number f

-- the numbers of an edge with key k
abbrev pub cell_for : Table → ℕ → ℕ → List ℕ → ℕ → ℕ → Cell
cell_for t r q k v m = record { rule = r; state = q; key = key_number (table_keys t) k; kind = v; next = m }

-- refusals 7 and 5 of an edge with key k, of a rule with form f, or the table with it
unfoldable pub take_edge : ℕ → Table → ℕ → Cell → List ℕ → Taken
take_edge n t f c k =
    cond (has_cell t c) (taken 7 t)
    (cond (leb 512 t.edges) (taken 5 t)
    (cond (is_new (length k) c.key t.keys)
    (cond (leb 128 t.keys) (taken 5 t) (taken 0 (with_edge (with_key t k) f c n)))
    (taken 0 (with_edge t f c n))))

-- refusal 7 of an end line, or the table with it
unfoldable pub take_end : Table → ℕ → ℕ → ℕ → Taken
take_end t r f q = cond (bit_at t.ends (16 * r + q)) (taken 7 t) (taken 0 (with_end t r f q))

-- refusals 6, 7 and 5 of an entry on line n, or the table with it
unfoldable pub take_entry : ℕ → Table → Entry → Taken
take_entry n t (edge r f q k v m) =
    cond (form_changes (get_or t.forms r 0) (form_code f)) (taken 6 t) (take_edge n t (form_code f) (cell_for t r q k (code_of v) m) k)
take_entry n t (end_state r f q) = cond (form_changes (get_or t.forms r 0) (form_code f)) (taken 6 t) (take_end t r (form_code f) q)

-- the table with entries, the first of them on line n
unfoldable pub table_from : ℕ → Table → List Entry → Table
table_from n t [] = t
table_from n t (e ∷ es) = table_from (suc n) (take_entry n t e).table es

-- the table of a book: its entries begin on line 2. Without entries it is the empty table
unfoldable pub table_of : List Entry → Table
table_of es = table_from 2 empty_table es
