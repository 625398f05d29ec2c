-- Refusals 8 and 9 over a table, as the code finds them. Derived: `OrderLaws` joins them to `check_book` of the book. Assumes nothing.
use Rattle.std.specs.Prelude.{Bool, false, not, cond, ◌&&◌, ◌||◌, List, ℕ, ◌+◌, ltb, eqb, get_or, Option, Some, None, find}
use Rattle.std.specs.List.{range_with_len}
use Rattle.table.specs.Table.{Table}
use Rattle.table.specs.Kind.{kind_of}
use Rattle.table.specs.declared.kind.ValueKind.{ValueKind}
use Rattle.table.specs.declared.kind.ValueKind.TheVariants.{Plain, Rule}
use Rattle.load.specs.declared.Refusal.{Refusal}
use Rattle.load.specs.declared.Refusal.TheVariants.{NoRule, NoRoot, NotAscending}
use Rattle.store.specs.Store.{some}
use Rattle.load.specs.Step.{Loaded, loaded, refusal}

-- a kind refers to a rule without lines, where `forms` are the forms of the rules
unfoldable pub dangles_kind : List ℕ → ValueKind → Bool
dangles_kind forms (Plain s) = false
dangles_kind forms (Rule n) = eqb (get_or forms n 0) 0

-- the kind of edge e refers to a rule without lines
unfoldable pub dangles_at : Table → ℕ → Bool
dangles_at t e = dangles_kind t.forms (kind_of (get_or t.edge_kind e 0))

-- edge a of an obj rule leads to edge b, and the keys do not rise: from the form, then a's and b's rule, a's next and b's state, the keys
unfoldable pub clash_codes : ℕ → ℕ → ℕ → ℕ → ℕ → ℕ → ℕ → Bool
clash_codes f r r' m q k k' = eqb f 1 && (eqb r r' && (eqb m q && not (ltb k k')))

unfoldable pub clash_at : Table → ℕ → ℕ → Bool
clash_at t a b =
    clash_codes (get_or t.forms (get_or t.edge_rule a 0) 0) (get_or t.edge_rule a 0) (get_or t.edge_rule b 0)
    (get_or t.edge_next a 0) (get_or t.edge_state b 0) (get_or t.edge_key a 0) (get_or t.edge_key b 0)

-- edges a and b clash, the one way or the other
unfoldable pub clashes_at : Table → ℕ → ℕ → Bool
clashes_at t b a = clash_at t a b || clash_at t b a

-- edge b clashes with an edge up to it
unfoldable pub late_at : Table → ℕ → Bool
late_at t b = some (clashes_at t b) 0 (b + 1)

-- the line of edge e
abbrev pub line_at : Table → ℕ → ℕ
line_at t e = get_or t.edge_line e 0

-- the first edge that refers to a rule without lines
unfoldable pub dangling : Table → Option ℕ
dangling t = find (dangles_at t) (range_with_len 0 t.edges)

-- the first edge that clashes with one up to it
unfoldable pub clashing : Table → Option ℕ
clashing t = find (late_at t) (range_with_len 0 t.edges)

-- a refusal for an edge that was found, with the edge's line, or else what follows
abbrev pub or_refused : Table → (ℕ → Refusal) → Option ℕ → Loaded → Loaded
or_refused t r None v = v
or_refused t r (Some e) v = refusal (r (line_at t e))

-- refusals 8 and 9, or the table
unfoldable pub check_table : Table → Loaded
check_table t =
    or_refused t NoRule (dangling t)
    (cond (eqb (get_or t.forms 0 0) 0) (refusal NoRoot) (or_refused t NotAscending (clashing t) (loaded t)))
