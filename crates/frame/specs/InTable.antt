-- The tests of a table's edges and rules, with the kinds that a value fits as a mask: short names for the definitions of `Edges` and `Ops` over the
-- numbers of one table. Derived: each is the definition that it names. Assumes nothing.
use Rattle.std.specs.Prelude.{Bool, List, ℕ}
use Rattle.table.specs.Table.{Table}
use Rattle.frame.specs.Edges.{state_number, fitting, stepping, walking}
use Rattle.frame.specs.Mask.{mask_has}
use Rattle.frame.specs.Ops.{accepting}

-- the number of the state that edge e leaves, and of the one that it leads to
abbrev pub leaves : Table → ℕ → ℕ
leaves t = state_number t.edge_rule t.edge_state

abbrev pub leads_to : Table → ℕ → ℕ
leads_to t = state_number t.edge_rule t.edge_next

-- edge e is one of key k, and the mask m has its kind
abbrev pub fitting_in : Table → ℕ → ℕ → ℕ → Bool
fitting_in t m k = fitting (mask_has m) t.edge_key t.edge_kind k

-- the mask m has the kind of edge e, and the edge is one of an `arr` rule and leaves a state of the array f
abbrev pub stepping_in : Table → ℕ → List ℕ → ℕ → Bool
stepping_in t m f = stepping (mask_has m) t.edge_rule t.edge_state t.edge_kind t.forms f

-- edge e is a fitting one of key k in the object f, and leaves one of the states s
abbrev pub walking_in : Table → List ℕ → List ℕ → ℕ → ℕ → Bool
walking_in t f s k = walking t.edge_rule t.edge_state t.edge_key f s k

-- rule r is of the form, and has an end state among the states s
abbrev pub accepting_in : Table → ℕ → List ℕ → ℕ → Bool
accepting_in t form s = accepting t.forms t.ends form s
