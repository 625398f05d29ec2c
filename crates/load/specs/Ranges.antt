-- The ranges of the numbers of every table that load gives. Nothing is refused for them. Derived: `LoadedLaws.loaded-ranges`. Assumes nothing.
use Rattle.std.specs.Prelude.{ℕ, ◌≤◌, get_or}
use Rattle.table.specs.Table.{Table}

-- the numbers of a table are in their ranges, in the entries that no edge or key uses too
pub record Ranges (t : Table) : Type 0 where
  pub edges : t.edges ≤ 512
  pub keys : t.keys ≤ 128
  pub rule : (i : ℕ) → get_or t.edge_rule i 0 ≤ 31
  pub state : (i : ℕ) → get_or t.edge_state i 0 ≤ 15
  pub key : (i : ℕ) → get_or t.edge_key i 0 ≤ 128
  pub kind : (i : ℕ) → get_or t.edge_kind i 0 ≤ 37
  pub next : (i : ℕ) → get_or t.edge_next i 0 ≤ 15
  pub len : (i : ℕ) → get_or t.key_len i 0 ≤ 32
  pub form : (i : ℕ) → get_or t.forms i 0 ≤ 2
