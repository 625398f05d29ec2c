-- What holds of each entry that a line says: the limits of its fields. Derived: `ProperLaws.say_line-proper`. Assumes nothing.
use Rattle.std.specs.Prelude.{Bool, true, false, List, ◌≡◌, ℕ, ◌<◌, ◌≤◌, length}
use Rattle.laws.specs.Lists.{all}
use Rattle.table.specs.declared.kind.ValueKind.{ValueKind}
use Rattle.table.specs.Kind.{code_of}
use Rattle.book.specs.Entry.{Form, obj, arr, Entry, edge, end_state}
use Rattle.book.specs.Text.{is_empty}
use Rattle.book.specs.Line.{is_visible, Said, bad, good}

-- the form has no keys
unfoldable pub is_arr : Form → Bool
is_arr obj = false
is_arr arr = true

pub record ProperEdge (r : ℕ) (f : Form) (q : ℕ) (k : List ℕ) (v : ValueKind) (m : ℕ) : Type 0 where
  pub rule : r < 32
  pub state : q < 16
  pub len : length k ≤ 32
  pub visible : all is_visible k ≡ true
  pub keyed : is_empty k ≡ is_arr f
  pub kind : code_of v < 38
  pub next : m < 16

-- an entry within the limits of its fields
abbrev pub Proper : Entry → Type 0
Proper (edge r f q k v m) = ProperEdge r f q k v m
Proper (end_state r f q) = (r < 32) × (q < 16)

-- a line that is taken says an entry within the limits of its fields
abbrev pub ProperSaid : Said → Type 0
ProperSaid (bad k) = Unit {0}
ProperSaid (good e) = Proper e
