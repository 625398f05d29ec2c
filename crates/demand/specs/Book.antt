-- The books that demand 3 speaks of, those that load accepts: REQUIREMENT.md, section 1. Stated. Assumes nothing.
use Rattle.std.specs.Prelude.{List, ◌≡◌, ℕ}
use Rattle.table.specs.Table.{Table}
use Rattle.book.specs.Entry.{Entry}
use Rattle.book.specs.Load.{loads}
use Rattle.load.specs.Step.{Loaded}
use Rattle.load.specs.Loads.{LoadsAs}

-- the table is that which load gave for an accepted book, and the entries are those of that book
pub record Book (t : Table) (es : List Entry) : Type 0 where
  pub bytes : List ℕ
  pub loaded : Loaded
  pub gave : LoadsAs bytes loaded
  pub accepted : (loads bytes).number ≡ 0
  pub table : loaded.table ≡ t
  pub entries : (loads bytes).entries ≡ es
