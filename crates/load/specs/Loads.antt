-- What load gives for a book: REQUIREMENT.md, section 3, Load. The answer with the paper's number and line, and the table. Stated, but for `table_of`:
-- `loaded-holds` of `LoadedLaws` shows that this table holds the book's entries. Assumes nothing.
use Rattle.std.specs.Prelude.{cond, List, ◌≡◌, ℕ, ◌<◌, ◌≤◌, eqb, get_or}
use Rattle.table.specs.Table.{Table}
use Rattle.table.specs.Flat.{empty_table}
use Rattle.table.specs.Bytes.{bytes_of}
use Rattle.book.specs.Load.{loads}
use Rattle.load.specs.BookAnswer.{answer_for}
use Rattle.store.specs.Store.{table_of}
use Rattle.load.specs.Step.{Loaded}

-- the table of a book: that of its entries where it is accepted, the empty table where it is refused
unfoldable pub book_table : List ℕ → Table
book_table b = cond (eqb (loads b).number 0) (table_of (loads b).entries) empty_table

-- what is given for a book: its answer, and its table
pub record LoadsAs (b : List ℕ) (r : Loaded) : Type 0 where
  pub answer : r.answer ≡ answer_for (loads b).number (loads b).line
  pub table : r.table ≡ book_table b

-- the bytes of a table that mean nothing are 0: all of a refused book's, and those between the counts and the first array
pub record Blank (b : List ℕ) (t : Table) : Type 0 where
  pub refused : ((loads b).number ≡ 0 → ⊥) → (i : ℕ) → i < 7920 → get_or (bytes_of t) i 0 ≡ 0
  pub spare : (i : ℕ) → 3 ≤ i → i < 16 → get_or (bytes_of t) i 0 ≡ 0
