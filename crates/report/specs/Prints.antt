-- What a program prints that reports the pieces of its input as they arrive, and finishes at its end: REQUIREMENT.md, section 8. Stated. Assumes
-- nothing.
use Rattle.std.specs.Prelude.{List, [], ◌++◌, ℕ, drop}
use Rattle.table.specs.Table.{Table}
use Rattle.reader.specs.declared.Reader.{Reader}
use Rattle.reader.specs.Machine.{close_of}
use Rattle.report.specs.Report.{reports, closing}

-- from a reader and a work buffer on: the bytes of the input, and the lines printed
pub data Prints (t : Table) : Reader → List ℕ → List ℕ → List ℕ → Type 0 where
  -- the input ends
  ended : {r : Reader} {w : List ℕ} → Prints t r w [] (closing (close_of r t w)).text
  -- a piece s is reported with room for k lines, and what is unread of it stands before the bytes u after it
  reported : {r : Reader} {w x : List ℕ} (k : ℕ) (s u : List ℕ)
      → Prints t (reports k t r w s).reader (reports k t r w s).work (drop (reports k t r w s).read s ++ u) x
      → Prints t r w (s ++ u) ((reports k t r w s).text ++ x)
