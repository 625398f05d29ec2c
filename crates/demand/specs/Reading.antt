-- The verdicts that a caller gets who feeds what is unread of his bytes, piece by piece, and closes at their end: REQUIREMENT.md, sections 1 and 7.
-- Stated. Assumes nothing.
use Rattle.std.specs.Prelude.{List, [], ◌++◌, ℕ, drop}
use Rattle.table.specs.Table.{Table}
use Rattle.verdict.specs.declared.Verdict.{Verdict}
use Rattle.reader.specs.declared.Reader.{Reader}
use Rattle.reader.specs.Machine.{feed_of, close_of}
use Rattle.stream.specs.Records.{and_then}

-- from a reader and a work buffer on: the bytes, and the verdicts
pub data Reads (t : Table) : Reader → List ℕ → List ℕ → List Verdict → Type 0 where
  -- the bytes end
  ended : {r : Reader} {w : List ℕ} → Reads t r w [] (and_then (close_of r t w).answer [])
  -- a piece s is fed, and what is unread of it stands before the bytes u after it
  fed : {r : Reader} {w : List ℕ} {vs : List Verdict} (s u : List ℕ)
      → Reads t (feed_of r t w s).reader (feed_of r t w s).work (drop (feed_of r t w s).count s ++ u) vs
      → Reads t r w (s ++ u) (and_then (feed_of r t w s).answer vs)
