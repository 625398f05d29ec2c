-- What the library does with a book and a stream: docs/LIBRARY.md. Stated; `judges-stream` of the proofs joins it to the stream on paper.
-- Assumes nothing.
use Rattle.std.specs.Prelude.{cond, List, [], ◌∷◌, ℕ, eqb}
use Rattle.book.specs.Load.{loads}
use Rattle.load.specs.Loads.{book_table}
use Rattle.entries.specs.Entries.{refusal_entry}
use Rattle.entries.specs.Feeds.{StreamEntries, started, Called, in_out}

-- a book; where it is refused, only its entry
unfoldable pub judges : List ℕ → ℕ → List ℕ → List ℕ → StreamEntries
judges b size w s =
    cond (eqb (loads b).number 0) (started (book_table b) size w s)
    (record { work = w; entries = refusal_entry (loads b).number (loads b).line 0 ∷ [] })

-- a call with a book
unfoldable pub judge_of : List ℕ → List ℕ → ℕ → List ℕ → List ℕ → Called
judge_of b s size w o = in_out o (judges b size w s)
