-- The table of book B: what the reader's theorems ask of a table. Assumes nothing.
use mathlib.Core.Bool.{true}
use mathlib.Core.Path.{◌≡◌, refl, sym, ap}
use Rattle.table.specs.Table.{Table}
use Rattle.table.specs.Limits.{within_limits}
use Rattle.book.specs.Load.{loads}
use Rattle.book.specs.Examples.{book_b}
use Rattle.book.proofs.Examples.{loads-book_b}
use Rattle.load.specs.BookAnswer.{answer_for}
use Rattle.load.specs.Step.{Loaded}
use Rattle.load.specs.Loads.{LoadsAs, book_table}
use Rattle.load.proofs.LoadedLaws.{loaded-within_limits}
use Rattle.demand.specs.Book.{Book}
use Rattle.boundary.specs.Exact.{entries}

given : Loaded
given = record { answer = answer_for (loads book_b).number (loads book_b).line; table = book_table book_b }

gives : LoadsAs book_b given
unfolding given
gives = record { answer = refl; table = refl }

-- it is a table that load gives for an accepted book
pub book-b : {t : Table} → t ≡ book_table book_b → Book t entries
unfolding given
book-b e = record { bytes = book_b; loaded = given; gave = gives; accepted = ap (λ l. l.number) loads-book_b; table = sym e; entries = refl }

-- it is within the limits
pub limits-b : {t : Table} → t ≡ book_table book_b → within_limits t ≡ true
unfolding given
limits-b e = rw e (loaded-within_limits book_b given gives)
