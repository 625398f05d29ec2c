-- `read::take_book` meets its contract. Assumes nothing.
use Rattle.load.proofs.ReadLaws.{book-size, book-other, book-lines}
use mathlib.Core.Path.{refl}
use Rattle.load.proofs.read.take_book.Goals as goal

pub returns-then-is_empty-b : goal.returns-then-is_empty-b
returns-then-is_empty-b c = book-size _ _ _ _ c.is_empty.ensures refl c.if-is_empty-b.true refl

pub returns-in-Some : goal.returns-in-Some
returns-in-Some c =
    let s = c.in-Some.ensures.cases in
    book-lines _ _ _ _ c.is_empty.ensures refl c.if-is_empty-b.false _ c.as_slice.ensures _ s.0 _ refl s.1 c.take_lines.ensures

pub returns-in-None : goal.returns-in-None
returns-in-None c = book-other _ _ _ _ c.is_empty.ensures refl c.if-is_empty-b.false _ c.as_slice.ensures _ c.in-None.ensures.cases refl refl
