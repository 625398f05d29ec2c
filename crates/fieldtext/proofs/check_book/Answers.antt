-- `check_book` meets its contract. Assumes nothing.
use Rattle.std.proofs.Common.{refl}
use Rattle.load.proofs.LoadedLaws.{number-of-book, line-of-book}
use Rattle.fieldtext.proofs.check_book.Goals as goal

pub returns : goal.returns
returns c =
    record {
      number = number-of-book _ _ c.load.ensures.loads_as _ refl;
      line = line-of-book _ _ c.load.ensures.loads_as _ refl;
    }
