-- `fieldtext_load` meets its contract. Assumes nothing.
use Rattle.load.proofs.LoadedLaws.{number-of-book}
use borrow.Author.Rules.{rules}
use Rattle.fieldtext.proofs.fieldtext_load.Goals as goal

pub returns : goal.returns
returns c = search (rules, number-of-book)
