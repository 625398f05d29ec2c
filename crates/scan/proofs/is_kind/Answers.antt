-- `is_kind` meets its contract. Assumes nothing.
use Rattle.scan.proofs.FieldLaws.{is_kind-by-word}
use borrow.Author.Rules.{rules}
use Rattle.scan.proofs.is_kind.Goals as goal

pub returns : goal.returns
returns c = search (rules, is_kind-by-word)
