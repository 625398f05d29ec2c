-- `is_number` meets its contract. Assumes nothing.
use Rattle.scan.proofs.ScanLaws.{number-some, number-none}
use borrow.Author.Rules.{rules}
use Rattle.scan.proofs.is_number.Goals as goal

pub returns-in-Some : goal.returns-in-Some
returns-in-Some c = search (rules, number-some)

pub returns-in-None : goal.returns-in-None
returns-in-None c = search (rules, number-none)
