-- `check::check_table` meets its contract. Assumes nothing.
use Rattle.load.proofs.CheckLaws.{check-dangling, check-root, check-clash, check-good}
use mathlib.Core.Path.{refl}
use borrow.Author.Rules.{rules}
use Rattle.load.proofs.check.check_table.Goals as goal

pub returns-in-Some : goal.returns-in-Some
returns-in-Some c = check-dangling _ _ _ c.dangling.ensures _ _ c.in-Some.is c.line-line.ensures refl

pub returns-then-form-eq0 : goal.returns-then-form-eq0
returns-then-form-eq0 c = search (rules, check-root)

pub returns-in-Some-clashing : goal.returns-in-Some-clashing
returns-in-Some-clashing c = search (rules, check-clash)

pub returns : goal.returns
returns c = search (rules, check-good)
