-- `number::beyond` meets its contract. Assumes nothing.
use Rattle.std.proofs.Common.{◌∙◌}
use Rattle.points.proofs.NumberLaws.{number-minus, number-plain}
use Rattle.points.proofs.number.beyond.Goals as goal

pub returns-in-Some : goal.returns-in-Some
returns-in-Some c = let h = c.in-Some.ensures.cases in c.then_some.ensures ∙ number-minus _ _ _ h.0 h.1 c.requires c.has_some_digits.ensures

pub returns-in-None : goal.returns-in-None
returns-in-None c = c.then_some-in-None.ensures ∙ number-plain _ _ c.in-None.ensures.cases c.requires c.has_some_digits-in-None.ensures
