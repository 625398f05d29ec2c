-- `answer_at` meets its contract. Assumes nothing.
use Rattle.std.proofs.Common.{Ok, ap, sym, ◌∙◌}
use Rattle.boundary.proofs.CallLaws.{in-range-of-test, answer-there, answer-beside}
use Rattle.boundary.proofs.answer_at.Goals as goal

pub returns-then-not-point_in_range : goal.returns-then-not-point_in_range
returns-then-not-point_in_range c = answer-beside _ _ (sym c.point_in_range.ensures ∙ c.if-not-point_in_range.true)

pub locate-requires : goal.locate-requires
locate-requires c = in-range-of-test _ (sym c.point_in_range.ensures ∙ c.if-not-point_in_range.false)

pub returns : goal.returns
returns c = ap Ok c.locate.ensures ∙ answer-there _ _ (sym c.point_in_range.ensures ∙ c.if-not-point_in_range.false)
