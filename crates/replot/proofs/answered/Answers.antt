-- `answered` meets its contract: the nearest corner of an answer fits in its room. Assumes nothing.
use Rattle.replot.specs.Exact.{answered_by}
use Rattle.replot.proofs.NearestLaws.{lent-fits}
use Rattle.replot.proofs.answered.Goals as goal

pub with_answer-requires : goal.with_answer-requires
with_answer-requires c = rw c.answer_at.ensures (lent-fits c.args.corners.now c.point.result)

pub returns : goal.returns
unfolding answered_by
returns c = simp (c.with_answer.ensures, c.answer_at.ensures, c.point.ensures)
