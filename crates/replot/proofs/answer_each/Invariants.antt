-- `answer_each`: the entries so far have their answers. Assumes nothing.
use Rattle.std.proofs.Common.{◌≡◌}
use Rattle.plane.specs.Lent.{corners_of}
use Rattle.replot.specs.Exact.{answered_by}
use Rattle.replot.proofs.PartlyLaws.{partly}
use Rattle.replot.proofs.answer_each.Given as goal

abbrev pub invariant-loop-p : goal.invariant-loop-p
invariant-loop-p l = l.track ≡ partly (answered_by (corners_of l.corners)) l.p-index l.initial.track
