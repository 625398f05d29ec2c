-- `answer_each` meets its contract. Assumes nothing.
use Rattle.std.proofs.Common.{◌≡◌, ◌∙◌, ◌<◌, length, arith, sym}
use Rattle.replot.proofs.PartlyLaws.{partly_none, partly-next, partly-all}
use Rattle.replot.proofs.answer_each.Goals as goal

pub loop-p-init : goal.loop-p-init
loop-p-init c = sym (partly_none _ _)

pub loop-p-preserved : goal.loop-p-preserved
loop-p-preserved c =
    let lt : c.loop-p.p-index < length c.args.track.now = omega arith in
    rw (c.answered.ensures, c.loop-p.invariant) (partly-next _ _ _ _ lt)

pub returns : goal.returns
returns c = let e : c.loop-p.p-index ≡ length c.args.track.now = omega arith in c.loop-p.invariant ∙ rw e (partly-all _ _)
