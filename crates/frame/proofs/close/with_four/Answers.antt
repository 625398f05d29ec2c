-- `close::with_four` meets its contract: the new bit lies above the set. Assumes nothing.
use Rattle.std.proofs.Common.{◌∙◌, arith, add-one}
use Rattle.laws.proofs.BitLaws.{one_shl}
use Rattle.frame.specs.Ops.{rule_set}
use Rattle.frame.proofs.RuleLaws.{rule_set-lt, with-bit-lt}
use Rattle.frame.proofs.close.with_four.Goals as goal
use Rattle.frame.proofs.close.with_four.Goals.{then-accepts, else-accepts}

pub overflow_add-all : goal.overflow_add-all
overflow_add-all c =
    let l = c.loop-r in
    let b = with-bit-lt l.r l.all (omega arith) (rw l.invariant (rule_set-lt _ _)) in
    record { fits = rw (one_shl 32 l.r (omega arith)) (omega (arith, b)) }

pub loop-r-preserved : goal.loop-r-preserved
unfolding rule_set
loop-r-preserved c =
    rw (add-one, ← c.loop-r.invariant, ← c.accepts.ensures)
    (elim c.if-accepts.branch [
      | then-accepts w ↦ rw w.if-accepts.true (w.all-is ∙ rw (one_shl 32 c.loop-r.r (omega arith)) (omega arith))
      | else-accepts w ↦ rw w.if-accepts.false w.all-is
    ])
