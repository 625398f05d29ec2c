-- `place` meets its contract: the levels counted are those that have a frame. Assumes nothing.
use Rattle.frame.proofs.LevelLaws.{has_frame-counted, no_frame-below, no_frame-above, fits-of-has_frame}
use native.Mathlib.Omega.{arith}
use mathlib.Core.Path.{refl}
use Rattle.frame.proofs.place.Goals as goal
use Rattle.frame.proofs.place.Goals.{else-level-gt0-via-then-level-gt0+else-level-frames, else-level-gt0-via-else-level-gt0}

pub returns-then-level-frames : goal.returns-then-level-frames
returns-then-level-frames c =
    let h = has_frame-counted c.args.n c.args.level c.if-level-gt0.true (omega arith) in (h, refl, omega (arith, fits-of-has_frame _ _ h))

pub returns : goal.returns
returns c =
    elim c.else-level-gt0.branch [
      | else-level-gt0-via-then-level-gt0+else-level-frames w ↦ no_frame-above _ _ (omega arith)
      | else-level-gt0-via-else-level-gt0 w ↦ no_frame-below _ _ (omega arith)
    ]
