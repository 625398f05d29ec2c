-- `close_level` meets its contract: without a frame no rule fits. Assumes nothing.
use Rattle.frame.proofs.CloseLaws.{closed-nil}
use Rattle.frame.proofs.close_level.Goals as goal

pub returns-in-None : goal.returns-in-None
returns-in-None c = rw c.in-None.ensures (closed-nil _ _ _)
