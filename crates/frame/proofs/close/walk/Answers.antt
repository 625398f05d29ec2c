-- `close::walk` meets its contract. Assumes nothing.
use Rattle.frame.specs.Ops.{walked, start_states}
use Rattle.frame.proofs.WalkLaws.{walked-next-byte}
use Rattle.frame.proofs.close.walk.Goals as goal

pub loop-i-init : goal.loop-i-init
unfolding walked start_states
loop-i-init c = c.add_starts.ensures

pub loop-i-preserved : goal.loop-i-preserved
loop-i-preserved c = walked-next-byte _ _ _ _ _ _ c.loop-i.invariant c.walk_byte.ensures
