-- `pick` meets its contract: what is left of the slice gives what the whole gives. Assumes nothing.
use Rattle.std.proofs.Common.{◌≡◌, length}
use Rattle.pick.specs.Pick.{pick_of}
use Rattle.pick.proofs.pick.Given as goal

abbrev pub invariant-loop-part : goal.invariant-loop-part
invariant-loop-part l = pick_of l.rest l.left ≡ pick_of l.s l.n

abbrev pub decreases-loop-part : goal.decreases-loop-part
decreases-loop-part l = length l.rest
