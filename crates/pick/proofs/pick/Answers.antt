-- `pick` meets its contract: what is left of the slice gives what the whole gives. Assumes nothing.
use Rattle.std.proofs.Common.{rules}
use Rattle.pick.proofs.ScanLaws.{pick-behind, pick-found, pick-passed, pick-last, pick-none}
use Rattle.pick.proofs.pick.Goals as goal

pub returns-then-left-eq0 : goal.returns-then-left-eq0
returns-then-left-eq0 c = search (rules, pick-found)

pub loop-part-preserved-else-left-eq0 : goal.loop-part-preserved-else-left-eq0
loop-part-preserved-else-left-eq0 c = search (rules, pick-passed)

pub loop-part-preserved : goal.loop-part-preserved
loop-part-preserved c = search (rules, pick-behind)

pub returns-then-left-eq0-2 : goal.returns-then-left-eq0-2
returns-then-left-eq0-2 c = search (rules, pick-last)

pub returns-else-left-eq0-2 : goal.returns-else-left-eq0-2
returns-else-left-eq0-2 c = search (rules, pick-none)
