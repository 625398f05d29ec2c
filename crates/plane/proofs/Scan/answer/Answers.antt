-- `Scan::answer` meets its contract: a branch for each place. Assumes nothing.
use Rattle.std.proofs.Common.{refl}
use Rattle.plane.specs.Scan.{answer}
use Rattle.plane.proofs.Scan.answer.Goals as goal

pub returns-then-self : goal.returns-then-self
unfolding answer
returns-then-self c = rw c.if-self.true refl

pub returns-then-self-2 : goal.returns-then-self-2
unfolding answer
returns-then-self-2 c = rw (c.if-self.false, c.if-self-2.true) refl

pub returns-else-self-2 : goal.returns-else-self-2
unfolding answer
returns-else-self-2 c = rw (c.if-self.false, c.if-self-2.false) refl
