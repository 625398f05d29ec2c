-- `Stretch::pass_to` meets its contract. The loop's invariant: the bytes before its place were passed over. Assumes nothing.
use Rattle.std.proofs.Common.{rules}
use Rattle.pass.proofs.PassLaws.{stands-first, other-end, other-at-byte, other-goes}
use Rattle.pass.proofs.Stretch.pass_to.Goals as goal

pub loop-m-init : goal.loop-m-init
loop-m-init c = search (rules, stands-first)

pub returns-in_default-get : goal.returns-in_default-get
returns-in_default-get c = search (rules, other-end, c.in_default.not-Number, c.in_default-get.ensures.lookup)

pub returns-then-j-self : goal.returns-then-j-self
returns-then-j-self c = search (rules, other-at-byte, c.in_default.not-Number, c.in-Some.ensures.lookup.3.0, c.in-Some.ensures.lookup.3.1 0)

pub loop-m-preserved : goal.loop-m-preserved
loop-m-preserved c = search (rules, other-goes, c.in_default.not-Number, c.in-Some.ensures.lookup.3.1 0)
