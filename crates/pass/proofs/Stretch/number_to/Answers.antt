-- `Stretch::number_to` meets its contract. The loop's invariant: the bytes before its place were passed over. Assumes nothing.
use Rattle.std.proofs.Common.{rules}
use Rattle.pass.proofs.PassLaws.{number-end, number-at-byte, number-goes}
use Rattle.pass.proofs.Stretch.number_to.Goals as goal

pub returns-in_default : goal.returns-in_default
returns-in_default c = search (rules, number-end, c.in_default.ensures.lookup)

pub loop-b-preserved : goal.loop-b-preserved
loop-b-preserved c = search (rules, number-goes, c.in-Some.ensures.lookup.3.1 0)

pub returns-in_default-number_move : goal.returns-in_default-number_move
returns-in_default-number_move c = search (rules, number-at-byte, c.in-Some.ensures.lookup.3.0, c.in-Some.ensures.lookup.3.1 0)
