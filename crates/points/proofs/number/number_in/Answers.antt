-- `number::number_in` meets its contract. Assumes nothing.
use Rattle.std.proofs.Common.{rules}
use Rattle.points.proofs.NumberLaws.{number-of-some}
use Rattle.points.proofs.number.number_in.Goals as goal

pub returns : goal.returns
returns c = search (rules, number-of-some)
