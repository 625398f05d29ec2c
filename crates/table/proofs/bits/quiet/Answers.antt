-- `bits::quiet` meets its contract: bytes whose bits together are 0 are 0 each. Assumes nothing.
use Rattle.table.proofs.ByteLaws.{quiet-eight}
use borrow.Author.Tests.{eqb-true}
use Rattle.table.proofs.bits.quiet.Goals as goal

pub returns : goal.returns
returns c = let g = c.args in λ e. quiet-eight g.s.now g.a (eqb-true _ _ e)
