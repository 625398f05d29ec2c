-- `value` meets its contract. Assumes nothing.
use Rattle.scan.proofs.ScanLaws.{value-small, value-big}
use Rattle.scan.proofs.value.Goals as goal

pub returns-then-n-limit : goal.returns-then-n-limit
returns-then-n-limit c = value-small _ _ _ c.grown-n.ensures c.if-n-limit.true

pub returns-else-n-limit : goal.returns-else-n-limit
returns-else-n-limit c = value-big _ _ _ c.grown-n.ensures c.if-n-limit.false
