-- `read` meets its contract. Assumes nothing.
use Rattle.std.proofs.Common.{not, ap, ◌∙◌}
use Rattle.boundary.proofs.CallLaws.{read-kept, read-cleared}
use Rattle.boundary.proofs.read.Goals as goal

pub returns-then-is_err : goal.returns-then-is_err
returns-then-is_err c =
    read-cleared _ c.read_text.result _ _ _ _ c.read_text.ensures c.bound-read.ensures c.load_b.ensures
    (c.is_err.ensures.negation ∙ ap not c.if-is_err.true) c.clear-then-is_err.ensures

pub returns-else-is_err : goal.returns-else-is_err
returns-else-is_err c =
    read-kept _ c.read_text.result _ c.read_text.new.corners _ _ c.read_text.ensures c.bound-read.ensures c.load_b.ensures
    (c.is_err.ensures.negation ∙ ap not c.if-is_err.false)
