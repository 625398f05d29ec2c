-- `cut` meets its contract. Assumes nothing.
use Rattle.line.proofs.LineLaws.{one-part, two-parts, three-parts, four-parts, five-parts, six-parts, more_parts}
use Rattle.line.proofs.cut.Goals as goal

pub returns-in_err-rule : goal.returns-in_err-rule
returns-in_err-rule c = rw c.from_residual.ensures (one-part _ c.in_err-rule.ensures)

pub returns-in_err-form : goal.returns-in_err-form
returns-in_err-form c = rw c.from_residual-in_err-form.ensures (two-parts _ _ _ c.in_ok-rule.ensures c.in_err-form.ensures)

pub returns-in_err-state : goal.returns-in_err-state
returns-in_err-state c = rw c.from_residual-in_err-state.ensures (three-parts _ _ _ c.in_ok-rule.ensures _ _ c.in_ok-form.ensures c.in_err-state.ensures)

pub returns-in_err-key : goal.returns-in_err-key
returns-in_err-key c = rw c.from_residual-in_err-key.ensures (four-parts _ _ _ c.in_ok-rule.ensures _ _ c.in_ok-form.ensures _ _ c.in_ok-state.ensures c.in_err-key.ensures)

pub returns-in_err-value : goal.returns-in_err-value
returns-in_err-value c = rw c.from_residual-in_err-value.ensures (five-parts _ _ _ c.in_ok-rule.ensures _ _ c.in_ok-form.ensures _ _ c.in_ok-state.ensures _ _ c.in_ok-key.ensures c.in_err-value.ensures)

pub returns-in-Some : goal.returns-in-Some
returns-in-Some c = more_parts _ _ _ c.in_ok-rule.ensures _ _ c.in_ok-form.ensures _ _ c.in_ok-state.ensures _ _ c.in_ok-key.ensures _ _ c.in_ok-value.ensures _ _ c.in-Some.ensures

pub returns-in-None : goal.returns-in-None
returns-in-None c = six-parts _ _ _ c.in_ok-rule.ensures _ _ c.in_ok-form.ensures _ _ c.in_ok-state.ensures _ _ c.in_ok-key.ensures _ _ c.in_ok-value.ensures c.in-None.ensures
