-- `small_line` meets its contract. Assumes nothing.
use Rattle.line.proofs.LineLaws.{rule-over, state-over, says-end, kind-over, next-over, says-edge}
use borrow.Author.Rules.{rules}
use Rattle.line.proofs.small_line.Goals as goal

pub returns-in_err-rule : goal.returns-in_err-rule
returns-in_err-rule c = rw c.from_residual.ensures (search (rules, rule-over))

pub returns-in_err-state : goal.returns-in_err-state
returns-in_err-state c = rw c.from_residual-in_err-state.ensures (search (rules, state-over))

pub returns-then-is_end : goal.returns-then-is_end
returns-then-is_end c = search (rules, says-end)

pub returns-in_err-kind : goal.returns-in_err-kind
returns-in_err-kind c = rw c.from_residual-in_err-kind.ensures (search (rules, kind-over))

pub returns-in_err-next : goal.returns-in_err-next
returns-in_err-next c = rw c.from_residual-in_err-next.ensures (search (rules, next-over))

pub returns : goal.returns
returns c =
    says-edge _ _ _ _ _ _ _ c.value.ensures _ c.in_ok-rule.was _ c.value-2.ensures _ c.in_ok-state.was _ c.form_named-form.ensures _ c.is_end.ensures c.if-is_end.false
    _ c.kind_in.ensures _ c.in_ok-kind.was _ c.value-3.ensures _ _ c.in_ok-next.was c.key_named-key.ensures
