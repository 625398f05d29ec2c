-- `close::close_frame` meets its contract: a law for each of the three cases. Assumes nothing.
use Rattle.std.proofs.Common.{ℕ, ◌-◌, ◌∙◌, ap, drop}
use Rattle.frame.proofs.CloseLaws.{closed-marked, closed-object, closed-array}
use Rattle.frame.proofs.FormLaws.{object-of-form, array-of-form}
use Rattle.frame.proofs.close.close_frame.Goals as goal

pub returns-in-Object : goal.returns-in-Object
returns-in-Object c = closed-marked _ _ _ _ (object-of-form _ c.in-Object.ensures) c.if-frame-gt0.true

pub returns-in-Object-2 : goal.returns-in-Object-2
returns-in-Object-2 c = closed-object _ _ _ _ _ _ (object-of-form _ c.in-Object.ensures) c.if-frame-gt0.false c.walk.ensures c.rule_set.ensures

pub returns-in-Array : goal.returns-in-Array
returns-in-Array c = closed-array _ _ _ _ c.unwrap.result.now _ (array-of-form _ c.in-Array.ensures) ((rw c.unwrap.ensures at c.last_chunk.ensures.cases).1.same ∙ ap (λ (n : ℕ). drop (n - 64) c.args.frame.now) c.told-frame) c.rule_set-in-Array.ensures
