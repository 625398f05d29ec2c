-- `close::rule_set` meets its contract. Assumes nothing.
use Rattle.std.proofs.Common.{◌≡◌, ◌+◌, ◌*◌, ◌∙◌, sym, arith, refl}
use Rattle.table.specs.Kind.{form_number}
use Rattle.frame.specs.Ops.{rule_set}
use Rattle.frame.proofs.QuietLaws.{rule_set-quiet}
use Rattle.frame.proofs.close.rule_set.Goals as goal
use Rattle.frame.proofs.close.rule_set.Goals.{then-not-quiet, else-not-quiet}

pub loop-i-init : goal.loop-i-init
unfolding rule_set
loop-i-init c = refl

pub loop-i-preserved : goal.loop-i-preserved
loop-i-preserved c =
    let a = c.args in
    let t = a.table.now in
    let i = c.loop-i.i in
    let e : 4 * (i + 1) ≡ 4 * i + 4 = omega arith in
    rw e (elim c.if-not-quiet.branch [
      | then-not-quiet w ↦ w.set-is ∙ w.with_four-set.ensures
      | else-not-quiet w ↦ w.set-is ∙ c.loop-i.invariant
          ∙ sym (rule_set-quiet t.forms t.ends (form_number a.form) a.states.now (4 * i) (λ k l. let q : 2 * (4 * i) + k ≡ 8 * i + k = omega arith in rw q (c.quiet.ensures w.if-not-quiet.false k l)))
    ])
