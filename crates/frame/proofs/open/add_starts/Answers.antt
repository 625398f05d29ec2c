-- `open::add_starts` meets its contract. Assumes nothing.
use Rattle.laws.specs.Bits.{set_all}
use Rattle.table.specs.Kind.{form_number}
use Rattle.frame.proofs.QuietLaws.{set_all-quiet}
use Rattle.frame.proofs.FormLaws.{form_number-nonzero}
use Rattle.std.proofs.Common.{◌≡◌, ◌*◌, ◌+◌, sym, ◌∙◌, arith, refl}
use Rattle.frame.proofs.open.add_starts.Goals as goal
use Rattle.frame.proofs.open.add_starts.Goals.{then-not-no_forms, else-not-no_forms}

pub loop-i-init : goal.loop-i-init
unfolding set_all
loop-i-init c = refl

pub loop-i-preserved : goal.loop-i-preserved
loop-i-preserved c =
    let a = c.args in
    let f = a.table.now.forms in
    let n = form_number a.form in
    let e : 8 * (c.loop-i.i + 1) ≡ 8 * c.loop-i.i + 8 = omega arith in
    rw e (elim c.if-not-no_forms.branch [
      | then-not-no_forms w ↦ w.states-is ∙ w.add_eight.ensures a.states.now c.loop-i.invariant
      | else-not-no_forms w ↦ w.states-is ∙ c.loop-i.invariant ∙ sym (set_all-quiet f n (8 * c.loop-i.i) a.states.now (form_number-nonzero a.form) (c.no_forms.ensures w.if-not-no_forms.false))
    ])
