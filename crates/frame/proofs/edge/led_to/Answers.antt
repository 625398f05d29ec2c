-- `edge::led_to` meets its contract. Assumes nothing.
use Rattle.laws.specs.Bits.{set_all}
use Rattle.laws.proofs.BitLaws.{set_all-more}
use Rattle.std.proofs.Common.{List, ℕ}
use mathlib.Core.Path.{refl, ◌∙◌}
use Rattle.frame.proofs.edge.led_to.Goals as goal
use Rattle.frame.proofs.edge.led_to.Goals.{then-taken, else-taken}

pub loop-e-init : goal.loop-e-init
unfolding set_all
loop-e-init g c = λ p same. refl

pub loop-e-preserved : goal.loop-e-preserved
loop-e-preserved g c = λ p same.
    let more = λ (i : ℕ) (zs : List ℕ). set_all-more p _ c.loop-e.e i c.taken.result _ c.loop-e.states zs (c.loop-e.invariant p same) (same _ _ c.taken.ensures) in
    elim c.if-taken.branch [
      | then-taken w ↦ more _ _ w.next_state.ensures (rw w.if-taken.true (w.states-is ∙ w.set_if.ensures))
      | else-taken w ↦ more _ _ refl (rw w.if-taken.false w.states-is)
    ]
