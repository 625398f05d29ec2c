-- `edge::stepping` meets its contract. Assumes nothing.
use lib.Dec.{ltb}
use mathlib.Core.Path.{sym, ◌∙◌}
use Rattle.frame.specs.Edges.{stepping}
use Rattle.frame.proofs.MaskLaws.{mask_has-apart, last-tested, before-missed}
use Rattle.frame.proofs.edge.stepping.Goals as goal
use Rattle.frame.proofs.edge.stepping.Goals.{then-has_last_bits, else-has_last_bits}

pub returns-then-leaves_state : goal.returns-then-leaves_state
unfolding stepping
returns-then-leaves_state c =
    rw (mask_has-apart, ← c.kind-kind.ensures, ← c.has_last_bits.ensures)
    (elim c.if-has_last_bits.branch [
      | then-has_last_bits w ↦ rw (← w.leaves_state.ensures) (last-tested _ _ _ w.if-has_last_bits.true (sym w.value-is ∙ c.if-leaves_state.true))
      | else-has_last_bits w ↦ cc
    ])

pub returns-else-leaves_state : goal.returns-else-leaves_state
unfolding stepping
returns-else-leaves_state c =
    rw (mask_has-apart, ← c.kind-kind.ensures, ← c.has_last_bits.ensures)
    (c.if-leaves_state.false
    ∙ elim c.if-has_last_bits.branch [
      | then-has_last_bits w ↦ rw (← w.leaves_state.ensures) (before-missed c.has_last_bits.result _ (ltb c.kind-kind.result 64) (sym w.value-is ∙ c.if-leaves_state.false))
      | else-has_last_bits w ↦ rw w.if-has_last_bits.false
    ])
