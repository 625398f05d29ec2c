-- `close::walk_byte` meets its contract. Assumes nothing.
use Rattle.std.proofs.Common.{◌∙◌, refl, add-one}
use Rattle.frame.specs.Frame.{seen_in}
use Rattle.frame.specs.Ops.{walked}
use Rattle.frame.proofs.WalkLaws.{walked-byte-zero}
use Rattle.frame.proofs.close.walk_byte.Goals as goal
use Rattle.frame.proofs.close.walk_byte.Goals.{then-get_bit, else-get_bit}

pub returns-then-frame-i-eq0 : goal.returns-then-frame-i-eq0
returns-then-frame-i-eq0 c = walked-byte-zero _ _ _ _ c.if-frame-i-eq0.true

pub loop-j-init : goal.loop-j-init
unfolding walked
loop-j-init c = refl

pub loop-j-preserved : goal.loop-j-preserved
unfolding walked seen_in
loop-j-preserved c =
    rw (add-one, ← c.loop-j.invariant, ← c.get_bit.ensures)
    (elim c.if-get_bit.branch [
      | then-get_bit w ↦ rw w.if-get_bit.true (w.states-is ∙ w.key_states.ensures)
      | else-get_bit w ↦ rw w.if-get_bit.false w.states-is
    ])
