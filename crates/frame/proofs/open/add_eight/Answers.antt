-- `open::add_eight` meets its contract. Assumes nothing.
use Rattle.laws.proofs.BitLaws.{set_all-more}
use Rattle.frame.proofs.QuietLaws.{first-state}
use mathlib.Core.Path.{refl}
use Rattle.frame.proofs.open.add_eight.Goals as goal

pub loop-r-preserved : goal.loop-r-preserved
loop-r-preserved c = λ xs e.
    set_all-more _ _ _ _ _ _ _ _ (c.loop-r.invariant xs e) c.has_form.ensures refl (rw c.from.ensures (first-state c.loop-r.states c.loop-r.r c.has_form.result))
