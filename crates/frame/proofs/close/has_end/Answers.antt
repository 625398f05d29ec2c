-- `close::has_end` meets its contract: the rule is its two bytes of states. Assumes nothing.
use mathlib.Core.Bool.{not}
use mathlib.Core.Path.{ap, ◌∙◌}
use borrow.Author.Tests.{ne_eqb}
use Rattle.frame.proofs.ReadLaws.{has_end-low, has_end-high}
use Rattle.frame.proofs.close.has_end.Goals as goal

pub returns-then-states-r-ne0 : goal.returns-then-states-r-ne0
returns-then-states-r-ne0 c =
    let a = c.args in
    ap not (ne_eqb _ 0 c.if-states-r-ne0.true) ∙ has_end-low _ a.states.now a.r _ (c.fits-states _) (c.fits-states _) c.end.ensures c.if-states-r-ne0.true

pub returns-else-states-r-ne0 : goal.returns-else-states-r-ne0
returns-else-states-r-ne0 c =
    let a = c.args in
    has_end-high _ a.states.now a.r _ (c.fits-states _) (c.fits-states _) c.end.ensures _ c.if-states-r-ne0.false c.end-else-states-r-ne0.ensures
