-- `change_first` meets its contract: the frame comes back as the change left it, and the rest stays. Assumes nothing.
use Rattle.std.proofs.Common.{◌++◌, drop, ap, ◌∙◌, refl}
use Rattle.frame.proofs.change_first.Goals as goal

pub returns-in-Some : goal.returns-in-Some
returns-in-Some g c = λ op same.
    ap (λ f. f ++ drop 96 c.args.work.now) (same _ _ (record { shown = _; shows = refl; left = _; met = c.change.ensures; leaves = refl }) ∙ ap op c.in-Some.ensures.cases.same)
