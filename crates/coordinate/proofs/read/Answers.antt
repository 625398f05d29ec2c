-- `read` meets its contract: the digits behind a minus sign, or all bytes. Assumes nothing.
use Rattle.std.proofs.Common.{sym, ap, ◌∙◌, Some}
use Rattle.std.specs.Prelude.{pos}
use Rattle.std.specs.Option.{option_map}
use Rattle.coordinate.specs.Exact.{negated}
use Rattle.coordinate.proofs.ReadLaws.{whole_of-small, coordinate_of-minus, coordinate_of-plain, positive-fits, positive-read, negated-fits, negated-stored}
use Rattle.coordinate.proofs.read.Goals as goal

pub returns-in_err-whole-in-Some : goal.returns-in_err-whole-in-Some
returns-in_err-whole-in-Some c =
    let h = c.in-Some.ensures.cases in
    c.from_residual.ensures ∙ ap (option_map negated) (sym c.in_err-whole-in-Some.was) ∙ coordinate_of-minus _ _ _ h.0 h.1 c.whole.ensures

pub overflow_cast-result : goal.overflow_cast-result
overflow_cast-result c = positive-fits (whole_of-small _ (sym c.whole.ensures ∙ c.in_ok-whole-in-Some.was))

pub overflow_sub-result : goal.overflow_sub-result
overflow_sub-result c = negated-fits (whole_of-small _ (sym c.whole.ensures ∙ c.in_ok-whole-in-Some.was))

pub returns-in_err-whole-in-None : goal.returns-in_err-whole-in-None
returns-in_err-whole-in-None c =
    c.from_residual-in_err-whole-in-None.ensures ∙ ap (option_map pos) (sym c.in_err-whole-in-None.was)
    ∙ coordinate_of-plain _ _ c.in-None.ensures.cases c.whole-in-None.ensures

pub overflow_cast-result-in-None : goal.overflow_cast-result-in-None
overflow_cast-result-in-None c = positive-fits (whole_of-small _ (sym c.whole-in-None.ensures ∙ c.in_ok-whole-in-None.was))

pub returns-in_ok-whole-in-Some : goal.returns-in_ok-whole-in-Some
returns-in_ok-whole-in-Some c =
    let h = c.in-Some.ensures.cases in
    ap Some (negated-stored (whole_of-small _ (sym c.whole.ensures ∙ c.in_ok-whole-in-Some.was)))
    ∙ ap (option_map negated) (sym c.in_ok-whole-in-Some.was) ∙ coordinate_of-minus _ _ _ h.0 h.1 c.whole.ensures

pub returns-in_ok-whole-in-None : goal.returns-in_ok-whole-in-None
returns-in_ok-whole-in-None c =
    ap Some (positive-read (whole_of-small _ (sym c.whole-in-None.ensures ∙ c.in_ok-whole-in-None.was)))
    ∙ ap (option_map pos) (sym c.in_ok-whole-in-None.was) ∙ coordinate_of-plain _ _ c.in-None.ensures.cases c.whole-in-None.ensures
