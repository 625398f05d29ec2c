-- `whole` meets its contract: the value of the digits so far leads to that of all. Assumes nothing.
use Rattle.std.proofs.Common.{rules, sym, ◌∙◌}
use Rattle.coordinate.proofs.ReadLaws.{whole_of-none, reading-start, reading-none, reading-more, reading-end}
use Rattle.coordinate.proofs.whole.Goals as goal

pub returns-then-is_empty : goal.returns-then-is_empty
returns-then-is_empty c = sym (whole_of-none _ (search rules))

pub loop-b-init : goal.loop-b-init
loop-b-init c = reading-start _ (search rules)

pub returns-in_err-value : goal.returns-in_err-value
returns-in_err-value c = search (rules, reading-none)

pub loop-b-preserved : goal.loop-b-preserved
loop-b-preserved c = reading-more _ _ _ c.loop-b.invariant (search rules) (sym c.longer.ensures ∙ c.in_ok-value.was)

pub returns : goal.returns
returns c = search (rules, reading-end)
