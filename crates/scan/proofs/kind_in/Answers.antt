-- `kind_in` meets its contract. Assumes nothing.
use mathlib.Core.Path.{◌≡◌, ◌∙◌}
use Rattle.std.proofs.Common.{None}
use Rattle.scan.proofs.FieldLaws.{kind-plain, kind-rule, kind-over}
use borrow.Author.Rules.{rules}
use Rattle.scan.proofs.kind_in.Goals as goal

pub returns-in-Some : goal.returns-in-Some
returns-in-Some c = search (rules, kind-plain)

pub returns-in_ok-value-in-None : goal.returns-in_ok-value-in-None
returns-in_ok-value-in-None c = search (rules, kind-rule)

pub returns-in_err-value-in-None : goal.returns-in_err-value-in-None
returns-in_err-value-in-None c =
    let e : c.from_residual.result ≡ None = search rules in
    e ∙ kind-over _ _ c.plain_word.ensures c.value.result (search rules) (search rules) (search rules)
