-- `without_cr` meets its contract. Assumes nothing.
use Rattle.std.proofs.Common.{refl, ap, ◌∙◌}
use Rattle.points.proofs.LineLaws.{without_cr-of}
use Rattle.points.proofs.without_cr.Goals as goal

pub returns : goal.returns
returns c = ap (λ b. b.now) c.unwrap_or.ensures ∙ without_cr-of c.args.s.now c.strip_suffix.result c.args.s refl c.strip_suffix.ensures.cases
