-- `query` meets its contract. Assumes nothing.
use Rattle.std.proofs.Common.{ap, ◌∙◌, List}
use Rattle.std.proofs.lemmas.Result.{err_from_is_err_and}
use Rattle.geometry.specs.declared.Point.{Point}
use Rattle.boundary.specs.Exact.{answer_at}
use Rattle.boundary.proofs.CallLaws.{query-corners, query-refused}
use Rattle.boundary.proofs.query.Goals as goal

pub returns-in_err-n : goal.returns-in_err-n
returns-in_err-n c =
    let p = err_from_is_err_and c.from_residual.result c.from_residual.ensures.1 in rw (p.1, p.2) (query-refused c.read.ensures c.in_err-n.was)

pub returns : goal.returns
returns c = query-corners c.read.ensures c.in_ok-n.was (c.answer_at.ensures ∙ ap (λ (cs : List Point). answer_at cs c.args.p) c.new.ensures)
