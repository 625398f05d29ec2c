-- `read::take_line` meets its contract. Assumes nothing.
use Rattle.std.proofs.lemmas.Result.{err_from_is_err_and}
use Rattle.load.proofs.ReadLaws.{line-proper, line-entry, line-fault}
use Rattle.load.proofs.read.take_line.Goals as goal

pub take_entry-requires : goal.take_entry-requires
take_entry-requires c = line-proper _ _ c.in_ok-line.ensures

pub returns : goal.returns
returns c = line-entry _ _ _ _ _ c.in_ok-line.ensures c.take_entry.ensures

pub returns-in_err-line : goal.returns-in_err-line
returns-in_err-line c =
    let p = err_from_is_err_and c.from_residual.result c.from_residual.ensures.1 in
    rw (p.1, p.2) (line-fault _ _ _ _ c.in_err-line.ensures)
