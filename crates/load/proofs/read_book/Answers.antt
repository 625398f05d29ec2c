-- `read_book` meets its contract: what is read agrees with the paper, and what is accepted is checked. Assumes nothing.
use mathlib.Core.Path.{refl}
use Rattle.std.proofs.Common.{Err}
use Rattle.std.proofs.lemmas.Result.{err_from_is_err_and}
use Rattle.load.specs.Loads.{LoadsAs}
use Rattle.load.specs.Step.{answered}
use Rattle.load.proofs.AgreeLaws.{load-checked, load-refused, refusal-some}
use Rattle.load.proofs.read_book.Goals as goal

pub returns : goal.returns
returns c = load-checked _ _ c.in_ok-take_book.ensures 0 refl _ refl c.check_table.ensures

pub returns-in_err-take_book : goal.returns-in_err-take_book
returns-in_err-take_book c =
    let r = c.in_err-take_book.field-0.0 in
    let p = err_from_is_err_and c.from_residual.result c.from_residual.ensures.1 in
    let z : LoadsAs c.args.book.now (answered (Err r) c.take_book.new.table) = load-refused _ _ c.in_err-take_book.ensures _ refl (refusal-some r) in
    rw (p.1, p.2) z
