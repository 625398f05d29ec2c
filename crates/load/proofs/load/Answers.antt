-- `load` meets its contract: the table of a refused book is cleared. Assumes nothing.
use mathlib.Core.Path.{subst, sym, ◌∙◌}
use Rattle.load.specs.Loads.{LoadsAs}
use Rattle.load.proofs.AgreeLaws.{answered-refused, answered-accepted}
use Rattle.load.proofs.BlankLaws.{loads-blank}
use Rattle.load.proofs.load.Goals as goal

pub returns-then-is_err : goal.returns-then-is_err
returns-then-is_err c =
    let a = c.read_book-answer in
    let z = subst (LoadsAs c.args.book.now) (answered-refused a.result a.new.table (sym c.is_err.ensures.value ∙ c.if-is_err.true)) a.ensures in
    rw c.empty.ensures (record { loads_as = z; blank = loads-blank _ _ _ z })

pub returns-else-is_err : goal.returns-else-is_err
returns-else-is_err c =
    let a = c.read_book-answer in
    let z = subst (LoadsAs c.args.book.now) (answered-accepted a.result a.new.table (sym c.is_err.ensures.value ∙ c.if-is_err.false)) a.ensures in
    record { loads_as = z; blank = loads-blank _ _ _ z }
