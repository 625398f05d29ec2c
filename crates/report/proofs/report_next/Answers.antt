-- `report_next` meets its contract: a feed, then its line. Assumes nothing.
use Rattle.std.proofs.Common.{rules}
use Rattle.report.proofs.ReportLaws.{fed-rest, fed-fits, next_of, next-refused}
use Rattle.report.proofs.report_next.Goals as goal

pub overflow_add-result : goal.overflow_add-result
overflow_add-result c =
    let fits = fed-fits _ _ _ _ _ c.requires _ _ _ _ (rw c.in-Ok.is at c.feed.ensures) (search rules) in
    search (rules, fits)

pub returns-in-Ok-clause-next : goal.returns-in-Ok-clause-next
returns-in-Ok-clause-next c =
    let fed = fed-rest _ _ _ _ _ c.requires _ (rw c.in-Ok.is at c.feed.ensures) in
    next_of _ _ _ _ _ _ _ _ _ _ _ fed _ _ c.write_answer.ensures.written

pub returns-in-Err-clause-next : goal.returns-in-Err-clause-next
returns-in-Err-clause-next c =
    let fed = fed-rest _ _ _ _ _ c.requires _ (rw c.in-Err.is at c.feed.ensures) in
    next-refused _ _ _ _ _ _ _ _ _ _ fed
