-- `begin` meets its contract: the names of an accepted book, the lines of a refused one. Assumes nothing.
use mathlib.Core.Path.{refl, sym, ap, ◌∙◌}
use Rattle.load.specs.BookAnswer.{numbered}
use Rattle.load.proofs.LoadedLaws.{refusal-above-0}
use Rattle.report.proofs.EndLaws.{begin-accepted, begin-refused}
use Rattle.report.proofs.begin.Goals as goal

pub returns-in-Ok : goal.returns-in-Ok
returns-in-Ok c = begin-accepted _ _ _ _ c.load.ensures.loads_as 0 (sym (ap (λ a. (numbered a).number) c.in-Ok.is)) _ _ refl c.write.ensures.written

pub returns-in-Err : goal.returns-in-Err
returns-in-Err c =
    let number = c.from.ensures ∙ c.number.ensures in
    begin-refused _ _ _ _ c.load.ensures.loads_as _ (number ∙ sym (ap (λ a. (numbered a).number) c.in-Err.is)) _ _ _
    (λ z. refusal-above-0 c.in-Err.refusal (sym number ∙ z)) (c.line.ensures ∙ sym (ap (λ a. (numbered a).line) c.in-Err.is))
    c.write-in-Err.ensures.written
