-- `fieldtext_judge` meets its contract: the book, then the stream by its table. Assumes nothing.
use mathlib.Core.Path.{refl, sym, ap, ◌∙◌}
use Rattle.load.specs.BookAnswer.{numbered}
use Rattle.load.proofs.LoadedLaws.{refusal-above-0}
use Rattle.fieldtext.proofs.JudgeLaws.{judge-refused, judge-accepted}
use Rattle.fieldtext.proofs.fieldtext_judge.Goals as goal

pub returns-in-Err : goal.returns-in-Err
returns-in-Err c =
    let number = c.number.ensures ∙ sym (ap (λ a. (numbered a).number) c.in-Err.is) in
    judge-refused _ _ c.load.ensures.loads_as _ _ _ _ _ number (λ z. refusal-above-0 c.in-Err.refusal (sym c.number.ensures ∙ z)) _ (c.line.ensures ∙ sym (ap (λ a. (numbered a).line) c.in-Err.is)) _ c.put.ensures

pub returns : goal.returns
returns c = judge-accepted _ _ c.load.ensures.loads_as _ _ _ _ 0 (sym (ap (λ a. (numbered a).number) c.in_default.is)) refl _ c.fieldtext_judge_table.ensures
