-- `read::take_lines` meets its contract. Assumes nothing.
use mathlib.Core.Path.{refl}
use native.Mathlib.Omega.{arith}
use Rattle.load.proofs.ReadLaws.{lines_end, lines-open, lines-bad, lines_more, fault-some}
use borrow.Author.Rules.{rules}
use Rattle.load.proofs.read.take_lines.Goals as goal

pub returns-in-Err : goal.returns-in-Err
returns-in-Err c = lines-bad _ _ _ _ c.loop-l.invariant.1 _ _ c.in-Some.ensures _ _ c.in-Err.ensures _ _ (fault-some c.in-Err.fault) c.line_refusal.ensures refl

pub loop-l-preserved : goal.loop-l-preserved
loop-l-preserved c =
    let s = c.in-Some.ensures in
    let p = s.shorter in
    let e = c.in_default-take_line.ensures in
    (omega (arith, p), lines_more _ _ _ _ c.loop-l.invariant.1 _ _ s _ _ e refl)

pub returns-then-not-is_empty : goal.returns-then-not-is_empty
returns-then-not-is_empty c = lines-open _ _ _ _ c.loop-l.invariant.1 _ (search rules) c.in_default.ensures refl

pub returns : goal.returns
returns c = lines_end _ _ _ _ c.loop-l.invariant.1 (search rules)
