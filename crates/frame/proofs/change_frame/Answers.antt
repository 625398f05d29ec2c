-- `change_frame` meets its contract: what is lent begins with the frame, and without a frame nothing is lent. Assumes nothing.
use Rattle.std.proofs.Common.{◌++◌, ◌-◌, take, drop, ap, ◌∙◌, arith, length}
use Rattle.frame.proofs.LevelLaws.{frame_at-of-part, put_frame-of-part, put_frame-none}
use Rattle.frame.proofs.change_frame.Goals as goal

pub returns-in-Some : goal.returns-in-Some
returns-in-Some g c = λ op same.
    let w = c.args.work.now in
    let n = length w - c.in-Some.start in
    let p = c.in-Some.ensures in
    put_frame-of-part w _ _ c.args.level c.in-Some.start n p.0 p.1 (omega arith)
    (c.change_first.ensures op same ∙ ap (λ f. op f ++ drop 96 (take n (drop c.in-Some.start w))) (frame_at-of-part w c.args.level c.in-Some.start n p.0 p.1 (omega arith)))

pub returns-in_default : goal.returns-in_default
returns-in_default g c = λ op same. put_frame-none _ _ _ c.in_default.ensures
