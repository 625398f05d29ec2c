-- `frame_of` meets its contract: what is lent begins with the frame, and without a frame nothing is lent. Assumes nothing.
use Rattle.std.proofs.Common.{◌-◌, ◌<◌, ◌∙◌, ◌≡◌, [], arith, length, None, Some, MatchOption, take, drop, length-drop}
use Rattle.std.specs.Array.{IsFirstChunk}
use lib.Seq.{length-take-le}
use Rattle.frame.specs.Frame.{frame_at}
use Rattle.frame.proofs.LevelLaws.{frame_at-of-part, frame_at-none}
use Rattle.frame.proofs.frame_of.Goals as goal

pub returns-in_err-start : goal.returns-in_err-start
returns-in_err-start c = rw c.from_residual.ensures (frame_at-none _ _ c.in_err-start.ensures)

pub returns : goal.returns
returns c =
    let w = c.args.work.now in
    let p = c.in_ok-start.ensures in
    let n = length w - c.in_ok-start.start in
    let part = take n (drop c.in_ok-start.start w) in
    let e = frame_at-of-part w c.args.level c.in_ok-start.start n p.0 p.1 (omega arith) in
    let l : length part ≡ n = length-take-le n (drop c.in_ok-start.start w) (simp length-drop (omega arith)) in
    (elim c.first_chunk.result as (λ r. MatchOption r (length part < 96) (λ y. IsFirstChunk part y.now 96) → MatchOption r (frame_at w c.args.level ≡ []) (λ f. f.now ≡ frame_at w c.args.level)) [
      | None ↦ λ k. absurd (omega arith)
      | Some y ↦ λ k. k.same ∙ e
    ]) c.first_chunk.ensures.cases
