-- `feeds::judge` meets its contract: the start, then the stream. Assumes nothing.
use Rattle.entries.proofs.StartLaws.{start-fresh, judge-streamed, judge-unstarted}
use Rattle.entries.proofs.feeds.judge.Goals as goal

pub feed_close-requires : goal.feed_close-requires
feed_close-requires c = start-fresh _ _ _ (rw c.in-Ok.is at c.start.ensures)

pub returns-in-Ok : goal.returns-in-Ok
returns-in-Ok c = judge-streamed _ _ _ _ _ _ (rw c.in-Ok.is at c.start.ensures) _ c.feed_close.ensures

pub returns-in-Err : goal.returns-in-Err
returns-in-Err c = let put = c.put_answer.ensures in judge-unstarted _ _ _ _ _ _ (rw c.in-Err.is at c.start.ensures) _ _ put.0 put.1
