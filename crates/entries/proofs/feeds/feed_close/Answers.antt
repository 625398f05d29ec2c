-- `feeds::feed_close` meets its contract: the feeds, then the close. Assumes nothing.
use Rattle.entries.proofs.FeedLaws.{streamed-of}
use Rattle.entries.proofs.feeds.feed_close.Goals as goal

pub returns : goal.returns
returns c =
    let put = c.put_answer in
    let fed = c.feed_all-f in
    streamed-of _ _ _ _ _ _ _ _ _ _ _ fed.ensures.feeds _ _ _ _ c.close-answer.ensures _ _ put.ensures.0 put.ensures.1
