-- `feeds::Fed::feed_next` meets its contract: a feed, then its entry. Assumes nothing.
use Rattle.std.proofs.Common.{rules}
use Rattle.std.proofs.lemmas.Result.{err_from_is_err_and}
use Rattle.entries.proofs.FeedLaws.{fed-piece, fed-fits, turn-refused, turn-put}
use Rattle.entries.proofs.feeds.Fed.feed_next.Goals as goal

pub returns-in_err-fed : goal.returns-in_err-fed
returns-in_err-fed c =
    let p = err_from_is_err_and c.from_residual.result c.from_residual.ensures.1 in
    let fed = fed-piece _ _ _ _ _ _ (search rules) _ c.piece_end-end.ensures.value _ (rw c.in_err-fed.was at c.feed.ensures) in
    rw p.1 (turn-refused _ _ _ _ _ _ _ _ _ _ _ fed)

pub overflow_add-self : goal.overflow_add-self
overflow_add-self c =
    let fits = fed-fits _ _ _ _ _ _ (search rules) _ c.piece_end-end.ensures.value _ _ _ _ (rw c.in_ok-fed.was at c.feed.ensures) in
    search (rules, fits)

pub returns : goal.returns
returns c =
    let put = c.put_answer-self.ensures in
    let fed = fed-piece _ _ _ _ _ _ (search rules) _ c.piece_end-end.ensures.value _ (rw c.in_ok-fed.was at c.feed.ensures) in
    turn-put _ _ _ _ _ _ _ _ _ _ _ _ fed _ _ put.0 put.1
