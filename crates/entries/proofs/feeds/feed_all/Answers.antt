-- `feeds::feed_all` meets its contract: what is unread gives what the whole gives. Assumes nothing.
use Rattle.std.proofs.Common.{rules, sym, ◌∙◌}
use Rattle.entries.proofs.FeedLaws.{going_start, going_done, going-refused, going_more, less-unread, made-refused}
use Rattle.entries.proofs.feeds.feed_all.Goals as goal

pub loop-f-init : goal.loop-f-init
loop-f-init c = search (rules, going_start)

pub returns-then-is_err : goal.returns-then-is_err
returns-then-is_err c =
    let refused = sym c.is_err.ensures.value ∙ c.if-is_err.true in
    record { feeds = search (rules, refused, going-refused); made_bound = search (rules, refused, made-refused) }

pub loop-f-smaller : goal.loop-f-smaller
loop-f-smaller c = let served = sym c.is_err.ensures.value ∙ c.if-is_err.false in search (rules, served, less-unread)

pub loop-f-preserved : goal.loop-f-preserved
loop-f-preserved c = let served = sym c.is_err.ensures.value ∙ c.if-is_err.false in search (rules, served, going_more)

pub returns : goal.returns
returns c = record { feeds = search (rules, going_done); made_bound = search rules }
