-- `feeds::feed_all` meets its contract: what is unread gives what the whole gives. Assumes nothing.
use Prim.Native.Nat.{◌-◌}
use lib.ListN.{length}
use Rattle.entries.proofs.FeedLaws.{Going}
use Rattle.entries.proofs.feeds.feed_all.Given as goal

abbrev pub invariant-loop-f : goal.invariant-loop-f
invariant-loop-f l = Going l.stream.table.now l.stream.size l.initial.work l.stream.bytes.now l.initial.out l.fn.reader l.work l.out l.f.reader l.f.read l.f.made

abbrev pub decreases-loop-f : goal.decreases-loop-f
decreases-loop-f l = length l.stream.bytes.now - l.f.read
