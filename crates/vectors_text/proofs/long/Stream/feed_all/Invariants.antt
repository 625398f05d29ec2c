-- `long::Stream::feed_all` ends: each feed that reads leaves less of the piece. Assumes nothing.
use Rattle.std.proofs.Common.{length}
use Rattle.vectors_text.proofs.long.Stream.feed_all.Given as goal

abbrev pub decreases-loop-rest : goal.decreases-loop-rest
decreases-loop-rest l = length l.rest
