-- `judge_piece` ends: each turn reads some of the piece. Assumes nothing.
use Rattle.std.proofs.Common.{length}
use Rattle.judge.proofs.Stream.judge_piece.Given as goal

abbrev pub decreases-loop-rest : goal.decreases-loop-rest
decreases-loop-rest g l = length l.rest
