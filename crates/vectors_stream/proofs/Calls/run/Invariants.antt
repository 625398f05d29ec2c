-- `run` ends: each call takes some of what is left. Assumes nothing.
use Rattle.std.proofs.Common.{length}
use Rattle.vectors_stream.proofs.Calls.run.Given as goal

abbrev pub decreases-loop-rest : goal.decreases-loop-rest
decreases-loop-rest g l = length l.rest
