-- `fill` is safe and ends, since each turn leaves less room in the space; what was read so far stands at its front. Assumes nothing.
use Rattle.std.proofs.Common.{length, take, ◌-◌, ◌≤◌}
use Rattle.std.specs.Io.KnownBytes.{Consumes}
use Rattle.lent_file.proofs.fill.Given as goal

abbrev pub invariant-loop-n : goal.invariant-loop-n
invariant-loop-n g l = (l.n ≤ length l.space) × Consumes (g.R.Read.remaining l.initial.file) (g.R.Read.remaining l.file) (take l.n l.space)

abbrev pub decreases-loop-n : goal.decreases-loop-n
decreases-loop-n g l = length l.initial.space - l.n
