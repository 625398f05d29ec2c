-- `files::run_names` ends: each line leaves fewer names. Assumes nothing.
use Rattle.std.proofs.Common.{length}
use Rattle.vectors_text.proofs.files.run_names.Given as goal

abbrev pub decreases-loop-end : goal.decreases-loop-end
decreases-loop-end g l = length l.rest
