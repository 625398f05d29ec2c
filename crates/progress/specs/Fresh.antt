-- A record of which nothing is read, in the head or after an RS, as a fresh reader has it: REQUIREMENT.md, section 7. Stated. Assumes nothing.
use Rattle.std.specs.Prelude.{Bool, List, ℕ, replicate, None}
use Rattle.json_text.specs.declared.lexer.Awaited.TheVariants as P
use Rattle.json_text.specs.declared.lexer.Mode.TheVariants as M
use Rattle.whole.specs.Fresh.{fresh}
use Rattle.progress.specs.declared.Progress.{Progress}

abbrev pub fresh_progress : Bool → Progress
fresh_progress head = record { mode = M.At P.Value; fault = None; head = head; level = 0; pos = 0; bits = 0; high = 0; number = fresh; len = 0 }

abbrev pub fresh_key : List ℕ
fresh_key = replicate 32 0
