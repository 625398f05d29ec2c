-- Start: REQUIREMENT.md, section 7. It gives a fresh reader with its tally at zero, which keeps the number of frames counted here; a refused start
-- gives a fresh reader with 0 frames. Stated. Assumes nothing.
use Rattle.std.specs.Prelude.{Bool, true, false, List, ℕ, length, Ok, Err, None}
use Rattle.table.specs.Table.{Table}
use Rattle.frame.specs.Frame.{frame_count}
use Rattle.progress.specs.Fresh.{fresh_progress, fresh_key}
use Rattle.reader.specs.declared.Tally.{Tally}
use Rattle.reader.specs.declared.Reader.{Reader}
use Rattle.reader.specs.declared.Refusal.{Refusal}
use Rattle.reader.specs.Answer.{Answer}
use Rattle.reader.specs.Refusals.{start_gate, through}
use Rattle.reader.specs.Tally.{zero_tally}

-- nothing is read of a record
abbrev pub fresh_reader : ℕ → Bool → Tally → Reader
fresh_reader frames head tally = record { frames = frames; progress = fresh_progress head; root = false; key = fresh_key; tally = tally }

pub record Start : Type 0 where
  pub reader : Reader
  pub answer : Answer

-- a refused start gives a fresh reader with 0 frames
abbrev pub unstarted : Refusal → Start
unstarted n = record { reader = fresh_reader 0 true zero_tally; answer = Err n }

unfoldable pub start_of : Table → List ℕ → Start
start_of t w =
    through (start_gate t (length w)) unstarted
    (record { reader = fresh_reader (frame_count (length w)) true zero_tally; answer = Ok None })
