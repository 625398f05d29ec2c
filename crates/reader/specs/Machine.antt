-- What feed and close give and leave in the buffer, whole: REQUIREMENT.md, section 7. Derived: the contracts of `feed` and `close` say that the code
-- gives exactly this; `demand-3` joins counts and answers to the stream on paper, `lent` the buffer to section 5, `tally-of-calls` the tally to the
-- verdicts, and `unchanged-of-refused` tells of refused calls. Assumes nothing.
use Rattle.std.specs.Prelude.{Bool, true, false, cond, List, ℕ, ltb, length, Ok, Err, Some, None}
use Rattle.table.specs.Table.{Table}
use Rattle.progress.specs.Progress.{judged}
use Rattle.progress.specs.Memory.{Mem, mem, Ran, run_mem}
use Rattle.reader.specs.declared.Reader.{Reader}
use Rattle.reader.specs.declared.Refusal.{Refusal}
use Rattle.reader.specs.Answer.{Answer}
use Rattle.reader.specs.Refusals.{within_reader, call_gate, through}
use Rattle.reader.specs.Tally.{tallied}
use Rattle.reader.specs.Start.{fresh_reader}

-- what a feed or a close gives, and leaves in the buffer; a close reads no bytes
pub record Outcome : Type 0 where
  pub reader : Reader
  pub count : ℕ
  pub answer : Answer
  pub work : List ℕ

-- a refused call reads nothing and changes nothing
abbrev pub refusing : Reader → List ℕ → Refusal → Outcome
refusing r w n = record { reader = r; count = 0; answer = Err n; work = w }

abbrev pub or_refused : Reader → Table → List ℕ → Outcome → Outcome
or_refused r t w o = through (call_gate (within_reader r) r.frames t (length w)) (refusing r w) o

abbrev pub memory_of : Reader → List ℕ → Mem
memory_of r w = mem r.progress r.root r.key w

-- a record ends: its verdict is counted, and the reader is fresh for the next
abbrev pub ending : Reader → Mem → ℕ → Bool → Outcome
ending r m i head =
    record {
      reader = fresh_reader r.frames head (tallied (judged m.progress m.root) r.tally);
      count = i;
      answer = Ok (Some (judged m.progress m.root));
      work = m.work;
    }

-- the piece is read, and the record goes on
abbrev pub going : Reader → Mem → ℕ → Outcome
going r m i =
    record {
      reader = record { frames = r.frames; progress = m.progress; root = m.root; key = m.key; tally = r.tally };
      count = i;
      answer = Ok None;
      work = m.work;
    }

abbrev pub outcome : Reader → Ran → Outcome
outcome r e = cond e.ended (ending r e.memory e.count false) (going r e.memory e.count)

-- a feed that is let in
unfoldable pub feeding : Reader → Table → List ℕ → List ℕ → Outcome
feeding r t w s = outcome r (run_mem t r.frames (memory_of r w) 0 s)

unfoldable pub feed_of : Reader → Table → List ℕ → List ℕ → Outcome
feed_of r t w s = or_refused r t w (feeding r t w s)

-- a close that is let in ends the last record like an RS, and is in the head again
unfoldable pub closing : Reader → List ℕ → Outcome
closing r w =
    cond (ltb 0 r.progress.pos) (ending r (memory_of r w) 0 true)
    (record { reader = fresh_reader r.frames true r.tally; count = 0; answer = Ok None; work = w })

unfoldable pub close_of : Reader → Table → List ℕ → Outcome
close_of r t w = or_refused r t w (closing r w)
