-- What a feed and a start give, as the definitions of a call say it: a feed its answer and its count, a start its reader and its answer. Stated.
-- Assumes nothing.
use Rattle.std.specs.Prelude.{ℕ, Result, Ok, Err, None}
use Rattle.reader.specs.declared.Reader.{Reader}
use Rattle.reader.specs.declared.Fed.{Fed}
use Rattle.reader.specs.declared.Refusal.{Refusal}
use Rattle.reader.specs.Answer.{Answer}
use Rattle.reader.specs.Start.{Start, unstarted}

-- what a feed says: nothing, the verdict of a record, or why it is refused
abbrev pub said : Result Fed Refusal → Answer
said (Ok f) = Ok f.verdict
said (Err n) = Err n

-- the bytes that a feed read; a refused one reads none
abbrev pub count_of : Result Fed Refusal → ℕ
count_of (Ok f) = f.count
count_of (Err n) = 0

-- what a start gives; a refused one gives a reader that no start has let in
abbrev pub started : Result Reader Refusal → Start
started (Ok r) = record { reader = r; answer = Ok None }
started (Err n) = unstarted n
