-- What the judging program does with the bytes that arrive, on slices: REQUIREMENT.md, section 8. Derived: `text-of-stream` of the proofs joins it to
-- the stream on paper. Assumes nothing.
use Rattle.std.specs.Prelude.{Bool, true, false, cond, List, [], ◌++◌, ◌≡◌, ℕ, zero, suc, ◌+◌, ◌/◌, eqb, length, drop, Ok, Err, Some, None}
use Rattle.std.proofs.lemmas.List.Edits.{sets}
use Rattle.table.specs.Table.{Table}
use Rattle.book.specs.Load.{loads}
use Rattle.load.specs.Loads.{book_table}
use Rattle.verdict.specs.declared.Verdict.{Verdict}
use Rattle.text.specs.Text.{line_of, stream_names, book_lines}
use Rattle.text.specs.Put.{room, has_room, Written, write}
use Rattle.reader.specs.declared.Reader.{Reader}
use Rattle.reader.specs.Answer.{Answer}
use Rattle.reader.specs.Machine.{Outcome, feed_of, close_of}

-- the reader and the work buffer after some feeds, the bytes that they read, the lines of their verdicts, and what the last one answered
pub record Reported : Type 0 where
  pub reader : Reader
  pub work : List ℕ
  pub read : ℕ
  pub text : List ℕ
  pub answer : Answer

-- a feed without a verdict is the last
abbrev pub stops : Outcome → Reported
stops o = record { reader = o.reader; work = o.work; read = o.count; text = []; answer = o.answer }

-- the line of a verdict, then those of the feeds after it; its feed read i bytes
abbrev pub line_then : ℕ → Verdict → Reported → Reported
line_then i v x = record { reader = x.reader; work = x.work; read = i + x.read; text = line_of v ++ x.text; answer = x.answer }

abbrev pub by_answer : Answer → Reported → (Verdict → Reported) → Reported
by_answer (Ok None) stop go = stop
by_answer (Err n) stop go = stop
by_answer (Ok (Some v)) stop go = go v

-- at most k feeds, each of what is unread of a piece, until one gives no verdict
unfoldable pub reports : ℕ → Table → Reader → List ℕ → List ℕ → Reported
reports zero t r w s = record { reader = r; work = w; read = 0; text = []; answer = Ok None }
reports (suc k) t r w s =
    by_answer (feed_of r t w s).answer (stops (feed_of r t w s))
    (λ v. line_then (feed_of r t w s).count v (reports k t (feed_of r t w s).reader (feed_of r t w s).work (drop (feed_of r t w s).count s)))

-- what a report gives and leaves: as many feeds as the output has room for lines, and the lines from its first byte on
pub record Report : Type 0 where
  pub reader : Reader
  pub work : List ℕ
  pub read : ℕ
  pub out : List ℕ
  pub used : ℕ
  pub answer : Answer

abbrev pub in_out : List ℕ → Reported → Report
in_out o x = record { reader = x.reader; work = x.work; read = x.read; out = sets o 0 x.text; used = length x.text; answer = x.answer }

unfoldable pub report_of : Reader → Table → List ℕ → List ℕ → List ℕ → Report
report_of r t w s o = in_out o (reports (length o / room) t r w s)

-- ---- one feed of a report

abbrev pub is_last : Answer → Bool
is_last (Ok None) = true
is_last (Err n) = true
is_last (Ok (Some v)) = false

-- the output with the line of a verdict from a place on, if the answer is one
abbrev pub written : Answer → List ℕ → ℕ → Written
written (Ok None) o at = record { out = o; at = at }
written (Err n) o at = record { out = o; at = at }
written (Ok (Some v)) o at = write o at (line_of v)

abbrev pub reported : Outcome → ℕ → List ℕ → ℕ → Report
reported f read o used =
    record {
      reader = f.reader;
      work = f.work;
      read = read + f.count;
      out = (written f.answer o used).out;
      used = (written f.answer o used).at;
      answer = f.answer;
    }

-- what is unread of the piece s is fed, and the line of its verdict is written
unfoldable pub report_next : Table → List ℕ → Reader → List ℕ → ℕ → List ℕ → ℕ → Report
report_next t s r w read o used = reported (feed_of r t w (drop read s)) read o used

-- ---- the end of the input

-- a close, and the line of its verdict
abbrev pub closing : Outcome → Reported
closing c =
    by_answer c.answer (stops c)
    (λ v. record { reader = c.reader; work = c.work; read = c.count; text = line_of v; answer = c.answer })

-- a close, and the line of its verdict in the output; without room for the line nothing is done
unfoldable pub finish_of : Reader → Table → List ℕ → List ℕ → Report
finish_of r t w o = in_out o (cond (has_room (length o) 0) (closing (close_of r t w)) (record { reader = r; work = w; read = 0; text = []; answer = Ok None }))

-- ---- the book

-- the text that a book begins with: the names of a stream's fields, or the lines of its refusal
unfoldable pub beginning : List ℕ → List ℕ
beginning b = cond (eqb (loads b).number 0) stream_names (book_lines (loads b).number (loads b).line)

-- whether the book is accepted, its table, and its text in the output where there is room for it
pub record Begins (b o : List ℕ) (accepted : Bool) (table : Table) (out : List ℕ) (used : ℕ) : Type 0 where
  pub answer : accepted ≡ eqb (loads b).number 0
  pub table_is : table ≡ book_table b
  pub text : record { out = out; at = used } ≡ write o 0 (beginning b)
