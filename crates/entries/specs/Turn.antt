-- One feed of a stream, with its entry in the output. Derived: `going-refused` and `going_more` of the proofs join it to `feeds`. Assumes nothing.
use Rattle.std.specs.Prelude.{Bool, cond, List, [], ℕ, ◌+◌, length, drop}
use Rattle.table.specs.Table.{Table}
use Rattle.reader.specs.declared.Reader.{Reader}
use Rattle.reader.specs.Answer.{Answer}
use Rattle.reader.specs.Machine.{Outcome, feed_of}
use Rattle.entries.specs.declared.entry.Entry.{Entry}
use Rattle.entries.specs.Entries.{with_entries}
use Rattle.entries.specs.Feeds.{answer_entries, is_refused, piece_of}

-- the reader and the work buffer after the feed, the bytes of the stream read by then, the output, its entries, and whether the feed was refused
pub record Turn : Type 0 where
  pub reader : Reader
  pub work : List ℕ
  pub read : ℕ
  pub out : List ℕ
  pub made : ℕ
  pub refused : Bool

-- a refused feed has no entry
abbrev pub entries_of : Answer → ℕ → List Entry
entries_of a read = cond (is_refused a) [] (answer_entries a read)

-- a feed after which n bytes are read, with the output o and its entries before it
abbrev pub turned : Outcome → ℕ → List ℕ → ℕ → Turn
turned x n o made =
    record {
      reader = x.reader;
      work = x.work;
      read = n;
      out = with_entries o made (entries_of x.answer n);
      made = made + length (entries_of x.answer n);
      refused = is_refused x.answer;
    }

-- what is fed of the stream s, of which some bytes are read
abbrev pub feed_next : Table → ℕ → List ℕ → Reader → List ℕ → ℕ → Outcome
feed_next t size s r w read = feed_of r t w (piece_of size read (drop read s))

unfoldable pub turn_of : Table → ℕ → List ℕ → Reader → List ℕ → ℕ → List ℕ → ℕ → Turn
turn_of t size s r w read o made = turned (feed_next t size s r w read) (read + (feed_next t size s r w read).count) o made
