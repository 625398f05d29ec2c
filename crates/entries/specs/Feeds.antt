-- A stream that the library starts, feeds in pieces and closes, and the entries of the answers: docs/LIBRARY.md. Stated. Assumes nothing.
use Rattle.std.specs.Prelude.{Bool, true, false, cond, List, [], ◌∷◌, ◌++◌, ◌≡◌, ℕ, zero, suc, ◌+◌, ◌-◌, ◌%◌, eqb, ltb, length, take, drop, Ok, Err, Some, None}
use Rattle.table.specs.Table.{Table}
use Rattle.reader.specs.declared.Reader.{Reader}
use Rattle.reader.specs.Answer.{Answer}
use Rattle.reader.specs.Refusals.{refusal_number}
use Rattle.reader.specs.Start.{start_of}
use Rattle.reader.specs.Machine.{Outcome, feed_of, close_of}
use Rattle.entries.specs.declared.entry.Entry.{Entry}
use Rattle.entries.specs.Entries.{verdict_entry, refusal_entry, with_entries}

-- ---- answers

-- the entry of an answer, if it says anything
abbrev pub answer_entries : Answer → ℕ → List Entry
answer_entries (Ok None) read = []
answer_entries (Ok (Some v)) read = verdict_entry v read ∷ []
answer_entries (Err n) read = refusal_entry (refusal_number n) 0 read ∷ []

abbrev pub is_quiet : Answer → Bool
is_quiet (Ok None) = true
is_quiet (Ok (Some v)) = false
is_quiet (Err n) = false

abbrev pub is_refused : Answer → Bool
is_refused (Ok None) = false
is_refused (Ok (Some v)) = false
is_refused (Err n) = true

-- ---- feeds

-- the reader and the work buffer after some feeds, the bytes of the stream read by then, and the entries
pub record Fed : Type 0 where
  pub reader : Reader
  pub work : List ℕ
  pub read : ℕ
  pub entries : List Entry

-- the stream is cut at the multiples of a size, or nowhere where the size is 0: the unread bytes s up to the next cut
unfoldable pub piece_of : ℕ → ℕ → List ℕ → List ℕ
piece_of size read s = cond (eqb size 0) s (take (size - read % size) s)

-- where the unread bytes up to the next cut end, in a stream of n bytes
unfoldable pub piece_end : ℕ → ℕ → ℕ → ℕ
piece_end size read n = cond (eqb size 0) n (cond (ltb (n - read) (size - read % size)) n (read + (size - read % size)))

-- the feeds are over, with no entry more: all is read, or a feed is refused, which changes nothing
abbrev pub stopped : Reader → List ℕ → ℕ → Fed
stopped r w read = record { reader = r; work = w; read = read; entries = [] }

-- the entry of a feed, then those of the feeds after it
abbrev pub entries_then : List Entry → Fed → Fed
entries_then es x = record { reader = x.reader; work = x.work; read = x.read; entries = es ++ x.entries }

abbrev pub fed_then : ℕ → Outcome → (Outcome → Fed) → Fed
fed_then read o go =
    cond (is_refused o.answer) (stopped o.reader o.work (read + o.count))
    (entries_then (answer_entries o.answer (read + o.count)) (go o))

-- at most k feeds, each of the unread bytes s up to the next cut, until all is read or a feed is refused
unfoldable pub feeds : ℕ → Table → ℕ → Reader → List ℕ → ℕ → List ℕ → Fed
feeds zero t size r w read s = stopped r w read
feeds (suc k) t size r w read s =
    cond (eqb (length s) 0) (stopped r w read)
    (fed_then read (feed_of r t w (piece_of size read s)) (λ o. feeds k t size o.reader o.work (read + o.count) (drop o.count s)))

-- feeds whose entries stand in the output o
pub record Feeds (f : Fed) (o : List ℕ) (reader : Reader) (work : List ℕ) (read : ℕ) (out : List ℕ) (made : ℕ) : Type 0 where
  pub reader_is : reader ≡ f.reader
  pub work_is : work ≡ f.work
  pub read_is : read ≡ f.read
  pub out_is : out ≡ with_entries o 0 f.entries
  pub made_is : made ≡ length f.entries

-- ---- a stream

-- the work buffer and the entries after the close
pub record StreamEntries : Type 0 where
  pub work : List ℕ
  pub entries : List Entry

-- a close, which says why where a feed was refused
abbrev pub closes : Table → Fed → StreamEntries
closes t f = record { work = f.work; entries = f.entries ++ answer_entries (close_of f.reader t f.work).answer f.read }

-- every byte of the stream takes at most one feed
unfoldable pub streamed : Table → ℕ → Reader → List ℕ → List ℕ → StreamEntries
streamed t size r w s = closes t (feeds (length s) t size r w 0 s)

-- a start; where it is refused, only its entry
abbrev pub started : Table → ℕ → List ℕ → List ℕ → StreamEntries
started t size w s =
    cond (is_quiet (start_of t w).answer) (streamed t size (start_of t w).reader w s)
    (record { work = w; entries = answer_entries (start_of t w).answer 0 })

-- ---- what a call gives and leaves

pub record Called : Type 0 where
  pub work : List ℕ
  pub out : List ℕ
  pub made : ℕ

-- entries from the first place of the output on
abbrev pub in_out : List ℕ → StreamEntries → Called
in_out o x = record { work = x.work; out = with_entries o 0 x.entries; made = length x.entries }

-- a call with a table that is lent
unfoldable pub judge_table_of : Table → List ℕ → ℕ → List ℕ → List ℕ → Called
judge_table_of t s size w o = in_out o (started t size w s)
