-- The first two bytes of a UTF-8 sequence, fed to a reader: RFC 3629, section 4, and REQUIREMENT.md, section 2. Each sentence is about `feed_of` and
-- `close_of`, for every reader, table and buffer, made-up readers too. Stated; `goes-on-iff-listed` of `PairLaws` proves `Pairs`. Assumes nothing.
use Rattle.std.specs.Prelude.{None, false, List, [], ◌∷◌, ◌↔◌, ◌≡◌, ℕ, ◌+◌, ◌≤◌, Ok}
use Rattle.json_text.specs.Rows.{Listed}
use Rattle.json_text.specs.declared.string.StringMode.TheVariants as S
use Rattle.json_text.specs.declared.lexer.Mode.{Mode}
use Rattle.json_text.specs.declared.lexer.Mode.TheVariants as M
use Rattle.table.specs.Table.{Table}
use Rattle.verdict.specs.Verdict.{longest}
use Rattle.reader.specs.declared.Reader.{Reader}
use Rattle.reader.specs.Machine.{Outcome, feed_of}
use Rattle.stream.specs.Lent.{mode_of, faulty_in}

-- a character is awaited, of a string or of a key
pub data AwaitsChar : Mode → Type 0 where
  of_string : AwaitsChar (M.Text S.Char)
  of_key : AwaitsChar (M.Key S.Char)

-- the call is let in, and the record is not the head, has no fault so far, awaits a character, and may have two bytes more
pub record InString (r : Reader) (t : Table) (w : List ℕ) : Type 0 where
  pub let_in : (feed_of r t w []).answer ≡ Ok None
  pub head : r.progress.head ≡ false
  pub fault : r.progress.fault ≡ None
  pub mode : AwaitsChar (mode_of r)
  pub room : r.progress.pos + 2 ≤ longest

-- after a feed the record goes on: the feed gave no verdict, and a close right after it would tell of no fault
abbrev pub GoesOn : Table → Outcome → Type 0
GoesOn t o = (o.answer ≡ (Ok None)) × (faulty_in o.reader t o.work ≡ false)

-- after a first byte from 80 up and any second byte the record goes on exactly when a row lists the two
abbrev pub Pairs : Type 0
Pairs = (r : Reader) (t : Table) (w : List ℕ) (a b : ℕ) → InString r t w → 0x80 ≤ a → GoesOn t (feed_of r t w (a ∷ b ∷ [])) ↔ Listed a b
