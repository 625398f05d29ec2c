-- The entries of the library, as bytes in a lent output: docs/LIBRARY.md. Stated. Assumes nothing.
use Rattle.std.specs.Prelude.{cond, List, [], ◌∷◌, ◌++◌, ℕ, zero, suc, ◌*◌, ◌/◌, ◌%◌, ltb, length}
use Rattle.std.proofs.lemmas.List.Edits.{sets}
use Rattle.verdict.specs.declared.Verdict.{Verdict}
use Rattle.verdict.specs.declared.Word.TheVariants as Says
use Rattle.verdict.specs.Verdict.{shown}
use Rattle.text.specs.Text.{word_number}
use Rattle.entries.specs.declared.entry.Entry.{Entry}

-- a verdict's fields, or a refusal's, and the bytes of the stream read by then
abbrev pub verdict_entry : Verdict → ℕ → Entry
verdict_entry v read = record { word = (shown v).word; number = (shown v).number; place = (shown v).place; read = read }

-- a refused book with its line, or a refused call with place 0
abbrev pub refusal_entry : ℕ → ℕ → ℕ → Entry
refusal_entry number place read = record { word = Says.Refused; number = number; place = place; read = read }

-- a number in k bytes, the lowest first
unfoldable pub little : ℕ → ℕ → List ℕ
little zero n = []
little (suc k) n = n % 256 ∷ little k (n / 256)

-- the bytes of an entry whose word is told by a number
unfoldable pub numbered_bytes : ℕ → ℕ → ℕ → ℕ → List ℕ
numbered_bytes word number place read = word ∷ number ∷ 0 ∷ 0 ∷ (little 4 place ++ little 8 read)

-- the bytes of an entry
unfoldable pub bytes_of : Entry → List ℕ
bytes_of e = numbered_bytes (word_number e.word) e.number e.place e.read

-- the output with bytes in the place of entry i, which is the 16 bytes from 16 i on, where the output has these
unfoldable pub with_bytes : List ℕ → ℕ → List ℕ → List ℕ
with_bytes o i bs = cond (ltb i (length o / 16)) (sets o (16 * i) bs) o

-- the output with entry i
unfoldable pub with_entry : List ℕ → ℕ → Entry → List ℕ
with_entry o i e = with_bytes o i (bytes_of e)

-- the output with entries, the first of them entry i
unfoldable pub with_entries : List ℕ → ℕ → List Entry → List ℕ
with_entries o i [] = o
with_entries o i (e ∷ es) = with_entries (with_entry o i e) (suc i) es
