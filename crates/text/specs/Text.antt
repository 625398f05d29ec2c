-- The text of the judging program: REQUIREMENT.md, section 8. Its numbers are in decimal digits without a leading zero, the library's `decimal`.
-- Stated. Assumes nothing.
use Rattle.std.specs.Prelude.{List, [], ◌∷◌, ◌++◌, ℕ, decimal}
use Rattle.laws.specs.Ascii.{ascii}
use Rattle.verdict.specs.declared.Verdict.{Verdict}
use Rattle.verdict.specs.declared.Word.{Word}
use Rattle.verdict.specs.declared.Word.TheVariants as Says
use Rattle.verdict.specs.Verdict.{shown}

-- ---- lines: fields with one space between, ended by LF

abbrev pub space : List ℕ
space = 0x20 ∷ []

abbrev pub LF : List ℕ
LF = 0x0A ∷ []

abbrev pub word_text : Word → List ℕ
word_text Says.Valid = ascii "valid"
word_text Says.Invalid = ascii "invalid"
word_text Says.Refused = ascii "refused"

-- the number that stands for a word
abbrev pub word_number : Word → ℕ
word_number Says.Valid = 0
word_number Says.Invalid = 1
word_number Says.Refused = 2

-- the line of a verdict: its word, number and place
unfoldable pub line_of : Verdict → List ℕ
line_of v = word_text (shown v).word ++ (space ++ (decimal (shown v).number ++ (space ++ (decimal (shown v).place ++ LF))))

-- the lines of verdicts, in stream order
unfoldable pub lines_of : List Verdict → List ℕ
lines_of [] = []
lines_of (v ∷ vs) = line_of v ++ lines_of vs

-- the first line of what is printed for a stream
abbrev pub stream_names : List ℕ
stream_names = ascii "verdict number place" ++ LF

-- what is printed for a refused book: the line `number line`, then a line with both
unfoldable pub book_lines : ℕ → ℕ → List ℕ
book_lines number line = (ascii "number line" ++ LF) ++ (decimal number ++ (space ++ (decimal line ++ LF)))
