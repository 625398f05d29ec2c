-- Reading a book into a table, line by line, as the code does it. Derived: `AgreeLaws.book-agrees` joins it to
-- `read_book` of the book. Assumes nothing.
use Rattle.std.specs.Prelude.{cond, ◌||◌, List, [], ◌∷◌, ℕ, suc, ltb, eqb, length, take, drop, Ok, Err}
use Rattle.laws.specs.Lists.{same}
use Rattle.table.specs.Table.{Table}
use Rattle.table.specs.Flat.{empty_table}
use Rattle.book.specs.Text.{is_empty, split}
use Rattle.book.specs.Line.{Said, bad, good, say_line}
use Rattle.book.specs.Load.{names_line}
use Rattle.store.specs.Store.{Taken, taken, take_entry}
use Rattle.load.specs.BookAnswer.{BookAnswer}
use Rattle.load.specs.declared.Refusal.{Refusal}
use Rattle.load.specs.declared.Refusal.TheVariants.{Size, Names, Malformed, AboveLimit, TooMany, FormChanged, Repeated}

-- ---- one line

-- a line
unfoldable pub take_said : ℕ → Table → Said → Taken
take_said n t (bad k) = taken k t
take_said n t (good e) = take_entry n t e

-- ---- all lines

-- the refusal for a fault of line n
unfoldable pub line_refusal : ℕ → ℕ → Refusal
line_refusal k n =
    cond (eqb k 3) (Malformed n) (cond (eqb k 4) (AboveLimit n) (cond (eqb k 6) (FormChanged n) (cond (eqb k 7) (Repeated n) (TooMany n))))

-- the answer, and the table: that of the book where it is accepted, else an empty one
pub record Loaded : Type 0 where
  pub answer : BookAnswer
  pub table : Table

abbrev pub loaded_as : BookAnswer → Table → Loaded
loaded_as a t = record { answer = a; table = t }

abbrev pub loaded : Table → Loaded
loaded t = loaded_as (Ok tt) t

abbrev pub refusal : Refusal → Loaded
refusal a = loaded_as (Err a) empty_table

-- what an answer comes to with a table: the table counts only where the book is accepted
abbrev pub answered : BookAnswer → Table → Loaded
answered (Ok u) t = loaded_as (Ok u) t
answered (Err a) t = refusal a

-- the rest of the book after line n, where the line is taken
unfoldable pub take_on : ℕ → Taken → (Table → Loaded) → Loaded
take_on n v rest = cond (eqb v.fault 0) (rest v.table) (refusal (line_refusal v.fault n))

-- the lines from line n on, into t
unfoldable pub take_lines : ℕ → Table → List (List ℕ) → Loaded
take_lines n t [] = loaded t
take_lines n t (l ∷ []) = cond (is_empty l) (loaded t) (refusal (Malformed n))
take_lines n t (l ∷ (x ∷ ls)) = take_on n (take_said n t (say_line l)) (λ u. take_lines (suc n) u (x ∷ ls))

-- refusals 1 to 7, or the table of the lines
unfoldable pub take_book : List ℕ → Loaded
take_book b =
    cond (is_empty b || ltb 65536 (length b)) (refusal Size)
    (cond (same (take 31 b) names_line) (take_lines 2 empty_table (split 10 (drop 31 b))) (refusal Names))
