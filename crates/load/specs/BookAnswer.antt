-- Each answer of load and its number and line: REQUIREMENT.md, section 3, the table of refusals. Stated; `loads-numbered` shows that the two
-- directions agree on the numbers and lines that a book gets. Assumes nothing.
use Rattle.std.specs.Prelude.{cond, Result, Ok, Err, ℕ, eqb}
use Rattle.load.specs.declared.Refusal.{Refusal}
use Rattle.load.specs.declared.Refusal.TheVariants.{Size, Names, Malformed, AboveLimit, TooMany, FormChanged, Repeated, NoRule, NoRoot, NotAscending}

-- what load says of a book: nothing where it is accepted, else its refusal
abbrev pub BookAnswer : Type 0
BookAnswer = Result (Unit {0}) Refusal

-- the number of a refusal, 0 for none, and its line
pub record Numbered : Type 0 where
  pub number : ℕ
  pub line : ℕ

abbrev pub number_line : ℕ → ℕ → Numbered
number_line k n = record { number = k; line = n }

-- the number and the line of each refusal
abbrev pub refused_as : Refusal → Numbered
refused_as Size = number_line 1 0
refused_as Names = number_line 2 1
refused_as (Malformed n) = number_line 3 n
refused_as (AboveLimit n) = number_line 4 n
refused_as (TooMany n) = number_line 5 n
refused_as (FormChanged n) = number_line 6 n
refused_as (Repeated n) = number_line 7 n
refused_as (NoRule n) = number_line 8 n
refused_as NoRoot = number_line 8 0
refused_as (NotAscending n) = number_line 9 n

-- the number and the line of each answer
abbrev pub numbered : BookAnswer → Numbered
numbered (Ok u) = number_line 0 0
numbered (Err r) = refused_as r

-- the answer with a number and a line. Number 8 has two: with line 0 it is rule 0 that has no lines, with any other line a rule that this line
-- refers to. No refusal has a number above 9
unfoldable pub answer_for : ℕ → ℕ → BookAnswer
answer_for k n =
    cond (eqb k 1) (Err Size)
    (cond (eqb k 2) (Err Names)
    (cond (eqb k 3) (Err (Malformed n))
    (cond (eqb k 4) (Err (AboveLimit n))
    (cond (eqb k 5) (Err (TooMany n))
    (cond (eqb k 6) (Err (FormChanged n))
    (cond (eqb k 7) (Err (Repeated n))
    (cond (eqb k 8) (Err (cond (eqb n 0) NoRoot (NoRule n)))
    (cond (eqb k 9) (Err (NotAscending n)) (Ok tt)))))))))
