-- What a byte does to the open record, over the reader's own types. Derived: `tracks-step` of crate follows joins it to the track of crate verdict.
-- Assumes nothing.
use Rattle.std.specs.Prelude.{Bool, false, cond, ℕ, eqb, ltb, Option, Some, None}
use Rattle.json_text.specs.Lexer.{bits_after, high_after, char_of, may_end}
use Rattle.json_text.specs.declared.number.NumberMode.{NumberMode}
use Rattle.json_text.specs.declared.lexer.Awaited.{Awaited}
use Rattle.json_text.specs.declared.lexer.Awaited.TheVariants as P
use Rattle.json_text.specs.declared.lexer.Mode.{Mode}
use Rattle.json_text.specs.declared.lexer.Mode.TheVariants as M
use Rattle.json_text.specs.declared.lexer.Act.{Act}
use Rattle.json_text.specs.declared.lexer.Step.{Step}
use Rattle.verdict.specs.Verdict.{longest}
use Rattle.verdict.specs.declared.Verdict.{Verdict}
use Rattle.verdict.specs.declared.Verdict.TheVariants as Is
use Rattle.progress.specs.declared.Fault.{Fault}
use Rattle.progress.specs.declared.Fault.TheVariants as F
use Rattle.progress.specs.declared.Progress.{Progress}
use Rattle.progress.specs.declared.Task.{Task}
use Rattle.progress.specs.declared.Task.TheVariants as To
use Rattle.progress.specs.declared.Advanced.{Advanced}
use Rattle.progress.specs.Act.{first_fault, level_after, len_after, number_before, number_to, task_of}
use Rattle.laws.specs.Count.{bump}
use Rattle.progress.specs.Fresh.{fresh_progress}

abbrev pub advance : Progress → Task → Advanced
advance x t = record { progress = x; task = t }

-- a byte that is counted, and no more
abbrev pub counted : Progress → Advanced
counted x =
    advance (record { mode = x.mode; fault = x.fault; head = x.head; level = x.level; pos = bump x.pos; bits = x.bits; high = x.high; number = x.number; len = x.len }) To.Idle

-- the byte is the record's first fault
abbrev pub faulted : Progress → Fault → Advanced
faulted x f =
    advance (record { mode = x.mode; fault = Some f; head = x.head; level = x.level; pos = bump x.pos; bits = x.bits; high = x.high; number = x.number; len = x.len }) To.Idle

-- the registers of the open character after byte b
abbrev pub bits_in : Mode → ℕ → ℕ → ℕ
bits_in (M.Key s) bits b = bits_after s bits b
bits_in (M.Text s) bits b = bits_after s bits b
bits_in _ bits b = bits

abbrev pub high_in : Mode → ℕ → ℕ → ℕ → ℕ
high_in (M.Key s) bits high b = high_after s bits high b
high_in (M.Text s) bits high b = high_after s bits high b
high_in _ bits high b = high

-- the character of a key that byte b finishes
abbrev pub char_in : Mode → ℕ → ℕ → ℕ → ℕ
char_in (M.Key s) bits high b = char_of s bits high b
char_in _ bits high b = 0

-- the record after byte b, at mode m
abbrev pub moved : Progress → ℕ → Mode → ℕ → ℕ → Progress
moved x b m level len =
    record { mode = m; fault = x.fault; head = x.head; level = level; pos = bump x.pos; bits = bits_in x.mode x.bits b; high = high_in x.mode x.bits x.high b; number = number_to m (number_before x.mode m x.number) b; len = len }

-- a step of the lexer, by the fault of its act: e tells whether it ends a number, m is the mode after it
abbrev pub acted_by : Option Fault → Act → Bool → Progress → ℕ → ℕ → Mode → Advanced
acted_by None a e x n b m =
    advance (moved x b m (level_after a x.level n) (len_after a x.len (char_in x.mode x.bits x.high b)))
    (task_of a e x.number x.len (char_in x.mode x.bits x.high b))
acted_by (Some f) a e x n b m = faulted x f

abbrev pub acted : Act → Bool → Progress → ℕ → ℕ → Mode → Advanced
acted a e x n b m = acted_by (first_fault a x.level n x.pos) a e x n b m

-- a byte of a record without a fault so far: 13 comes before 11, and 11 before 12
unfoldable pub sound : Progress → ℕ → ℕ → Step → Advanced
sound x n b st = cond (ltb x.pos longest) (acted st.act st.ends x n b st.mode) (faulted x F.TooLong)

abbrev pub advanced_by_fault : Option Fault → Progress → ℕ → ℕ → Step → Advanced
advanced_by_fault None x n b st = sound x n b st
advanced_by_fault (Some f) x n b st = counted x

-- byte b with n frames, of which the lexer makes the step st. An RS (0x1E) here ends no record: a fresh one begins, whatever was known of the old one
unfoldable pub advanced : Progress → ℕ → ℕ → Step → Advanced
advanced x n b st = cond (eqb b 0x1E) (advance (fresh_progress false) To.Begin) (cond x.head (counted x) (advanced_by_fault x.fault x n b st))

-- ---- the verdict of a record that ends here

-- the verdict with nothing open, after pos bytes: after a value the record is valid where the root fits rule 0
abbrev pub whole_at : Awaited → ℕ → Bool → Verdict
whole_at P.After pos root = cond root Is.Valid Is.Invalid
whole_at _ pos root = Is.Unfinished pos

-- a number that may end is a whole text, and invalid as a scalar root
unfoldable pub whole_number : NumberMode → ℕ → Verdict
whole_number n pos = cond (may_end n) Is.Invalid (Is.Unfinished pos)

abbrev pub whole_in : Mode → ℕ → Bool → Verdict
whole_in (M.At p) pos root = whole_at p pos root
whole_in (M.Number n) pos root = whole_number n pos
whole_in _ pos root = Is.Unfinished pos

-- a record with an open value is not finished
unfoldable pub whole : Progress → Bool → Verdict
whole x root = cond (eqb x.level 0) (whole_in x.mode x.pos root) (Is.Unfinished x.pos)

-- the verdict of a record with a fault
abbrev pub fault_verdict : Fault → Verdict
fault_verdict (F.Malformed place) = Is.Malformed place
fault_verdict (F.TooDeep place) = Is.TooDeep place
fault_verdict F.TooLong = Is.TooLong

abbrev pub verdict_by : Option Fault → Progress → Bool → Verdict
verdict_by None x root = whole x root
verdict_by (Some f) x root = fault_verdict f

unfoldable pub judged : Progress → Bool → Verdict
judged x root = cond x.head Is.Head (verdict_by x.fault x root)
