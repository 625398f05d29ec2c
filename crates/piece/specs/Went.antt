-- How far a record was read, as what is left to read. Derived: `read_on` gives it, and `read_piece` uses it. Assumes nothing.
use Rattle.std.specs.Prelude.{Bool, true, false, cond, List, ◌≡◌, ℕ, ◌<◌, ◌≤◌, length, drop}
use Rattle.std.specs.declared.ops.ControlFlow.{ControlFlow}
use Rattle.std.specs.ControlFlow.{MatchControlFlow}
use Rattle.json_text.specs.Lexer.{step_of}
use Rattle.json_text.specs.declared.lexer.Step.{Step}
use Rattle.table.specs.Table.{Table}
use Rattle.progress.specs.declared.Progress.{Progress}
use Rattle.progress.specs.Progress.{advanced}
use Rattle.progress.specs.Memory.{Mem, top_at, run_mem}

-- of byte b the limits make with the step st what they make with its own step, with n frames in the buffer w
unfoldable pub StepsAs : Progress → ℕ → List ℕ → ℕ → Step → Type 0
StepsAs x n w b st = advanced x n b st ≡ advanced x n b (step_of x.mode (top_at w x.level) b)

-- from place i of s with the memory m one comes to place j with the memory k; an RS ended the record, or the rest gives what the whole gives
pub record WentTo (t : Table) (n : ℕ) (m : Mem) (s : List ℕ) (i : ℕ) (k : Mem) (j : ℕ) (ended : Bool) : Type 0 where
  pub low : i < j
  pub high : j ≤ length s
  pub run : run_mem t n m i (drop i s) ≡ cond ended (record { memory = k; count = j; ended = true }) (run_mem t n k j (drop j s))

-- so from place i on, by what was said: to break off at the place behind an RS that ended the record, or to go on at a place
abbrev pub WentBy : Table → ℕ → Mem → List ℕ → ℕ → Mem → ControlFlow ℕ ℕ → Type 0
WentBy t n m s i k said = MatchControlFlow said (λ at. WentTo t n m s i k at false) (λ at. WentTo t n m s i k at true)
