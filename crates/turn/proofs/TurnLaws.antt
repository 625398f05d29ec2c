-- A turn is the step of the memory. Assumes nothing.
use mathlib.Core.Path.{◌≡◌, ap}
use Prim.Native.Nat.{ℕ}
use Rattle.json_text.specs.Lexer.{step_of}
use Rattle.json_text.specs.declared.lexer.Step.{Step}
use Rattle.table.specs.Table.{Table}
use Rattle.progress.specs.declared.Advanced.{Advanced}
use Rattle.progress.specs.Progress.{advanced}
use Rattle.progress.specs.Memory.{Mem, top_at, perform, step_mem}
use Rattle.turn.specs.Turn.{turned}

-- where the limits make of the step st what they make of the byte's own, a turn is the step of the memory
pub turned-step_mem : (t : Table) (n : ℕ) (m : Mem) (b : ℕ) (st : Step)
    → advanced m.progress n b st ≡ advanced m.progress n b (step_of m.progress.mode (top_at m.work m.progress.level) b) → turned t n m b st ≡ step_mem t n m b
unfolding step_mem
turned-step_mem t n m b st h = ap (λ (a : Advanced). perform a.task t m a.progress) h
