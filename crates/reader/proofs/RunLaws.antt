-- The loop over a piece: its invariant, and the run where no byte is left. Assumes nothing.
use mathlib.Core.Bool.{false}
use mathlib.Core.List.{List}
use mathlib.Core.Path.{◌≡◌}
use Prim.Native.Nat.{ℕ, ◌≤◌}
use lib.ListN.{length, drop, drop_of_length-le}
use Rattle.table.specs.Table.{Table}
use Rattle.progress.specs.Memory.{Mem, run_mem}

-- where no byte is left, the run is done
pub run_done : (t : Table) (n : ℕ) (m : Mem) (s : List ℕ) (i : ℕ) → length s ≤ i → run_mem t n m i (drop i s) ≡ record { memory = m; count = i; ended = false }
unfolding run_mem
run_done t n m s i h = rw (drop_of_length-le s h)

-- after i bytes of the piece s, with the memory m, the run over the rest gives what the run over the whole gives with the memory o. The buffer
-- keeps its length
pub record Left (t : Table) (n : ℕ) (s : List ℕ) (o m : Mem) (i : ℕ) : Type 0 where
  pub inside : i ≤ length s
  pub room : length m.work ≡ length o.work
  pub run : run_mem t n m i (drop i s) ≡ run_mem t n o 0 s
