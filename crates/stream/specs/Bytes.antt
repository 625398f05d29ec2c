-- What demand 3 needs to know of single bytes after an RS: the memory follows the track of crate verdict. Derived: crate follows proves it.
-- Assumes nothing.
use Rattle.std.specs.Prelude.{false, List, ◌≡◌, ℕ, ◌*◌, ◌≤◌, eqb, length}
use Rattle.table.specs.Table.{Table}
use Rattle.book.specs.Entry.{Entry}
use Rattle.runs.specs.Sound.{Sound}
use Rattle.verdict.specs.Track.{Track, track_start, track_byte, track_end}
use Rattle.progress.specs.Progress.{judged}
use Rattle.progress.specs.Memory.{Mem, fresh_mem, step_mem}

-- `Book t es`: the table t is that of an accepted book with the entries es. `Tracks es n m s`: with n frames the memory m is that of a record
-- whose track is s
pub record Reading (Book : Table → List Entry → Type 0) (Tracks : (es : List Entry) → ℕ → Mem → Track es → Type 0) : Type 0 where
  -- the entries of an accepted book are sound
  pub sound : {t : Table} {es : List Entry} → Book t es → Sound es
  -- a record that begins, whatever the buffer holds
  pub start : {t : Table} {es : List Entry} → Book t es → (n : ℕ) → 1 ≤ n → n ≤ 64 → (w : List ℕ) → 96 * n ≤ length w
      → Tracks es n (fresh_mem false w) (track_start es)
  -- a byte other than RS
  pub byte : {t : Table} {es : List Entry} → Book t es → {n : ℕ} → 1 ≤ n → n ≤ 64 → {m : Mem} {s : Track es} → Tracks es n m s
      → (b : ℕ) → eqb b 0x1E ≡ false → Tracks es n (step_mem t n m b) (track_byte es n s b)
  -- the verdict of a record that ends here
  pub verdict : {t : Table} {es : List Entry} → Book t es → {n : ℕ} {m : Mem} {s : Track es} → Tracks es n m s
      → judged m.progress m.root ≡ track_end es s
  -- no byte changes the length of the buffer, whatever table and memory
  pub length_kept : (t : Table) (n : ℕ) (m : Mem) (b : ℕ) → length (step_mem t n m b).work ≡ length m.work
