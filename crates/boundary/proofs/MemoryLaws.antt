-- A feed of bytes without RS, from a reader within its bounds with three frames: it reads them all, and the record goes on. Assumes nothing.
use mathlib.Core.Bool.{true, false}
use mathlib.Core.List.{List, [], append-nil}
use mathlib.Core.Path.{◌≡◌, refl, sym, ap, subst, ◌∙◌}
use Prim.Native.Nat.{ℕ, ◌+◌, ◌≤◌}
use native.Mathlib.Omega.{arith}
use lib.ListN.{length}
use borrow.Author.Tests.{le-leb}
use Rattle.table.specs.Table.{Table}
use Rattle.table.specs.Limits.{within_limits}
use Rattle.progress.specs.Memory.{Ran, run_mem}
use Rattle.reader.specs.declared.Reader.{Reader}
use Rattle.reader.specs.Refusals.{let_in, fit_reader, within_reader, call_gate}
use Rattle.reader.specs.Machine.{memory_of, going, feeding, feed_of}
use Rattle.reader.proofs.RefusalLaws.{call-open-of-room}
use Rattle.follows.specs.Follows.{NoRS, read_part}
use Rattle.follows.proofs.PartLaws.{run_mem-part}
use Rattle.stream.proofs.ByteLaws.{Within, within-of-piece}

pub within-true : (r : Reader) → r.frames ≡ 3 → r.progress.level ≤ 3 → r.progress.len ≤ 33 → within_reader r ≡ true
unfolding fit_reader
within-true r f l k = rw (f, le-leb r.progress.level 3 l, le-leb r.progress.len 33 k) refl

module _ (t : Table) (limits : within_limits t ≡ true) (r : Reader) (w : List ℕ) (frames : r.frames ≡ 3) (level : r.progress.level ≤ 3) (len : r.progress.len ≤ 33)
    (room : length w ≡ 288) (p : List ℕ) (plain : NoRS p) where
  open-gate : call_gate (within_reader r) r.frames t (length w) ≡ let_in
  open-gate = rw (within-true r frames level len) (call-open-of-room r.frames t (length w) limits (omega arith))

  run-all : run_mem t r.frames (memory_of r w) 0 p ≡ record { memory = read_part t r.frames (memory_of r w) p; count = 0 + length p; ended = false }
  unfolding run_mem
  run-all = subst (λ (s : List ℕ). run_mem t r.frames (memory_of r w) 0 s ≡ record { memory = read_part t r.frames (memory_of r w) p; count = 0 + length p; ended = false })
      (append-nil p) (run_mem-part t r.frames (memory_of r w) 0 p [] plain)

  run-at-3 : run_mem t r.frames (memory_of r w) 0 p ≡ record { memory = read_part t 3 (memory_of r w) p; count = 0 + length p; ended = false }
  run-at-3 = run-all ∙ ap (λ (n : ℕ). record { memory = read_part t n (memory_of r w) p; count = 0 + length p; ended = false }) frames

  pub feed-all : feed_of r t w p ≡ going r (read_part t 3 (memory_of r w) p) (0 + length p)
  unfolding feed_of feeding
  feed-all = rw (open-gate, run-at-3) refl

  pub within-after : Within 3 (read_part t 3 (memory_of r w) p).progress
  within-after =
      subst (λ (e : Ran). Within 3 e.memory.progress) (ap (λ (n : ℕ). run_mem t n (memory_of r w) 0 p) (sym frames) ∙ run-at-3)
      (within-of-piece t 3 p (memory_of r w) 0 (record { level = level; len = len }))
