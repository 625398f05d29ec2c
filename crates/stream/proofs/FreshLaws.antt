-- An RS sets the level to 0 and gives a fresh reader, whatever the reader was before: REQUIREMENT.md, section 5. `feed-of-RS` says the whole
-- outcome of a piece that is one RS, `fresh-after-RS` what reader any piece gives whose last byte read is an RS. Assumes nothing.
use Rattle.std.specs.Prelude.{Ok, None}
use mathlib.Core.Bool.{Bool, true, false, cond}
use mathlib.Core.List.{List, [], ◌∷◌}
use mathlib.Core.Path.{◌≡◌, refl, ap}
use Prim.Native.Nat.{ℕ, zero, suc, ◌+◌, ◌≤◌}
use native.Mathlib.Omega.{arith}
use lib.Dec.{eqb, ltb}
use lib.ListN.{length, get_or}
use borrow.Author.Tests.{eq-eqb}
use Rattle.table.specs.Table.{Table}
use Rattle.laws.proofs.TestLaws.{cond-elim, true-neq-false}
use Rattle.progress.specs.Memory.{Mem, fresh_mem, step_mem, ends_record, Ran, run_mem}
use Rattle.progress.proofs.MemoryLaws.{fresh-of-RS}
use Rattle.reader.specs.declared.Reader.{Reader}
use Rattle.reader.specs.Refusals.{let_in, within_reader, call_gate}
use Rattle.reader.specs.Start.{fresh_reader}
use Rattle.reader.specs.Machine.{Outcome, memory_of, ending, going, outcome, feeding, feed_of}
use Rattle.stream.proofs.ByteLaws.{ends_record-of-RS}

-- ---- how far a run reads

module _ (t : Table) (n : ℕ) where
  -- a run reads on from where it begins
  pub le-count-of-run : (m : Mem) (j : ℕ) (s : List ℕ) → j ≤ (run_mem t n m j s).count
  unfolding run_mem
  le-count-of-run m j [] = omega arith
  le-count-of-run m j (b ∷ s) =
      cond-elim (λ (e : Ran). j ≤ e.count) (ends_record m.progress b) (λ _. omega arith) (λ _. omega (arith, le-count-of-run (step_mem t n m b) (j + 1) s))

  -- a run reads one byte at least where there is one
  lt-count-of-byte : (m : Mem) (j b : ℕ) (s : List ℕ) → j + 1 ≤ (run_mem t n m j (b ∷ s)).count
  unfolding run_mem
  lt-count-of-byte m j b s = cond-elim (λ (e : Ran). j + 1 ≤ e.count) (ends_record m.progress b) (λ _. omega arith) (λ _. le-count-of-run (step_mem t n m b) (j + 1) s)

  -- ---- a run whose last byte is an RS

  -- a run ended a record, or its memory is fresh
  abbrev FreshRun : Ran → Type 0
  FreshRun e = e.ended ≡ false → e.memory ≡ fresh_mem false e.memory.work

  -- the RS is the only byte that is read
  fresh-of-one : (m : Mem) (j b : ℕ) (s : List ℕ) → eqb b 0x1E ≡ true → (run_mem t n (step_mem t n m b) (j + 1) s).count ≡ j + 1
      → FreshRun (run_mem t n (step_mem t n m b) (j + 1) s)
  unfolding run_mem
  fresh-of-one m j b [] e h = λ _. rw (fresh-of-RS t n m b e)
  fresh-of-one m j b (c ∷ s) e h = absurd (omega (arith, lt-count-of-byte (step_mem t n m b) (j + 1) c s))

  -- the RS is read after i bytes; the run counts from j
  fresh-of-run : (m : Mem) (j i : ℕ) (s : List ℕ) → get_or s i 0 ≡ 0x1E → (run_mem t n m j s).count ≡ j + (i + 1) → FreshRun (run_mem t n m j s)
  unfolding run_mem
  fresh-of-run m j i [] e = λ h. absurd (omega arith)
  fresh-of-run m j zero (b ∷ s) e =
      cond-elim (λ (x : Ran). x.count ≡ j + 1 → FreshRun x) (ends_record m.progress b) (λ _ _ q. true-neq-false q)
      (λ _. fresh-of-one m j b s (eq-eqb b 0x1E e))
  fresh-of-run m j (suc i) (b ∷ s) e =
      cond-elim (λ (x : Ran). x.count ≡ j + (suc i + 1) → FreshRun x) (ends_record m.progress b) (λ _ _ q. true-neq-false q)
      (λ _ h. fresh-of-run (step_mem t n m b) (j + 1) i s e (omega arith))

-- ---- the reader

module _ (r : Reader) (t : Table) (w : List ℕ) (admitted : call_gate (within_reader r) r.frames t (length w) ≡ let_in) where
  -- an RS alone: where nothing is read of a record it gives no verdict and the fresh reader, whatever level, fault, root or key r had; else it ends
  -- the record. The buffer stays as it was
  pub feed-of-RS : feed_of r t w (0x1E ∷ [])
      ≡ cond (ltb 0 r.progress.pos) (ending r (memory_of r w) 1 false)
      (record { reader = fresh_reader r.frames false r.tally; count = 1; answer = Ok None; work = w })
  unfolding feed_of feeding run_mem
  feed-of-RS = rw (admitted, ends_record-of-RS r.progress 0x1E refl) (go (ltb 0 r.progress.pos))
    where
      go : (v : Bool) → outcome r (cond v (record { memory = memory_of r w; count = 1; ended = true })
          (record { memory = step_mem t r.frames (memory_of r w) 0x1E; count = 1; ended = false }))
          ≡ cond v (ending r (memory_of r w) 1 false) (record { reader = fresh_reader r.frames false r.tally; count = 1; answer = Ok None; work = w })
      go true = refl
      go false = rw (fresh-of-RS t r.frames (memory_of r w) 0x1E refl)

  -- a piece of which the last byte that is read is an RS, the byte at place i, gives a fresh reader that is not in the head and has the same frames
  pub fresh-after-RS : (s : List ℕ) (i : ℕ) → (feed_of r t w s).count ≡ i + 1 → get_or s i 0 ≡ 0x1E
      → (feed_of r t w s).reader ≡ fresh_reader r.frames false (feed_of r t w s).reader.tally
  unfolding feed_of feeding
  fresh-after-RS s i =
      rw admitted (λ h e. by_end ran.ended refl (λ c. fresh-of-run t r.frames (memory_of r w) 0 i s e (omega arith)) h)
    where
      ran : Ran
      ran = run_mem t r.frames (memory_of r w) 0 s

      ways : Bool → Outcome
      ways v = cond v (ending r ran.memory ran.count false) (going r ran.memory ran.count)

      by_end : (v : Bool) → ran.ended ≡ v → (ran.count ≡ i + 1 → FreshRun t r.frames ran) → (ways v).count ≡ i + 1
          → (ways v).reader ≡ fresh_reader r.frames false (ways v).reader.tally
      by_end true q f h = refl
      by_end false q f h = ap (λ (m : Mem). (going r m 0).reader) (f h q)
