-- What a byte leaves of any memory: whether the record is the head, and the count of bytes. Assumes nothing.
use Rattle.std.specs.Prelude.{Option, Some, None}
use mathlib.Core.Bool.{Bool, false}
use mathlib.Core.Path.{◌≡◌, refl}
use Prim.Native.Nat.{ℕ, suc, ◌≤◌, ◌<◌}
use native.Mathlib.Numerals.{add-one}
use native.Mathlib.Omega.{arith}
use lib.Dec.{eqb, ltb, nltb→le}
use borrow.Author.Tests.{lt-ltb}
use Rattle.laws.proofs.TestLaws.{cond-elim}
use Rattle.json_text.specs.Lexer.{step_of}
use Rattle.json_text.specs.declared.lexer.Mode.{Mode}
use Rattle.json_text.specs.declared.lexer.Act.{Act}
use Rattle.json_text.specs.declared.lexer.Step.{Step}
use Rattle.table.specs.Table.{Table}
use Rattle.verdict.specs.Verdict.{longest}
use Rattle.progress.specs.declared.Fault.{Fault}
use Rattle.progress.specs.declared.Progress.{Progress}
use Rattle.progress.specs.declared.Advanced.{Advanced}
use Rattle.progress.specs.Act.{first_fault}
use Rattle.laws.specs.Count.{bump}
use Rattle.progress.specs.Progress.{acted_by, sound, advanced_by_fault, advanced}
use Rattle.progress.specs.Memory.{Mem, top_at, advanced_at, step_mem}
use Rattle.progress.proofs.MemoryLaws.{progress-perform}

-- ---- the count of bytes

-- a count after one more is at least 1
pub one-le-bump : (p : ℕ) → 1 ≤ bump p
unfolding bump
one-le-bump p = cond-elim (λ (x : ℕ). 1 ≤ x) (ltb p 4294967295) (λ h. omega arith) (λ h. omega (arith, nltb→le p 4294967295 h))

-- a count below the largest number becomes one more
pub bump-below : (i : ℕ) → i < 4294967295 → bump i ≡ suc i
unfolding bump
bump-below i h = rw (lt-ltb i 4294967295 h, add-one i)

-- the byte is counted, and the head stays the head
pub record Counts (x y : Progress) : Type 0 where
  pub pos : y.pos ≡ bump x.pos
  pub head : y.head ≡ x.head

module _ (x : Progress) (n b : ℕ) where
  counts-acted_by : (f : Option Fault) (a : Act) (e : Bool) (m : Mode) → Counts x (acted_by f a e x n b m).progress
  counts-acted_by None a e m = record { pos = refl; head = refl }
  counts-acted_by (Some f) a e m = record { pos = refl; head = refl }

  counts-by_fault : (f : Option Fault) (st : Step) → Counts x (advanced_by_fault f x n b st).progress
  unfolding sound
  counts-by_fault None st =
      cond-elim (λ (a : Advanced). Counts x a.progress) (ltb x.pos longest) (λ _. counts-acted_by (first_fault st.act x.level n x.pos) st.act st.ends st.mode)
      (λ _. record { pos = refl; head = refl })
  counts-by_fault (Some f) st = record { pos = refl; head = refl }

  counts-advanced : (st : Step) → eqb b 0x1E ≡ false → Counts x (advanced x n b st).progress
  unfolding advanced
  counts-advanced st e =
      rw e (cond-elim (λ (a : Advanced). Counts x a.progress) x.head (λ _. record { pos = refl; head = refl }) (λ _. counts-by_fault x.fault st))

-- each byte but RS is counted, with or without a fault and in the head too
pub counts-step_mem : (t : Table) (n : ℕ) (m : Mem) (b : ℕ) → eqb b 0x1E ≡ false → Counts m.progress (step_mem t n m b).progress
unfolding step_mem
counts-step_mem t n m b e =
    rw (progress-perform (advanced_at n m b).task t m (advanced_at n m b).progress)
    (counts-advanced m.progress n b (step_of m.progress.mode (top_at m.work m.progress.level) b) e)
