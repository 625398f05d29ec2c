-- Laws of one turn of the loop over a piece, in the form of the code's needs: one byte, and the bytes passed over. Assumes nothing.
use mathlib.Core.Bool.{Bool, true, false, cond}
use mathlib.Core.List.{List}
use mathlib.Core.Path.{◌≡◌, refl, sym, ap, ◌∙◌}
use Prim.Native.Nat.{ℕ, ◌+◌, ◌<◌}
use native.Mathlib.Numerals.{add-one}
use native.Mathlib.Omega.{arith}
use lib.ListN.{length, get_or, drop}
use lib.Seq.{drop-cons}
use lib.Dec.{eqb}
use borrow.Author.Tests.{ne_eqb}
use Rattle.std.specs.Prelude.{Option, Some, None}
use Rattle.laws.proofs.TestLaws.{true-neq-false}
use Rattle.json_text.specs.Lexer.{step_of}
use Rattle.json_text.specs.declared.lexer.Top.{Top}
use Rattle.json_text.specs.declared.lexer.Step.{Step}
use Rattle.table.specs.Table.{Table}
use Rattle.progress.specs.declared.Progress.{Progress}
use Rattle.progress.specs.Progress.{advanced, counted}
use Rattle.progress.specs.Memory.{Mem, mem, top_at, step_mem, run_mem, ends_record}
use Rattle.turn.specs.Turn.{turned}
use Rattle.progress.specs.declared.Fault.{Fault}
use Rattle.pass.specs.Pass.{is_sound, is_reading, KeptTo, PassedTo}
use Rattle.turn.proofs.TurnLaws.{turned-step_mem}
use Rattle.piece.specs.Went.{StepsAs, WentTo}

-- ---- the run

module _ (t : Table) (n : ℕ) (m : Mem) (s : List ℕ) (i : ℕ) where
  -- the byte at place i ends the record
  run_end : i < length s → ends_record m.progress (get_or s i 0) ≡ true → run_mem t n m i (drop i s) ≡ record { memory = m; count = i + 1; ended = true }
  unfolding run_mem
  run_end h e = rw (drop-cons s i 0, e)

  -- the byte at place i has its turn, with a step that is as good as its own
  run-turn : (k : Mem) (st : Step) → i < length s → ends_record m.progress (get_or s i 0) ≡ false
      → advanced m.progress n (get_or s i 0) st ≡ advanced m.progress n (get_or s i 0) (step_of m.progress.mode (top_at m.work m.progress.level) (get_or s i 0))
      → k ≡ turned t n m (get_or s i 0) st → run_mem t n k (i + 1) (drop (i + 1) s) ≡ run_mem t n m i (drop i s)
  unfolding run_mem
  run-turn k st h e g q =
      rw (drop-cons s i 0, e, q ∙ turned-step_mem t n m (get_or s i 0) st g)
      (ap (λ (j : ℕ). run_mem t n (step_mem t n m (get_or s i 0)) (i + 1) (drop j s)) (add-one i))

-- ---- one byte, by the code's tests

module _ (t : Table) (n : ℕ) (x : Progress) (root : Bool) (key w s : List ℕ) (i : ℕ) (h : i < length s) (v : Bool) (e : v ≡ ends_record x (get_or s i 0)) where
  -- the byte ends the record
  pub went_ended : v ≡ true → WentTo t n (mem x root key w) s i (mem x root key w) (i + 1) true
  went_ended f = record { low = omega arith; high = omega arith; run = run_end t n (mem x root key w) s i h (sym e ∙ f) }

  -- the byte has its turn
  pub went_turned : (st : Step) (k : Mem) → v ≡ false → StepsAs x n w (get_or s i 0) st → k ≡ turned t n (mem x root key w) (get_or s i 0) st
      → WentTo t n (mem x root key w) s i k (i + 1) false
  unfolding StepsAs
  went_turned st k f g u =
      record { low = omega arith; high = omega arith; run = sym (run-turn t n (mem x root key w) s i k st h (sym e ∙ f) g u) }

-- ---- a record whose bytes are only counted

counted-by : (x : Progress) (n b : ℕ) (st : Step) (h : Bool) (f : Option Fault) → x.head ≡ h → x.fault ≡ f → cond h false (is_sound f) ≡ false → eqb b 0x1E ≡ false
    → advanced x n b st ≡ counted x
unfolding advanced
counted-by x n b st true f p q r e = rw (e, p)
counted-by x n b st false None p q r e = true-neq-false r
counted-by x n b st false (Some g) p q r e = rw (e, p, q)

-- a byte of it, which is no RS, is counted, and no more
module _ (t : Table) (n : ℕ) (x : Progress) (root : Bool) (key w s : List ℕ) (i : ℕ) (h : i < length s) (r : is_reading x ≡ false) (c : get_or s i 0 ≡ 0x1E → ⊥) where
  as-counted : (st : Step) → advanced x n (get_or s i 0) st ≡ counted x
  unfolding is_reading
  as-counted st = counted-by x n (get_or s i 0) st x.head x.fault refl refl r (ne_eqb (get_or s i 0) 0x1E c)

  no-end : ends_record x (get_or s i 0) ≡ false
  unfolding ends_record
  no-end = rw (ne_eqb (get_or s i 0) 0x1E c)

  pub went_counted : WentTo t n (mem x root key w) s i (mem (counted x).progress root key w) (i + 1) false
  went_counted =
      let m : Mem = mem x root key w in
      let st : Step = step_of x.mode (top_at w x.level) (get_or s i 0) in
      record { low = omega arith; high = omega arith; run = sym (run-turn t n m s i (mem (counted x).progress root key w) st h no-end refl (rw (as-counted st))) }

-- ---- the bytes passed over: x becomes y while the characters of a key are kept, and y becomes z over the bytes that only move it on

module _ (s : List ℕ) (i at end : ℕ) (x y z : Progress) (top : Top) (o : Option Step) (key kept w : List ℕ) (a : KeptTo x s i key y at kept)
    (b : PassedTo y top s at z end o) (e : top ≡ top_at w y.level) where
  -- the next byte is in the piece, and the step st is its own
  pub byte-passed : (st : Step) → o ≡ Some st → end < length s
  byte-passed st q = (rw q at b.step).0

  pub step-passed : (n : ℕ) (st : Step) → o ≡ Some st → StepsAs z n w (get_or s end 0) st
  unfolding StepsAs
  step-passed n st q =
      ap (advanced z n (get_or s end 0)) ((rw q at b.step).1 ∙ ap (λ (k : Top). step_of z.mode k (get_or s end 0)) (e ∙ ap (top_at w) (sym b.runs.level)))
