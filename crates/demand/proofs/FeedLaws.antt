-- What a feed reads of its piece, and what it leaves of the buffer's length. Assumes nothing.
use Rattle.std.specs.Prelude.{Ok, Err, Some, None}
use mathlib.Core.Bool.{Bool, true, false, ◌&&◌}
use mathlib.Core.List.{List, [], ◌∷◌}
use mathlib.Core.Path.{◌≡◌, refl, ◌∙◌}
use Prim.Native.Nat.{ℕ, suc, ◌+◌, ◌≤◌, ◌<◌}
use native.Mathlib.Omega.{arith}
use lib.Dec.{T, eqb, ltb}
use lib.ListN.{length}
use Rattle.laws.proofs.TestLaws.{cond-elim}
use Rattle.table.specs.Table.{Table}
use Rattle.progress.specs.declared.Progress.{Progress}
use Rattle.progress.specs.Memory.{Mem, Ran, ends_record, run_mem, step_mem}
use Rattle.progress.proofs.MemoryLaws.{length-step_mem}
use Rattle.reader.specs.declared.Reader.{Reader}
use Rattle.reader.specs.Answer.{Answer}
use Rattle.reader.specs.declared.Refusal.{Refusal}
use Rattle.reader.specs.Refusals.{within_reader, call_gate}
use Rattle.reader.specs.Machine.{Outcome, refusing, memory_of, ending, going, feeding, feed_of}
use Rattle.reader.proofs.RefusalLaws.{through-elim}
use Rattle.stream.proofs.FreshLaws.{le-count-of-run}

-- ---- a feed by its three ways: it is refused, ends a record, or reads its piece

module _ (r : Reader) (t : Table) (w s : List ℕ) where
  -- how far a feed that is let in reads
  abbrev ran : Ran
  ran = run_mem t r.frames (memory_of r w) 0 s

  feed-elim : (P : Outcome → Type 0) → ((k : Refusal) → P (refusing r w k)) → (T ran.ended → P (ending r ran.memory ran.count false))
      → P (going r ran.memory ran.count) → P (feed_of r t w s)
  unfolding feed_of feeding
  feed-elim P refused ends goes =
      through-elim P (call_gate (within_reader r) r.frames t (length w)) (λ k _. refused k) (λ _. cond-elim P ran.ended (λ h. ends h) (λ _. goes))

-- ---- a feed reads no more than its piece

count-of-run : (t : Table) (n : ℕ) (m : Mem) (i : ℕ) (s : List ℕ) → (run_mem t n m i s).count ≤ i + length s
unfolding run_mem
count-of-run t n m i [] = omega arith
count-of-run t n m i (b ∷ s) =
    cond-elim (λ (e : Ran). e.count ≤ i + suc (length s)) (ends_record m.progress b) (λ _. omega arith)
    (λ _. omega (arith, count-of-run t n (step_mem t n m b) (i + 1) s))

pub count-of-feed : (r : Reader) (t : Table) (w s : List ℕ) → (feed_of r t w s).count ≤ length s
count-of-feed r t w s =
    let h : (ran r t w s).count ≤ length s = omega (arith, count-of-run t r.frames (memory_of r w) 0 s) in
    feed-elim r t w s (λ (o : Outcome). o.count ≤ length s) (λ _. omega arith) (λ _. h) h

-- ---- unless it is refused, a feed reads a byte of a piece that has one

first-of-run : (t : Table) (n : ℕ) (m : Mem) (s : List ℕ) → 0 < length s → 0 < (run_mem t n m 0 s).count
unfolding run_mem
first-of-run t n m [] h = omega (arith, h)
first-of-run t n m (b ∷ s) h =
    cond-elim (λ (e : Ran). 0 < e.count) (ends_record m.progress b) (λ _. omega arith) (λ _. omega (arith, le-count-of-run t n (step_mem t n m b) (0 + 1) s))

-- an answer that is no refusal
abbrev Served : Answer → Type 0
Served a = (n : Refusal) → a ≡ Err n → ⊥

pub some-of-feed : (r : Reader) (t : Table) (w s : List ℕ) → 0 < length s → Served (feed_of r t w s).answer → 0 < (feed_of r t w s).count
some-of-feed r t w s more =
    let h : 0 < (ran r t w s).count = first-of-run t r.frames (memory_of r w) s more in
    feed-elim r t w s (λ (o : Outcome). Served o.answer → 0 < o.count) (λ k served. absurd (served k refl)) (λ _ _. h) (λ _. h)

-- ---- a verdict takes two bytes of a record that has none yet: its byte, and the RS

abbrev pub weight : Answer → ℕ
weight (Ok None) = 0
weight (Ok (Some v)) = 2
weight (Err n) = 0

ended-of-run : (t : Table) (n : ℕ) (m : Mem) (i : ℕ) (s : List ℕ) → T (run_mem t n m i s).ended → i + 1 ≤ (run_mem t n m i s).count
unfolding run_mem
ended-of-run t n m i [] = λ h. absurd h
ended-of-run t n m i (b ∷ s) =
    cond-elim (λ (e : Ran). T e.ended → i + 1 ≤ e.count) (ends_record m.progress b) (λ _ _. omega arith)
    (λ _ h. omega (arith, ended-of-run t n (step_mem t n m b) (i + 1) s h))

none-ends : (x : Progress) (b : ℕ) → x.pos ≡ 0 → ends_record x b ≡ false
unfolding ends_record
none-ends x b z = rw z (go (eqb b 0x1E))
  where
    go : (c : Bool) → (c && ltb 0 0) ≡ false
    go true = refl
    go false = refl

first_ended : (t : Table) (n : ℕ) (m : Mem) (s : List ℕ) → m.progress.pos ≡ 0 → T (run_mem t n m 0 s).ended → 2 ≤ (run_mem t n m 0 s).count
unfolding run_mem
first_ended t n m [] z = λ h. absurd h
first_ended t n m (b ∷ s) z = rw (none-ends m.progress b z) (λ h. omega (arith, ended-of-run t n (step_mem t n m b) (0 + 1) s h))

pub weight-of-feed : (r : Reader) (t : Table) (w s : List ℕ) → r.progress.pos ≡ 0 → weight (feed_of r t w s).answer ≤ (feed_of r t w s).count
weight-of-feed r t w s z =
    feed-elim r t w s (λ (o : Outcome). weight o.answer ≤ o.count) (λ _. omega arith) (λ h. first_ended t r.frames (memory_of r w) s z h) (omega arith)

-- ---- a feed keeps the length of the buffer

length-of-run : (t : Table) (n : ℕ) (m : Mem) (i : ℕ) (s : List ℕ) → length (run_mem t n m i s).memory.work ≡ length m.work
unfolding run_mem
length-of-run t n m i [] = refl
length-of-run t n m i (b ∷ s) =
    cond-elim (λ (e : Ran). length e.memory.work ≡ length m.work) (ends_record m.progress b) (λ _. refl)
    (λ _. length-of-run t n (step_mem t n m b) (i + 1) s ∙ length-step_mem t n m b)

pub length-of-feed : (r : Reader) (t : Table) (w s : List ℕ) → length (feed_of r t w s).work ≡ length w
length-of-feed r t w s =
    let h : length (ran r t w s).memory.work ≡ length w = length-of-run t r.frames (memory_of r w) 0 s in
    feed-elim r t w s (λ (o : Outcome). length o.work ≡ length w) (λ _. refl) (λ _. h) h
