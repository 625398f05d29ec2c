-- A feed of one byte: it leaves the frames as they are, or the byte is sound and does its task. A piece is its bytes. Assumes nothing.
use Rattle.std.specs.Prelude.{Ok, Some, None, Option, Err}
use mathlib.Core.Bool.{Bool, true, false, cond}
use mathlib.Core.List.{List, [], ◌∷◌}
use mathlib.Core.Logic.{◌⊎◌, inl, inr}
use mathlib.Core.Path.{◌≡◌, refl, sym, ap, ◌∙◌}
use Prim.Native.Nat.{ℕ, ◌+◌, ◌≤◌}
use native.Mathlib.Omega.{arith}
use lib.Dec.{eqb, ltb}
use lib.ListN.{length}
use borrow.Author.Tests.{le-leb}
use Rattle.laws.proofs.TestLaws.{true-neq-false}
use Rattle.json_text.specs.Lexer.{step_of}
use Rattle.json_text.specs.declared.lexer.Step.{Step}
use Rattle.table.specs.Table.{Table}
use Rattle.verdict.specs.Verdict.{longest}
use Rattle.progress.specs.declared.Fault.{Fault}
use Rattle.progress.specs.declared.Fault.TheVariants as F
use Rattle.progress.specs.declared.Progress.{Progress}
use Rattle.progress.specs.declared.Task.{Task}
use Rattle.progress.specs.declared.Task.TheVariants as To
use Rattle.progress.specs.Act.{first_fault, level_after, len_after, task_of}
use Rattle.progress.specs.Progress.{counted, faulted, char_in, moved, sound, advanced, judged}
use Rattle.progress.specs.Memory.{Mem, top_at, perform, advanced_at, step_mem, ends_record, Ran, run_mem}
use Rattle.progress.proofs.MemoryLaws.{length-step_mem, progress-perform, fresh-of-RS}
use Rattle.std.proofs.Common.{Err, Ok}
use Rattle.reader.specs.declared.Reader.{Reader}
use Rattle.reader.specs.declared.Refusal.{Refusal}
use Rattle.reader.specs.Refusals.{Gate, let_in, within_reader, call_gate}
use Rattle.reader.specs.Machine.{Outcome, refusing, memory_of, ending, going, outcome, feeding, feed_of}
use Rattle.reader.proofs.RefusalLaws.{through-elim, reader-of-call, bounds-of-fit, fit_all}
use Rattle.stream.specs.Lent.{level_of, mode_of, byte_fed, then_fed, in_two}
use Rattle.stream.proofs.ByteLaws.{Within, Moves, moves-of-byte, ends_record-of-RS, ends_record-of-byte, within-of-byte}

-- ---- the gate

-- the gate of a feed
abbrev pub gate_of : Reader → Table → List ℕ → Gate
gate_of r t w = call_gate (within_reader r) r.frames t (length w)

-- what an open gate of a feed tells of the reader
pub bounds-of-open : (r : Reader) (t : Table) (w : List ℕ) → gate_of r t w ≡ let_in
    → (1 ≤ r.frames) × (r.frames ≤ 64) × (level_of r ≤ r.frames) × (r.progress.len ≤ 33)
bounds-of-open r t w e = bounds-of-fit r.frames (level_of r) r.progress.len (reader-of-call (within_reader r) r.frames t (length w) e)

pub feed_of-of-open : (r : Reader) (t : Table) (w s : List ℕ) → gate_of r t w ≡ let_in → feed_of r t w s ≡ feeding r t w s
unfolding feed_of
feed_of-of-open r t w s e = rw e

pub feed_of-of-shut : (r : Reader) (t : Table) (w s : List ℕ) (k : Refusal) → gate_of r t w ≡ Err k → feed_of r t w s ≡ refusing r w k
unfolding feed_of
feed_of-of-shut r t w s k e = rw e

-- ---- a sound byte

-- what the lexer makes of a byte
abbrev pub step_at : Reader → List ℕ → ℕ → Step
step_at r w b = step_of (mode_of r) (top_at w (level_of r)) b

-- what is known of the record after a sound byte, and what is to be done at the byte
abbrev pub moved_by : Reader → ℕ → Step → Progress
moved_by r b st =
    moved r.progress b st.mode (level_after st.act (level_of r) r.frames)
    (len_after st.act r.progress.len (char_in (mode_of r) r.progress.bits r.progress.high b))

abbrev pub task_by : Reader → ℕ → Step → Task
task_by r b st =
    task_of st.act st.ends r.progress.number r.progress.len (char_in (mode_of r) r.progress.bits r.progress.high b)

-- the outcome of a sound byte, where what is to be done at it is done
abbrev pub done : Reader → Table → List ℕ → ℕ → Step → Outcome
done r t w b st = going r (perform (task_by r b st) t (memory_of r w) (moved_by r b st)) 1

-- the call is let in, the byte is no RS and brings no fault, and the record had none and is not the head
pub record IsSound (r : Reader) (t : Table) (w : List ℕ) (b : ℕ) : Type 0 where
  pub gate : gate_of r t w ≡ let_in
  pub byte : eqb b 0x1E ≡ false
  pub head : r.progress.head ≡ false
  pub fault : r.progress.fault ≡ None
  pub short : ltb r.progress.pos longest ≡ true
  pub first : first_fault (step_at r w b).act (level_of r) r.frames r.progress.pos ≡ None

-- a byte that leaves the frames: level and mode stay too, but at an RS
pub record Idles (r : Reader) (w : List ℕ) (b : ℕ) (o : Outcome) : Type 0 where
  pub work : o.work ≡ w
  pub level : level_of o.reader ≤ level_of r
  pub stays : eqb b 0x1E ≡ false → (level_of o.reader ≡ level_of r) × (mode_of o.reader ≡ mode_of r)

module _ (r : Reader) (t : Table) (w : List ℕ) (b : ℕ) where
  feeding-of-byte : ends_record r.progress b ≡ false → feeding r t w (b ∷ []) ≡ going r (step_mem t r.frames (memory_of r w) b) 1
  unfolding feeding run_mem
  feeding-of-byte e = rw e

  feeding-of-end : ends_record r.progress b ≡ true → feeding r t w (b ∷ []) ≡ ending r (memory_of r w) 1 false
  unfolding feeding run_mem
  feeding-of-end e = rw e

  -- an RS after at least one byte of a record gives its verdict
  pub judged-of-RS : gate_of r t w ≡ let_in → eqb b 0x1E ≡ true → ltb 0 r.progress.pos ≡ true
      → (byte_fed r t w b).answer ≡ Ok (Some (judged r.progress r.root))
  judged-of-RS g e p =
      ap (λ (x : Outcome). x.answer) (feed_of-of-open r t w (b ∷ []) g ∙ feeding-of-end (ends_record-of-RS r.progress b e ∙ p))

  module _ (g : gate_of r t w ≡ let_in) (e : eqb b 0x1E ≡ false) where
    -- another byte gives no verdict, and this is what is known of the record after it
    pub fed-of-other : byte_fed r t w b ≡ going r (step_mem t r.frames (memory_of r w) b) 1
    fed-of-other = feed_of-of-open r t w (b ∷ []) g ∙ feeding-of-byte (ends_record-of-byte r.progress b e)

    pub quiet-of-other : (byte_fed r t w b).answer ≡ Ok None
    quiet-of-other = ap (λ (x : Outcome). x.answer) fed-of-other

    pub progress-of-other : (byte_fed r t w b).reader.progress ≡ (advanced r.progress r.frames b (step_at r w b)).progress
    unfolding step_mem
    progress-of-other =
        ap (λ (x : Outcome). x.reader.progress) fed-of-other
        ∙ progress-perform (advanced_at r.frames (memory_of r w) b).task t (memory_of r w) (advanced_at r.frames (memory_of r w) b).progress

    pub moves-of-other : Moves r.frames r.progress (byte_fed r t w b).reader.progress
    moves-of-other = rw fed-of-other (moves-of-byte t r.frames (memory_of r w) b e)

  -- a sound byte does its task
  pub fed-of-sound : IsSound r t w b → byte_fed r t w b ≡ done r t w b (step_at r w b)
  unfolding step_mem advanced sound
  fed-of-sound i =
      feed_of-of-open r t w (b ∷ []) i.gate ∙ feeding-of-byte (ends_record-of-byte r.progress b i.byte)
      ∙ rw (i.byte, i.head, i.fault, i.short, i.first)

  module _ (i : IsSound r t w b) where
    -- what is known after a sound byte, and the buffer after it
    pub progress-fed : (byte_fed r t w b).reader.progress ≡ moved_by r b (step_at r w b)
    progress-fed =
        ap (λ (x : Outcome). x.reader.progress) (fed-of-sound i)
        ∙ progress-perform (task_by r b (step_at r w b)) t (memory_of r w) (moved_by r b (step_at r w b))

    pub work-fed : (byte_fed r t w b).work ≡ (perform (task_by r b (step_at r w b)) t (memory_of r w) (moved_by r b (step_at r w b))).work
    work-fed = ap (λ (x : Outcome). x.work) (fed-of-sound i)

  -- a byte leaves the frames, or is sound
  abbrev pub Ways : Type 0
  Ways = Idles r w b (byte_fed r t w b) ⊎ IsSound r t w b

  module _ (g : gate_of r t w ≡ let_in) (e : eqb b 0x1E ≡ false) where
    idles-of-task : (y : Progress) → y.level ≡ level_of r → y.mode ≡ mode_of r
        → advanced_at r.frames (memory_of r w) b ≡ record { progress = y; task = To.Idle } → Idles r w b (byte_fed r t w b)
    unfolding step_mem
    idles-of-task y l m q =
        rw (feed_of-of-open r t w (b ∷ []) g ∙ feeding-of-byte (ends_record-of-byte r.progress b e), q)
        (record { work = refl; level = omega arith; stays = λ _. (l, m) })

    ways-by-first : r.progress.head ≡ false → r.progress.fault ≡ None → ltb r.progress.pos longest ≡ true → (f : Option Fault)
        → first_fault (step_at r w b).act (level_of r) r.frames r.progress.pos ≡ f → Ways
    unfolding advanced sound
    ways-by-first h k s None q = inr (record { gate = g; byte = e; head = h; fault = k; short = s; first = q })
    ways-by-first h k s (Some f) q = inl (idles-of-task (faulted r.progress f).progress refl refl (rw (e, h, k, s, q)))

    ways-by-length : r.progress.head ≡ false → r.progress.fault ≡ None → (s : Bool) → ltb r.progress.pos longest ≡ s → Ways
    unfolding advanced sound
    ways-by-length h k true s = ways-by-first h k s (first_fault (step_at r w b).act (level_of r) r.frames r.progress.pos) refl
    ways-by-length h k false s = inl (idles-of-task (faulted r.progress F.TooLong).progress refl refl (rw (e, h, k, s)))

    ways-by-fault : r.progress.head ≡ false → (f : Option Fault) → r.progress.fault ≡ f → Ways
    unfolding advanced
    ways-by-fault h None k = ways-by-length h k (ltb r.progress.pos longest) refl
    ways-by-fault h (Some f) k = inl (idles-of-task (counted r.progress).progress refl refl (rw (e, h, k)))

    ways-by-head : (h : Bool) → r.progress.head ≡ h → Ways
    unfolding advanced
    ways-by-head true h = inl (idles-of-task (counted r.progress).progress refl refl (rw (e, h)))
    ways-by-head false h = ways-by-fault h r.progress.fault refl

  -- an RS ends a record or the head
  idles-of-RS : gate_of r t w ≡ let_in → eqb b 0x1E ≡ true → (v : Bool) → ends_record r.progress b ≡ v → Idles r w b (byte_fed r t w b)
  idles-of-RS g e true q =
      rw (feed_of-of-open r t w (b ∷ []) g ∙ feeding-of-end q) (record { work = refl; level = omega arith; stays = λ z. true-neq-false (sym e ∙ z) })
  idles-of-RS g e false q =
      rw (feed_of-of-open r t w (b ∷ []) g ∙ feeding-of-byte q, fresh-of-RS t r.frames (memory_of r w) b e)
      (record { work = refl; level = omega arith; stays = λ z. true-neq-false (sym e ∙ z) })

  idles-of-shut : (k : Refusal) → gate_of r t w ≡ Err k → Idles r w b (byte_fed r t w b)
  idles-of-shut k g = rw (feed_of-of-shut r t w (b ∷ []) k g) (record { work = refl; level = omega arith; stays = λ _. (refl, refl) })

  pub ways-of-byte : Ways
  ways-of-byte = by-gate (gate_of r t w) refl
    where
      by_byte : gate_of r t w ≡ let_in → (v : Bool) → eqb b 0x1E ≡ v → Ways
      by_byte g true e = inl (idles-of-RS g e (ends_record r.progress b) refl)
      by_byte g false e = ways-by-head g e r.progress.head refl

      by-gate : (a : Gate) → gate_of r t w ≡ a → Ways
      by-gate (Ok u) g = by_byte g (eqb b 0x1E) refl
      by-gate (Err k) g = inl (idles-of-shut k g)

-- ---- a piece is its bytes

-- a run whose count begins i further on
abbrev later : ℕ → Ran → Ran
later i e = record { memory = e.memory; count = i + e.count; ended = e.ended }

run_mem-later : (t : Table) (n : ℕ) (s : List ℕ) (m : Mem) (i j : ℕ) → run_mem t n m (i + j) s ≡ later i (run_mem t n m j s)
unfolding run_mem
run_mem-later t n [] m i j = refl
run_mem-later t n (b ∷ s) m i j =
    let q : i + j + 1 ≡ i + (j + 1) = omega arith in
    go (ends_record m.progress b) q (ap (λ (k : ℕ). run_mem t n (step_mem t n m b) k s) q ∙ run_mem-later t n s (step_mem t n m b) i (j + 1))
  where
    go : (v : Bool) → i + j + 1 ≡ i + (j + 1) → run_mem t n (step_mem t n m b) (i + j + 1) s ≡ later i (run_mem t n (step_mem t n m b) (j + 1) s)
        → cond v (record { memory = m; count = i + j + 1; ended = true }) (run_mem t n (step_mem t n m b) (i + j + 1) s)
        ≡ later i (cond v (record { memory = m; count = j + 1; ended = true }) (run_mem t n (step_mem t n m b) (j + 1) s))
    go true q h = rw q
    go false q h = h

module _ (r : Reader) (t : Table) (w : List ℕ) where
  -- of an empty piece nothing is read
  pub fed-none : ((feed_of r t w []).reader ≡ r) × ((feed_of r t w []).work ≡ w)
  unfolding feed_of feeding run_mem
  fed-none = through-elim (λ (o : Outcome). (o.reader ≡ r) × (o.work ≡ w)) (gate_of r t w) (λ k _. (refl, refl)) (λ _. (refl, refl))

  module _ (b : ℕ) (s : List ℕ) where
    -- the reader after a byte that ends no record
    abbrev reached : Outcome
    reached = going r (step_mem t r.frames (memory_of r w) b) 1

    -- the reader after a byte that ends no record is let in again
    open-again : gate_of r t w ≡ let_in → gate_of reached.reader t reached.work ≡ let_in
    open-again g =
        let f = bounds-of-open r t w g in
        let i : Within r.frames (step_mem t r.frames (memory_of r w) b).progress
        = within-of-byte t r.frames (memory_of r w) b (record { level = f.2; len = f.3 }) in
        let l : ℕ = level_of reached.reader in
        let k : ℕ = reached.reader.progress.len in
        rw (length-step_mem t r.frames (memory_of r w) b, sym (fit_all r.frames l k f.0 f.1 i.level) ∙ le-leb k 33 i.len)
        (rw (reader-of-call (within_reader r) r.frames t (length w) g) at g)

    -- a run after the first byte, counted from that byte on, has the outcome of the byte and then of the rest
    goes_on : (e : Ran) → outcome r (later 1 e) ≡ then_fed (Ok None) reached (outcome r e)
    goes_on e = go e.ended
      where
        go : (v : Bool) → cond v (ending r e.memory (1 + e.count) false) (going r e.memory (1 + e.count))
            ≡ then_fed (Ok None) reached (cond v (ending r e.memory e.count false) (going r e.memory e.count))
        go true = refl
        go false = refl

    fed-of-byte : gate_of r t w ≡ let_in → ends_record r.progress b ≡ false → feed_of r t w (b ∷ s) ≡ in_two t (byte_fed r t w b) s
    unfolding feeding run_mem
    fed-of-byte g e =
        rw (feed_of-of-open r t w (b ∷ s) g, feed_of-of-open r t w (b ∷ []) g, e, feed_of-of-open reached.reader t reached.work s (open-again g))
        (ap (outcome r) (run_mem-later t r.frames s (step_mem t r.frames (memory_of r w) b) 1 0)
        ∙ goes_on (run_mem t r.frames (step_mem t r.frames (memory_of r w) b) 0 s))

    fed-of-end : gate_of r t w ≡ let_in → ends_record r.progress b ≡ true → feed_of r t w (b ∷ s) ≡ in_two t (byte_fed r t w b) s
    unfolding feeding run_mem
    fed-of-end g e = rw (feed_of-of-open r t w (b ∷ s) g, feed_of-of-open r t w (b ∷ []) g, e)

    -- a piece does what its first byte does, and then its rest
    pub fed-in-two : feed_of r t w (b ∷ s) ≡ in_two t (byte_fed r t w b) s
    fed-in-two = by-gate (gate_of r t w) refl
      where
        by_end : gate_of r t w ≡ let_in → (v : Bool) → ends_record r.progress b ≡ v → feed_of r t w (b ∷ s) ≡ in_two t (byte_fed r t w b) s
        by_end g true e = fed-of-end g e
        by_end g false e = fed-of-byte g e

        by-gate : (a : Gate) → gate_of r t w ≡ a → feed_of r t w (b ∷ s) ≡ in_two t (byte_fed r t w b) s
        by-gate (Ok u) g = by_end g (ends_record r.progress b) refl
        by-gate (Err k) g = rw (feed_of-of-shut r t w (b ∷ s) k g, feed_of-of-shut r t w (b ∷ []) k g)

-- after a byte other than RS the reader is let in again
pub open-of-other : (r : Reader) (t : Table) (w : List ℕ) (b : ℕ) → gate_of r t w ≡ let_in → eqb b 0x1E ≡ false
    → gate_of (byte_fed r t w b).reader t (byte_fed r t w b).work ≡ let_in
open-of-other r t w b g e = rw (fed-of-other r t w b g e) (open-again r t w b [] g)
