-- One call: what it does where it is accepted, and that it changes nothing where it is refused. The reader's numbers stay in their bounds whatever
-- the calls are handed, so that a reader from an accepted start is refused with 23 for the table alone: `never-above-limit`; and so do the counts of a
-- number: `counts-after-start`. Assumes nothing.
use Rattle.std.specs.Prelude.{Ok, Err, None}
use mathlib.Core.Bool.{Bool, true, false}
use mathlib.Core.List.{List, [], ◌∷◌}
use mathlib.Core.Path.{◌≡◌, refl, sym, ap, ◌∙◌}
use Prim.Native.Nat.{ℕ, ◌*◌, ◌≤◌}
use native.Mathlib.Omega.{arith}
use lib.Dec.{ltb}
use lib.ListN.{length}
use borrow.Author.Tests.{le-leb}
use Rattle.whole.specs.Limits.{CountsWithin}
use Rattle.whole.proofs.LimitLaws.{counts-fresh}
use Rattle.table.specs.Table.{Table}
use Rattle.table.specs.Limits.{within_limits}
use Rattle.frame.specs.Frame.{frame_count}
use Rattle.progress.specs.Memory.{Ran, run_mem}
use Rattle.progress.specs.Fresh.{fresh_progress}
use Rattle.std.proofs.Common.{Err, Ok}
use Rattle.reader.specs.declared.Reader.{Reader}
use Rattle.reader.specs.declared.Refusal.{Refusal}
use Rattle.reader.specs.declared.Refusal.TheVariants as No
use Rattle.reader.specs.Refusals.{Gate, let_in, fit_reader, within_reader, start_gate, call_gate, through}
use Rattle.reader.specs.Start.{Start, start_of}
use Rattle.reader.specs.Machine.{Outcome, refusing, or_refused, memory_of, outcome, feeding, feed_of, closing, close_of}
use Rattle.stream.specs.Paper.{Call, feed, close, Judge, Paper, Said, goes, ends, refuses, says}
use Rattle.stream.specs.Claim.{run, after, table, buffer, accepted, closes}
use Rattle.reader.proofs.RefusalLaws.{through-elim, open-of-is_open, shut-of-not-is_open, room-of-start, room-of-call, table-of-above-limit}
use Rattle.laws.proofs.TestLaws.{true-neq-false, cond-elim}
use Rattle.stream.specs.Records.{Fresh}
use Rattle.stream.proofs.ByteLaws.{Within, CountsIn, within-of-piece, counts-of-piece}

-- ---- a call that is not refused

-- what a call that is not refused does
abbrev pub reading : Reader → Call → Outcome
reading r (feed t w s) = feeding r t w s
reading r (close t w) = closing r w

-- what a call that is not refused does on paper
abbrev pub saying : Judge → Paper → Call → Said
saying J p (feed t w s) = goes J p 0 s
saying J p (close t w) = ends J p

-- a call is refused at its gate, or does the rest
pub run-of-reading : (r : Reader) (c : Call) → run r c ≡ or_refused r (table c) (buffer c) (reading r c)
unfolding feed_of close_of
run-of-reading r (feed t w s) = refl
run-of-reading r (close t w) = refl

says-of-saying : (J : Judge) (n : ℕ) (p : Paper) (c : Call) → says J n p c ≡ refuses n p (table c) (buffer c) (saying J p c)
says-of-saying J n p (feed t w s) = refl
says-of-saying J n p (close t w) = refl

-- a record that ends, or goes on, is no refusal
pub reading-not-refused : (r : Reader) (c : Call) (k : Refusal) → (reading r c).answer ≡ Err k → ⊥
unfolding feeding closing
reading-not-refused r (feed t w s) k = go (run_mem t r.frames (memory_of r w) 0 s)
  where
    go : (e : Ran) → (outcome r e).answer ≡ Err k → ⊥
    go e =
        cond-elim (λ (o : Outcome). o.answer ≡ Err k → ⊥) e.ended
        (λ h q. let z : ◌≡◌ {A = ℕ} 0 1 = cc in omega arith)
        (λ h q. let z : ◌≡◌ {A = ℕ} 0 1 = cc in omega arith)
reading-not-refused r (close t w) k =
    cond-elim (λ (o : Outcome). o.answer ≡ Err k → ⊥) (ltb 0 r.progress.pos)
    (λ h q. let z : ◌≡◌ {A = ℕ} 0 1 = cc in omega arith)
    (λ h q. let z : ◌≡◌ {A = ℕ} 0 1 = cc in omega arith)

-- ---- a refused call changes nothing, whatever the reader

-- an outcome that leaves the reader r and the buffer w, and has read nothing
pub record Unchanged (r : Reader) (w : List ℕ) (o : Outcome) : Type 0 where
  pub reader : o.reader ≡ r
  pub work : o.work ≡ w
  pub count : o.count ≡ 0

unchanged-of-refusing : (r : Reader) (w : List ℕ) (k : Refusal) → Unchanged r w (refusing r w k)
unchanged-of-refusing r w k = record { reader = refl; work = refl; count = refl }

-- a refused call leaves reader and buffer as they were, and reads nothing
pub unchanged-of-refused : (r : Reader) (c : Call) (k : Refusal) → (run r c).answer ≡ Err k → Unchanged r (buffer c) (run r c)
unchanged-of-refused r c k =
    rw (run-of-reading r c)
    (through-elim (λ (o : Outcome). o.answer ≡ Err k → Unchanged r (buffer c) o) (call_gate (within_reader r) r.frames (table c) (length (buffer c)))
    (λ n _ _. unchanged-of-refusing r (buffer c) n)
    (λ _ q. absurd (reading-not-refused r c k q)))

-- ---- the bounds of a reader

-- n frames, and what is known of the record within their bounds
pub record Good (n : ℕ) (r : Reader) : Type 0 where
  pub frames : r.frames ≡ n
  pub within : Within n r.progress
  pub counts : CountsIn r.progress

within-of-fresh : (n : ℕ) (head : Bool) → Within n (fresh_progress head)
within-of-fresh n head = record { level = omega arith; len = omega arith }

-- a fresh reader is within its bounds
pub good-of-fresh : (n : ℕ) (r : Reader) → Fresh n r → Good n r
good-of-fresh n r f = record { frames = f.frames; within = rw f.progress (within-of-fresh n true); counts = rw f.progress (counts-fresh 0) }

good-of-outcome : (n : ℕ) (r : Reader) (e : Ran) → r.frames ≡ n → Within n e.memory.progress → CountsIn e.memory.progress
    → Good n (outcome r e).reader
good-of-outcome n r e f i k =
    cond-elim (λ (o : Outcome). Good n o.reader) e.ended (λ h. record { frames = f; within = within-of-fresh n false; counts = counts-fresh 0 })
    (λ h. record { frames = f; within = i; counts = k })

fresh-of-close : (n : ℕ) (r : Reader) (t : Table) (w : List ℕ) → r.frames ≡ n → Fresh n (reading r (close t w)).reader
unfolding closing
fresh-of-close n r t w f =
    cond-elim (λ (o : Outcome). Fresh n o.reader) (ltb 0 r.progress.pos) (λ h. record { frames = f; progress = refl; root = refl; key = refl })
    (λ h. record { frames = f; progress = refl; root = refl; key = refl })

good-of-reading : (n : ℕ) (r : Reader) (c : Call) → Good n r → Good n (reading r c).reader
unfolding feeding
good-of-reading n r (feed t w s) g =
    good-of-outcome n r (run_mem t r.frames (memory_of r w) 0 s) g.frames
    (rw g.frames (within-of-piece t n s (memory_of r w) 0 g.within)) (counts-of-piece t r.frames s (memory_of r w) 0 g.counts)
good-of-reading n r (close t w) g = good-of-fresh n (reading r (close t w)).reader (fresh-of-close n r t w g.frames)

-- ---- a call by its tests, with n frames

-- where the paper accepts a call, so does the machine
pub record Accepted (n : ℕ) (r : Reader) (c : Call) : Type 0 where
  pub run_is : run r c ≡ reading r c
  pub says_is : (J : Judge) (p : Paper) → says J n p c ≡ saying J p c
  pub long : 96 * n ≤ length (buffer c)

-- where the paper refuses a call, so does the machine, and both stay as they were
pub record Refused (n : ℕ) (r : Reader) (c : Call) : Type 0 where
  pub refusal : Refusal
  pub refused : (run r c).answer ≡ Err refusal
  pub stays : Unchanged r (buffer c) (run r c)
  pub paper : (J : Judge) (p : Paper) → (says J n p c).paper ≡ p
  pub count : (J : Judge) (p : Paper) → (run r c).count ≡ (says J n p c).count
  pub answer : (J : Judge) (p : Paper) → (run r c).answer ≡ (says J n p c).answer

module _ (n : ℕ) (least : 1 ≤ n) (most : n ≤ 64) where
  within_reader-of-good : (r : Reader) → Good n r → within_reader r ≡ true
  unfolding fit_reader
  within_reader-of-good r g =
      let f : r.frames ≡ n = g.frames in
      rw (
        le-leb 1 r.frames (omega arith),
        le-leb r.frames 64 (omega arith),
        le-leb r.progress.level r.frames (omega (arith, g.within.level)),
        le-leb r.progress.len 33 g.within.len,
      )

  module _ (r : Reader) (c : Call) (g : Good n r) where
    -- the gate of the paper, which is that of the machine
    abbrev gate : Gate
    gate = call_gate true n (table c) (length (buffer c))

    run-at-gate : run r c ≡ through gate (refusing r (buffer c)) (reading r c)
    run-at-gate = run-of-reading r c ∙ rw (within_reader-of-good r g, g.frames)

    accepted-of-open : gate ≡ let_in → Accepted n r c
    accepted-of-open o =
        record {
          run_is = run-at-gate ∙ rw o;
          says_is = λ J p. says-of-saying J n p c ∙ rw o;
          long = room-of-call true n (table c) (length (buffer c)) o;
        }

    run-of-shut : (k : Refusal) → gate ≡ Err k → run r c ≡ refusing r (buffer c) k
    run-of-shut k o = run-at-gate ∙ rw o

    refused-of-shut : (k : Refusal) → gate ≡ Err k → Refused n r c
    refused-of-shut k o =
        let x : run r c ≡ refusing r (buffer c) k = run-of-shut k o in
        let y : (J : Judge) (p : Paper) → says J n p c ≡ record { paper = p; count = 0; answer = Err k } = λ J p. says-of-saying J n p c ∙ rw o in
        record {
          refusal = k;
          refused = rw x;
          stays = rw x (unchanged-of-refusing r (buffer c) k);
          paper = λ J p. rw (y J p);
          count = λ J p. rw (x, y J p);
          answer = λ J p. rw (x, y J p);
        }

    -- a call that the paper accepts, of a reader within its bounds
    pub accepted-of-true : accepted n c ≡ true → Accepted n r c
    accepted-of-true e = accepted-of-open (open-of-is_open gate e)

    -- a call that the paper refuses
    pub refused-of-false : accepted n c ≡ false → Refused n r c
    refused-of-false e = let (k, o) = shut-of-not-is_open gate e in refused-of-shut k o

    -- any call keeps the bounds
    pub good-of-call : Good n (run r c).reader
    good-of-call = go (accepted n c) refl
      where
        go : (b : Bool) → accepted n c ≡ b → Good n (run r c).reader
        go true e = rw (accepted-of-true e).run_is (good-of-reading n r c g)
        go false e = rw (refused-of-false e).stays.reader g

    -- 23 is for the table
    limits-of-refused : (run r c).answer ≡ Err No.AboveLimit → within_limits (table c) ≡ false
    limits-of-refused e = go gate refl
      where
        go : (a : Gate) → gate ≡ a → within_limits (table c) ≡ false
        go (Ok u) o = absurd (reading-not-refused r c No.AboveLimit (sym (ap (λ (x : Outcome). x.answer) (accepted-of-open o).run_is) ∙ e))
        go (Err k) o =
            let q : Err k ≡ Err No.AboveLimit = sym (ap (λ (x : Outcome). x.answer) (run-of-shut k o)) ∙ e in
            let z : k ≡ No.AboveLimit = cc in
            table-of-above-limit n (table c) (length (buffer c)) (o ∙ ap Err z)

  -- a close that is not refused leaves a fresh reader
  pub fresh-of-closes : (r : Reader) (c : Call) → Good n r → closes n c ≡ true → Fresh n (run r c).reader
  fresh-of-closes r (feed t w s) g e = true-neq-false (sym e)
  fresh-of-closes r (close t w) g e = rw (accepted-of-true r (close t w) g e).run_is (fresh-of-close n r t w g.frames)

  -- any calls keep the bounds
  pub good-of-calls : (cs : List Call) (r : Reader) → Good n r → Good n (after r cs)
  unfolding after
  good-of-calls [] r g = g
  good-of-calls (c ∷ cs) r g = good-of-calls cs (run r c).reader (good-of-call r c g)

-- ---- an accepted start

-- a reader that may begin: 1 to 64 frames, and fresh
pub record Begun (n : ℕ) (r : Reader) : Type 0 where
  pub least : 1 ≤ n
  pub most : n ≤ 64
  pub fresh : Fresh n r

-- an accepted start gives a reader that may begin, with the frames of its buffer
pub begun-of-start : (t : Table) (w : List ℕ) → (start_of t w).answer ≡ Ok None → Begun (frame_count (length w)) (start_of t w).reader
unfolding start_of
begun-of-start t w =
    through-elim (λ (s : Start). s.answer ≡ Ok None → Begun (frame_count (length w)) s.reader) (start_gate t (length w))
    (λ k _ e. let z : ◌≡◌ {A = ℕ} 0 1 = cc in absurd (omega arith))
    (λ o _.
    let h : 96 ≤ length w = room-of-start t (length w) o in
    record { least = omega arith; most = omega arith; fresh = record { frames = refl; progress = refl; root = refl; key = refl } })

-- after an accepted start and any calls the reader is within its bounds
good-of-start : (t : Table) (w : List ℕ) → (start_of t w).answer ≡ Ok None → (calls : List Call)
    → Good (frame_count (length w)) (after (start_of t w).reader calls)
good-of-start t w e calls =
    let n : ℕ = frame_count (length w) in
    let b = begun-of-start t w e in
    good-of-calls n b.least b.most calls (start_of t w).reader (good-of-fresh n (start_of t w).reader b.fresh)

-- after an accepted start and any calls, a call refused with 23 has a table with a number above its limit
pub never-above-limit : (t : Table) (w : List ℕ) → (start_of t w).answer ≡ Ok None → (calls : List Call) (c : Call)
    → (run (after (start_of t w).reader calls) c).answer ≡ Err No.AboveLimit → within_limits (table c) ≡ false
never-above-limit t w e calls c =
    let b = begun-of-start t w e in
    limits-of-refused (frame_count (length w)) b.least b.most (after (start_of t w).reader calls) c (good-of-start t w e calls)

-- after an accepted start and any calls, zeros and places of a number are at most the bytes of its record and 16,777,216, and its exponent is at most
-- 167,772,169
pub counts-after-start : (t : Table) (w : List ℕ) → (start_of t w).answer ≡ Ok None → (calls : List Call)
    → CountsWithin (after (start_of t w).reader calls).progress.pos (after (start_of t w).reader calls).progress.number
counts-after-start t w e calls = (good-of-start t w e calls).counts
