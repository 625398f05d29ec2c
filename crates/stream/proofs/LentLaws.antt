-- What feed and close write in the lent buffer, sentence by sentence: `lent` proves all of `Lent`. A byte leaves the frames as they are, or is sound:
-- `ways-of-byte`. Assumes nothing.
use Rattle.std.specs.Prelude.{Ok, Err, Some, None}
use mathlib.Core.Bool.{true}
use mathlib.Core.List.{List, [], ◌∷◌}
use mathlib.Core.Logic.{inr, ⊎_elim}
use mathlib.Core.Path.{◌≡◌, refl, sym, ap, ◌∙◌}
use Prim.Native.Nat.{ℕ, ◌+◌, ◌*◌, ◌<◌, ◌≤◌}
use native.Mathlib.Omega.{arith}
use lib.Dec.{ltb}
use lib.ListN.{length}
use borrow.Author.Tests.{eq-eqb}
use Rattle.laws.proofs.TestLaws.{true-neq-false, cond-elim}
use Rattle.json_text.specs.declared.lexer.Mode.{Mode}
use Rattle.json_text.specs.declared.lexer.Mode.TheVariants as M
use Rattle.table.specs.Table.{Table}
use Rattle.frame.specs.Frame.{has_frame, frame_at}
use Rattle.frame.specs.Ops.{opened}
use Rattle.frame.proofs.LevelLaws.{frame_at-put_frame}
use Rattle.frame.proofs.OpenLaws.{length-opened}
use Rattle.progress.specs.Memory.{run_mem}
use Rattle.reader.specs.declared.Reader.{Reader}
use Rattle.reader.specs.Answer.{Answer}
use Rattle.reader.specs.Machine.{Outcome, memory_of, feeding, feed_of, closing, close_of}
use Rattle.stream.specs.Paper.{feed}
use Rattle.reader.proofs.RefusalLaws.{through-elim}
use Rattle.stream.specs.Lent.{Spares, level_of, mode_of, is_in_token, byte_fed, EndsToken, form_opened, ByteWrites, then_fed, NotOpened, Lent}
use Rattle.stream.proofs.CallLaws.{unchanged-of-refused}
use Rattle.stream.proofs.FedLaws.{gate_of, bounds-of-open, IsSound, Idles, ways-of-byte, fed-none, fed-in-two}
use Rattle.stream.proofs.NumberLaws.{fed-of-number-end}
use Rattle.stream.proofs.ValueLaws.{kind-of-number}
use Rattle.stream.proofs.SoundLaws.{not-faulty, level-le, frame-of-level, sound-opens, sound-closes, sound-between, sound-in-token, sound-ends-key, sound-ends-string, sound-ends-word, sound-not-faulty, sound-reaches}
use Rattle.stream.proofs.SpareLaws.{spares-all, spares-after, spares-fewer, spares-put, with_value-none, spares-with_value, frame_at-of-spares}

-- ---- any byte

module _ (r : Reader) (t : Table) (w : List ℕ) (b : ℕ) where
  -- a byte that leaves the frames, and the mode but at an RS, ends no token
  idle-ends : {X : Type 0} (m : Mode) → is_in_token m ≡ true → mode_of r ≡ m → Idles r w b (byte_fed r t w b) → EndsToken b (byte_fed r t w b) → X
  idle-ends m k q i (e, f) = let (_, a) = i.stays e in true-neq-false (sym k ∙ sym (ap is_in_token (a ∙ q)) ∙ f)

  byte-of-idle : Idles r w b (byte_fed r t w b) → ByteWrites r t w b (byte_fed r t w b)
  byte-of-idle i =
      record {
        opens = λ q. absurd (omega (arith, i.level));
        closes = λ m e q. let (a, _) = i.stays e in absurd (omega arith);
        closes_root = λ m q p. i.work;
        between = λ m q. i.work;
        in_token = λ _. i.work;
        ends_key = λ v q e. idle-ends (M.Key v) refl q i e;
        ends_string = λ v q e. idle-ends (M.Text v) refl q i e;
        ends_word = λ v n q e. idle-ends (M.Word v n) refl q i e;
        ends_number = λ n q e. idle-ends (M.Number n) refl q i e;
        faulty = λ _. i.work;
        after_fault = λ _. i.work;
        separator = λ _. i.work;
        reaches = spares-all _ w _ i.work;
      }

  byte-of-sound : IsSound r t w b → ByteWrites r t w b (byte_fed r t w b)
  byte-of-sound s =
      let long : length (opened t.forms (form_opened b)) ≡ 96 = length-opened t.forms (form_opened b) in
      let frame : (q : level_of (byte_fed r t w b).reader ≡ level_of r + 1) → has_frame (length w) (level_of r + 1) ≡ true
      = λ q. frame-of-level r t w b s (level_of r + 1) q (omega arith) in
      record {
        opens = λ q. rw (sound-opens r t w b s q) (frame_at-put_frame w _ (level_of r + 1) long (frame q), spares-put w _ (level_of r + 1) long);
        closes = λ m _ q. let e = sound-closes r t w b s m q in (e, rw e (spares-with_value t w (level_of (byte_fed r t w b).reader) _));
        closes_root = λ m q p. sound-closes r t w b s m (omega arith) ∙ with_value-none t w (level_of (byte_fed r t w b).reader) _ p;
        between = sound-between r t w b s;
        in_token = sound-in-token r t w b s;
        ends_key = λ v m e. sound-ends-key r t w b s e.1 v m;
        ends_string = λ v m e. sound-ends-string r t w b s e.1 v m;
        ends_word = λ v i m e. sound-ends-word r t w b s e.1 v i m;
        ends_number = λ n m e. fed-of-number-end r t w b s n m e.1;
        faulty = λ f. true-neq-false (sym f ∙ sound-not-faulty r t w b s);
        after_fault = λ f. true-neq-false (sym f ∙ not-faulty r t w s.head s.fault);
        separator = λ q. true-neq-false (sym (eq-eqb b 0x1E q) ∙ s.byte);
        reaches = sound-reaches r t w b s;
      }

  -- what a byte writes
  pub byte-writes : ByteWrites r t w b (byte_fed r t w b)
  byte-writes = ⊎_elim byte-of-idle byte-of-sound (ways-of-byte r t w b)

  -- a byte writes nothing past the frames
  byte_past : Spares (λ i. 96 * r.frames ≤ i) w (byte_fed r t w b).work
  byte_past =
      ⊎_elim (λ i. spares-all _ w _ i.work)
      (λ s.
      let l : level_of r ≤ r.frames = (bounds-of-open r t w s.gate).2 in
      let k : level_of (byte_fed r t w b).reader ≤ r.frames = level-le r t w b s in
      spares-fewer (λ i h. (inr (omega arith), inr (omega arith), inr (omega arith))) byte-writes.reaches)
      (ways-of-byte r t w b)

  -- a byte writes nothing in the frame of a level that is open neither before it nor after it
  byte-unopened : (l : ℕ) → level_of r < l → level_of (byte_fed r t w b).reader < l → frame_at (byte_fed r t w b).work l ≡ frame_at w l
  byte-unopened l h k =
      frame_at-of-spares _ w (byte_fed r t w b).work l (λ i g. (inr (omega arith), inr (omega arith), inr (omega arith))) byte-writes.reaches

-- ---- pieces

-- a feed keeps the number of frames
frames-fed : (r : Reader) (t : Table) (w s : List ℕ) → (feed_of r t w s).reader.frames ≡ r.frames
unfolding feed_of feeding
frames-fed r t w s =
    through-elim (λ (o : Outcome). o.reader.frames ≡ r.frames) (gate_of r t w) (λ k _. refl)
    (λ _. cond-elim (λ (o : Outcome). o.reader.frames ≡ r.frames) (run_mem t r.frames (memory_of r w) 0 s).ended (λ _. refl) (λ _. refl))

spares-of-two : (P : ℕ → Type 0) (w : List ℕ) (a : Answer) (o q : Outcome) → Spares P w o.work → Spares P o.work q.work
    → Spares P w (then_fed a o q).work
spares-of-two P w (Ok None) o q x y = spares-after x y
spares-of-two P w (Ok (Some v)) o q x y = x
spares-of-two P w (Err k) o q x y = x

piece-past : (t : Table) (n : ℕ) (s : List ℕ) (r : Reader) (w : List ℕ) → r.frames ≡ n → Spares (λ i. 96 * n ≤ i) w (feed_of r t w s).work
piece-past t n [] r w e = spares-all _ w _ (fed-none r t w).1
piece-past t n (b ∷ s) r w e =
    let o : Outcome = byte_fed r t w b in
    rw (fed-in-two r t w b s)
    (spares-of-two _ w o.answer o (feed_of o.reader t o.work s) (spares-fewer (λ i h. omega arith) (byte_past r t w b))
    (piece-past t n s o.reader o.work (frames-fed r t w (b ∷ []) ∙ e)))

abbrev Unwritten : Table → ℕ → List ℕ → Reader → List ℕ → Type 0
Unwritten t l s r w = NotOpened r t w s l → frame_at (feed_of r t w s).work l ≡ frame_at w l

piece-unopened : (t : Table) (l : ℕ) (s : List ℕ) (r : Reader) (w : List ℕ) → Unwritten t l s r w
piece-unopened t l [] r w all = ap (λ (v : List ℕ). frame_at v l) (fed-none r t w).1
piece-unopened t l (b ∷ s) r w all =
    rw (fed-in-two r t w b s) (go o.answer refl (piece-unopened t l s o.reader o.work))
  where
    o : Outcome
    o = byte_fed r t w b

    first : frame_at o.work l ≡ frame_at w l
    first = byte-unopened r t w b l (rw (fed-none r t w).0 at (all [] (b ∷ s) refl)) (all (b ∷ []) s refl)

    go : (a : Answer) → o.answer ≡ a → Unwritten t l s o.reader o.work
        → frame_at (then_fed a o (feed_of o.reader t o.work s)).work l ≡ frame_at w l
    go (Ok None) e rest =
        rest (λ p q h. rw (fed-in-two r t w b p, e) at (all (b ∷ p) q (ap (λ (x : List ℕ). b ∷ x) h))) ∙ first
    go (Ok (Some v)) e rest = first
    go (Err k) e rest = first

close-leaves : (r : Reader) (t : Table) (w : List ℕ) → (close_of r t w).work ≡ w
unfolding close_of closing
close-leaves r t w =
    through-elim (λ (o : Outcome). o.work ≡ w) (gate_of r t w) (λ k _. refl)
    (λ _. cond-elim (λ (o : Outcome). o.work ≡ w) (ltb 0 r.progress.pos) (λ _. refl) (λ _. refl))

-- ---- all that is said of the lent bytes

pub lent : Lent
lent =
    record {
      empty = fed-none;
      piece = fed-in-two;
      byte = byte-writes;
      number = kind-of-number;
      past = λ r t w s. piece-past t r.frames s r w refl;
      unopened = λ r t w s l all. piece-unopened t l s r w all;
      close = close-leaves;
      refused = λ r t w s k e. (unchanged-of-refused r (feed t w s) k e).work;
    }
