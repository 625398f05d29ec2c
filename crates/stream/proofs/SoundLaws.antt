-- What a sound byte writes, by how the level moves; and that a record without a fault is not judged to have one. Assumes nothing.
use Rattle.std.specs.Prelude.{Option, Some, None}
use mathlib.Core.Bool.{Bool, true, false, cond}
use mathlib.Core.List.{List}
use mathlib.Core.Path.{◌≡◌, refl, sym, ap, subst, ◌∙◌}
use Prim.Native.Nat.{ℕ, ◌+◌, ◌-◌, ◌≤◌}
use native.Mathlib.Omega.{arith}
use lib.Dec.{eqb, ltb}
use lib.ListN.{length}
use Rattle.laws.proofs.TestLaws.{cond-elim}
use Rattle.json_text.specs.Lexer.{string_move, word_move, may_end, key_step, text_step, word_step, step_of}
use Rattle.json_text.specs.declared.string.StringMode.{StringMode}
use Rattle.json_text.specs.declared.word.Word.{Word}
use Rattle.json_text.specs.declared.word.Word.TheVariants as W
use Rattle.json_text.specs.declared.lexer.Awaited.TheVariants as P
use Rattle.json_text.specs.declared.lexer.Mode.{Mode}
use Rattle.json_text.specs.declared.lexer.Mode.TheVariants as M
use Rattle.json_text.specs.declared.lexer.Step.{Step}
use Rattle.table.specs.Table.{Table}
use Rattle.table.specs.declared.kind.Scalar.{Scalar}
use Rattle.table.specs.declared.kind.Scalar.TheVariants as K
use Rattle.table.specs.declared.kind.Finished.TheVariants as Done
use Rattle.frame.specs.Frame.{has_frame, put_frame}
use Rattle.frame.specs.Ops.{opened}
use Rattle.frame.proofs.LevelLaws.{has_frame-of-le}
use Rattle.verdict.specs.declared.Verdict.{Verdict}
use Rattle.verdict.specs.declared.Verdict.TheVariants as Is
use Rattle.progress.specs.declared.Fault.{Fault}
use Rattle.progress.specs.declared.Fault.TheVariants as F
use Rattle.progress.specs.declared.Progress.{Progress}
use Rattle.progress.specs.declared.Task.{Task}
use Rattle.progress.specs.Progress.{whole_number, whole_in, whole, verdict_by, judged}
use Rattle.progress.specs.Memory.{top_at, value_at, perform}
use Rattle.progress.specs.Act.{scalar_of}
use Rattle.progress.proofs.ActLaws.{level_after-le}
use Rattle.reader.specs.declared.Reader.{Reader}
use Rattle.reader.specs.Machine.{Outcome, memory_of, closing, close_of}
use Rattle.reader.specs.Refusals.{let_in, within_reader}
use Rattle.reader.proofs.RefusalLaws.{room-of-call, through-elim}
use Rattle.stream.specs.Lent.{Outside, Spares, with_value, with_key, rules_of, level_of, mode_of, is_in_token, word_kind, is_faulty, says_faulty, faulty_in, form_opened, byte_fed}
use Rattle.stream.proofs.LexerLaws.{Tells, tells-step_of, placed-step_of, key_ended, text-ended, word-ended}
use Rattle.stream.proofs.FedLaws.{gate_of, bounds-of-open, step_at, moved_by, task_by, IsSound, progress-fed, work-fed}
use Rattle.stream.proofs.TaskLaws.{Told, told-of-act, no_finish-of-between, opens-of-task, closes-of-task, between-of-task}
use Rattle.stream.proofs.SpareLaws.{spares-fewer, spares-perform, beyond-of-three}

-- ---- a record without a fault, out of the head

-- a record without a fault, out of the head, has no verdict for a fault
whole-not-faulty : (x : Progress) (root : Bool) → is_faulty (whole x root) ≡ false
unfolding whole whole_number
whole-not-faulty x root = cond-elim (λ (v : Verdict). is_faulty v ≡ false) (eqb x.level 0) (λ _. go x.mode) (λ _. refl)
  where
    go : (m : Mode) → is_faulty (whole_in m x.pos root) ≡ false
    go (M.At P.Value) = refl
    go (M.At P.First) = refl
    go (M.At P.Key) = refl
    go (M.At P.Colon) = refl
    go (M.At P.After) = cond-elim (λ (v : Verdict). is_faulty v ≡ false) root (λ _. refl) (λ _. refl)
    go (M.Key s) = refl
    go (M.Text s) = refl
    go (M.Number n) = cond-elim (λ (v : Verdict). is_faulty v ≡ false) (may_end n) (λ _. refl) (λ _. refl)
    go (M.Word v i) = refl

judged-not-faulty : (x : Progress) (root : Bool) → x.head ≡ false → x.fault ≡ None → is_faulty (judged x root) ≡ false
unfolding judged
judged-not-faulty x root h f =
    subst (λ (v : Bool). is_faulty (cond v Is.Head (verdict_by x.fault x root)) ≡ false) (sym h)
    (subst (λ (v : Option Fault). is_faulty (verdict_by v x root) ≡ false) (sym f) (whole-not-faulty x root))

-- a close tells of no fault where the record has none and is not the head
pub not-faulty : (r : Reader) (t : Table) (w : List ℕ) → r.progress.head ≡ false → r.progress.fault ≡ None → faulty_in r t w ≡ false
unfolding close_of closing
not-faulty r t w h f =
    through-elim (λ (o : Outcome). says_faulty o.answer ≡ false) (gate_of r t w) (λ k _. refl)
    (λ _. cond-elim (λ (o : Outcome). says_faulty o.answer ≡ false) (ltb 0 r.progress.pos)
    (λ _. judged-not-faulty r.progress r.root h f) (λ _. refl))

-- a close tells of the fault of a malformed record of which a byte is read
pub faulty-of-malformed : (r : Reader) (t : Table) (w : List ℕ) {p : ℕ} → gate_of r t w ≡ let_in → ltb 0 r.progress.pos ≡ true → r.progress.head ≡ false
    → r.progress.fault ≡ Some (F.Malformed p) → faulty_in r t w ≡ true
unfolding close_of closing judged
faulty-of-malformed r t w g p h f = rw (g, p, h, f)

-- ---- a sound byte

-- the kind of a word
word_kind-is : (v : Word) → word_kind v ≡ scalar_of v
word_kind-is W.Null = refl
word_kind-is W.True = refl
word_kind-is W.False = refl

module _ (r : Reader) (t : Table) (w : List ℕ) (b : ℕ) (s : IsSound r t w b) where
  abbrev o : Outcome
  o = byte_fed r t w b

  abbrev step : Step
  step = step_at r w b

  abbrev next : Progress
  next = moved_by r b step

  abbrev task : Task
  task = task_by r b step

  level-fed : level_of o.reader ≡ next.level
  level-fed = ap (λ (x : Progress). x.level) (progress-fed r t w b s)

  tells : Tells b step
  tells = tells-step_of b (mode_of r) (top_at w (level_of r))

  told : Told task b (level_of r) next.level step.ends
  told = told-of-act b (level_of r) r.frames r.progress.pos r.progress.number r.progress.len _ step.act step.ends s.first tells.opens

  -- there is a frame for each level that is open after a sound byte
  pub level-le : level_of o.reader ≤ r.frames
  level-le = rw level-fed (level_after-le step.act (level_of r) r.frames (bounds-of-open r t w s.gate).2)

  pub frame-of-level : (l : ℕ) → level_of o.reader ≡ l → 1 ≤ l → has_frame (length w) l ≡ true
  frame-of-level l q h =
      let g = bounds-of-open r t w s.gate in
      has_frame-of-le r.frames (length w) l g.1 (room-of-call (within_reader r) r.frames t (length w) s.gate) h (rw q at level-le)

  -- a sound byte that opens a level writes all bytes of its frame
  pub sound-opens : level_of o.reader ≡ level_of r + 1 → o.work ≡ put_frame w (level_of r + 1) (opened t.forms (form_opened b))
  sound-opens q = work-fed r t w b s ∙ opens-of-task t (memory_of r w) next b step.ends task told (sym level-fed ∙ q)

  -- a sound byte that closes a value finishes it in the value that it stands in
  pub sound-closes : is_in_token (mode_of r) ≡ false → level_of r ≡ level_of o.reader + 1
      → o.work ≡ with_value t w (level_of o.reader) (Done.Rules (rules_of t w (level_of r)))
  sound-closes m q =
      let below : level_of r - 1 ≡ level_of o.reader = omega arith in
      let f : step.ends ≡ false = (placed-step_of b (mode_of r) (top_at w (level_of r)) m).ends in
      work-fed r t w b s
      ∙ closes-of-task t (memory_of r w) next b step.ends task told f (q ∙ ap (λ (x : ℕ). x + 1) level-fed)
      ∙ ap (λ (x : ℕ). with_value t w x (Done.Rules (rules_of t w (level_of r)))) below

  -- a sound byte between tokens that neither opens nor closes a level writes nothing
  pub sound-between : is_in_token (mode_of r) ≡ false → level_of o.reader ≡ level_of r → o.work ≡ w
  sound-between m q =
      let p = placed-step_of b (mode_of r) (top_at w (level_of r)) m in
      let n = no_finish-of-between step.act step.ends r.progress.number r.progress.len _ p.between p.ends in
      work-fed r t w b s ∙ between-of-task t (memory_of r w) next b step.ends task n told p.ends (sym level-fed ∙ q)

  mode-fed : is_in_token step.mode ≡ is_in_token (mode_of o.reader)
  mode-fed = ap (λ (x : Progress). is_in_token x.mode) (sym (progress-fed r t w b s))

  -- a sound byte after which a token is open writes nothing
  pub sound-in-token : is_in_token (mode_of o.reader) ≡ true → o.work ≡ w
  sound-in-token e =
      work-fed r t w b s ∙ (rw (mode-fed ∙ e) at tells.leaves) r.progress.number r.progress.len _ t (memory_of r w) next

  -- a sound byte that ends a key, a string or a word finishes it
  module _ (e : is_in_token (mode_of o.reader) ≡ false) where
    work-of-step : (st : Step) → step ≡ st → o.work ≡ (perform (task_by r b st) t (memory_of r w) (moved_by r b st)).work
    work-of-step st q = work-fed r t w b s ∙ ap (λ (x : Step). (perform (task_by r b x) t (memory_of r w) (moved_by r b x)).work) q

    pub sound-ends-key : (v : StringMode) → mode_of r ≡ M.Key v → o.work ≡ with_key t w (level_of r) r.key r.progress.len
    sound-ends-key v m =
        let q : step ≡ key_step (string_move v b) = ap (λ (x : Mode). step_of x (top_at w (level_of r)) b) m in
        work-of-step _ (q ∙ key_ended (string_move v b) (level_of r) r.frames r.progress.pos (rw q at s.first) (rw q at (mode-fed ∙ e)))

    pub sound-ends-string : (v : StringMode) → mode_of r ≡ M.Text v → o.work ≡ with_value t w (level_of r) (Done.Scalar K.Str)
    unfolding value_at
    sound-ends-string v m =
        let q : step ≡ text_step (string_move v b) = ap (λ (x : Mode). step_of x (top_at w (level_of r)) b) m in
        work-of-step _ (q ∙ text-ended (string_move v b) (level_of r) r.frames r.progress.pos (rw q at s.first) (rw q at (mode-fed ∙ e)))

    pub sound-ends-word : (v : Word) (i : ℕ) → mode_of r ≡ M.Word v i → o.work ≡ with_value t w (level_of r) (Done.Scalar (word_kind v))
    unfolding value_at
    sound-ends-word v i m =
        let q : step ≡ word_step (word_move v i b) v i = ap (λ (x : Mode). step_of x (top_at w (level_of r)) b) m in
        work-of-step _ (q ∙ word-ended (word_move v i b) v i (level_of r) r.frames r.progress.pos (rw q at s.first) (rw q at (mode-fed ∙ e)))
        ∙ ap (λ (x : Scalar). with_value t w (level_of r) (Done.Scalar x)) (sym (word_kind-is v))

  -- the record has no fault after a sound byte
  pub sound-not-faulty : faulty_in o.reader t o.work ≡ false
  sound-not-faulty =
      let h : o.reader.progress.head ≡ false = ap (λ (x : Progress). x.head) (progress-fed r t w b s) ∙ s.head in
      let f : o.reader.progress.fault ≡ None = ap (λ (x : Progress). x.fault) (progress-fed r t w b s) ∙ s.fault in
      not-faulty o.reader t o.work h f

  -- nothing outside the three frames
  pub sound-reaches : Spares (λ i. Outside (level_of r) i × Outside (level_of r - 1) i × Outside (level_of o.reader) i) w o.work
  sound-reaches =
      rw (work-fed r t w b s, level-fed)
      (spares-fewer (λ i p. beyond-of-three task (level_of r) next.level i p) (spares-perform task t (memory_of r w) next))
