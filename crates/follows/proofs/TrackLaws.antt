-- The memory of a reader tracks the machine: one byte, and the verdict where the part ends here. Assumes nothing.
use mathlib.Core.Bool.{Bool, true, false, cond}
use mathlib.Core.List.{List, []}
use mathlib.Core.Option.{none, some}
use mathlib.Core.Path.{◌≡◌, refl}
use Prim.Native.Nat.{ℕ, suc, ◌*◌, ◌≤◌}
use native.Mathlib.Omega.{arith}
use lib.Dec.{eqb}
use lib.ListN.{length, replicate}
use borrow.Author.Tests.{ne_eqb}
use Rattle.laws.proofs.TestLaws.{cond-elim}
use Rattle.json_text.specs.Lexer.{may_end}
use Rattle.json_text.specs.Machine.{Stack, bare, whole, in_array, in_object, top_of, depth, Token, State, at, result}
use Rattle.json_text.specs.declared.number.NumberMode.{NumberMode}
use Rattle.json_text.specs.declared.lexer.Awaited.TheVariants as P
use Rattle.json_text.specs.declared.lexer.Mode.{Mode}
use Rattle.json_text.specs.declared.lexer.Mode.TheVariants as M
use Rattle.json_text.specs.Proper.{Begun, ProperAt}
use Rattle.whole.specs.Fresh.{fresh}
use Rattle.whole.specs.Read.{unread, reads_whole}
use Rattle.table.specs.Table.{Table}
use Rattle.table.specs.declared.kind.Scalar.TheVariants as K
use Rattle.book.specs.Entry.{Entry}
use Rattle.runs.specs.Walk.{judging, of_scalar}
use Rattle.meaning.specs.Shows.{Carries}
use Rattle.verdict.specs.declared.Verdict.{Verdict}
use Rattle.verdict.specs.declared.Verdict.TheVariants as Is
use Rattle.verdict.specs.Track.{Track, sound, stopped, track_byte, track_start, verdict_of, track_end}
use Rattle.progress.specs.Progress.{advanced, whole_number, whole_in, whole as wholeBy, judged}
use Rattle.progress.specs.Memory.{Mem, mem, fresh_mem, top_at, step_mem}
use Rattle.follows.specs.Follows.{PlainKeys, NoRoot, AnyRoot, ShowsRoot, Shown, Follows, follows, Tracks, on_track, off_track}
use Rattle.follows.proofs.StackLaws.{top_at-shows}
use Rattle.follows.proofs.MemoryLaws.{one-le-bump}
use Rattle.follows.proofs.StepLaws.{follows-step}

-- ---- what a memory that follows a state tells

-- the kind of the innermost open value
pub top_at-follows : (es : List Entry) (n : ℕ) (x : Mem) (m : Mode) (g : Token (judging es)) (k : Stack (judging es)) (i : ℕ) → Follows es n x (at m g k) i
    → top_at x.work x.progress.level ≡ top_of (judging es) k
top_at-follows es n x m g k i (follows {w} s) = top_at-shows es w k s.stack

-- the number of bytes
pub pos-follows : (es : List Entry) (n : ℕ) (x : Mem) (q : State (judging es)) (i : ℕ) → Follows es n x q i → x.progress.pos ≡ i
pos-follows es n x q i (follows s) = refl

-- ---- one byte

-- a memory that is stopped stays so, whatever the table, the number of frames and the buffer
pub stopped-step : (t : Table) (es : List Entry) (n n' : ℕ) (m : Mem) (v : Verdict) (b : ℕ) → eqb b 0x1E ≡ false → Tracks es n m (stopped v)
    → Tracks es n (step_mem t n' m b) (stopped v)
unfolding step_mem advanced
stopped-step t es n n' m Is.Valid b e (off_track h f p) = absurd f
stopped-step t es n n' m Is.Invalid b e (off_track h f p) = absurd f
stopped-step t es n n' m (Is.Malformed i) b e (off_track h f p) =
    rw (e, h, f) (off_track {v = Is.Malformed i} refl refl (one-le-bump m.progress.pos))
stopped-step t es n n' m (Is.TooDeep i) b e (off_track h f p) =
    rw (e, h, f) (off_track {v = Is.TooDeep i} refl refl (one-le-bump m.progress.pos))
stopped-step t es n n' m Is.TooLong b e (off_track h f p) = rw (e, h, f) (off_track {v = Is.TooLong} refl refl (one-le-bump m.progress.pos))
stopped-step t es n n' m (Is.Unfinished i) b e (off_track h f p) = absurd f
stopped-step t es n n' m Is.Head b e (off_track h f p) = absurd f

-- a memory that keeps a stopped track keeps it with any root, key and buffer
pub stopped-anywhere : (es : List Entry) (n : ℕ) (m : Mem) (v : Verdict) → Tracks es n m (stopped v) → (root : Bool) (key w : List ℕ)
    → Tracks es n (mem m.progress root key w) (stopped v)
stopped-anywhere es n m v (off_track h f p) root key w = off_track h f p

-- a memory that keeps a track keeps it at each byte but RS
pub tracks-step : {t : Table} {es : List Entry} → Carries t es → PlainKeys es → (n : ℕ) → n ≤ 64 → (m : Mem) (s : Track es) (b : ℕ) → eqb b 0x1E ≡ false
    → Tracks es n m s → Tracks es n (step_mem t n m b) (track_byte es n s b)
unfolding track_byte
tracks-step kept plain n few m (sound q i) b e (on_track f) = follows-step kept plain n few b e f
tracks-step {t} {es} kept plain n few m (stopped v) b e r = stopped-step t es n n m v b e r

-- ---- nothing is read

-- the memory of a fresh record keeps the track from its start
pub tracks-start : (es : List Entry) (n : ℕ) (w : List ℕ) → 96 * n ≤ length w → Tracks es n (fresh_mem false w) (track_start es)
tracks-start es n w long = on_track (follows shown)
  where
    shown : Shown es n (M.At P.Value) (record { bits = 0; high = 0; string = []; number = unread }) bare 0 fresh 0 false (replicate 32 0) w
    shown = record {
      short = omega arith;
      room = omega arith;
      long = long;
      key_long = refl;
      proper = tt;
      stack = tt;
      root_shown = refl;
      text = tt;
      number = tt;
    }

-- ---- the part ends here

module _ (es : List Entry) (i : ℕ) where
  -- inside a value, or before one, the part is unfinished
  unfinished : (d : ℕ) → cond (eqb d 0) (Is.Unfinished i) (Is.Unfinished i) ≡ Is.Unfinished i
  unfinished d = cond-elim (λ (v : Verdict). v ≡ Is.Unfinished i) (eqb d 0) (λ _. refl) (λ _. refl)

  unfinished-number : (v : Bool) → Is.Unfinished i ≡ verdict_of es (cond v none none) i
  unfolding verdict_of
  unfinished-number true = refl
  unfinished-number false = refl

  -- a scalar at the root is invalid, where it is finished
  whole-number : (x : NumberMode) (g : Token (judging es)) (k : Stack (judging es)) (root : Bool) → NoRoot es root k
      → cond (eqb (depth (judging es) k) 0) (whole_number x i) (Is.Unfinished i) ≡ verdict_of es (result (judging es) (at (M.Number x) g k)) i
  unfolding whole_number verdict_of of_scalar
  whole-number x g bare root r = go (may_end x)
    where
      go : (v : Bool) → cond v Is.Invalid (Is.Unfinished i) ≡ verdict_of es (cond v (some (of_scalar (cond (reads_whole g.number) K.Int K.Num))) none) i
      go true = refl
      go false = refl
  whole-number x g (whole v) root r = absurd r
  whole-number x g (in_array S k) root r = rw (ne_eqb (suc (depth (judging es) k)) 0 (λ e. omega arith)) (unfinished-number (may_end x))
  whole-number x g (in_object o k) root r = rw (ne_eqb (suc (depth (judging es) k)) 0 (λ e. omega arith)) (unfinished-number (may_end x))

  -- after a value with nothing open the root decides
  whole-after : (g : Token (judging es)) (k : Stack (judging es)) (root : Bool) → Begun (judging es) k → AnyRoot es root k
      → cond (eqb (depth (judging es) k) 0) (cond root Is.Valid Is.Invalid) (Is.Unfinished i) ≡ verdict_of es (result (judging es) (at (M.At P.After) g k)) i
  unfolding verdict_of
  whole-after g bare root p r = absurd p
  whole-after g (whole v) root p r = rw r
  whole-after g (in_array S k) root p r = rw (ne_eqb (suc (depth (judging es) k)) 0 (λ e. omega arith))
  whole-after g (in_object o k) root p r = rw (ne_eqb (suc (depth (judging es) k)) 0 (λ e. omega arith))

  whole-shown : (m : Mode) (g : Token (judging es)) (k : Stack (judging es)) (root : Bool) → ProperAt (judging es) m k → ShowsRoot es m root k
      → cond (eqb (depth (judging es) k) 0) (whole_in m i root) (Is.Unfinished i) ≡ verdict_of es (result (judging es) (at m g k)) i
  unfolding verdict_of
  whole-shown (M.At P.Value) g k root p r = unfinished (depth (judging es) k)
  whole-shown (M.At P.First) g k root p r = unfinished (depth (judging es) k)
  whole-shown (M.At P.Key) g k root p r = unfinished (depth (judging es) k)
  whole-shown (M.At P.Colon) g k root p r = unfinished (depth (judging es) k)
  whole-shown (M.At P.After) g k root p r = whole-after g k root p r
  whole-shown (M.Key x) g k root p r = unfinished (depth (judging es) k)
  whole-shown (M.Text x) g k root p r = unfinished (depth (judging es) k)
  whole-shown (M.Number x) g k root p r = whole-number x g k root r
  whole-shown (M.Word x j) g k root p r = unfinished (depth (judging es) k)

-- the verdict of a memory is that of the track which it keeps
pub tracks-judged : {es : List Entry} {n : ℕ} (m : Mem) (s : Track es) → Tracks es n m s → judged m.progress m.root ≡ track_end es s
unfolding judged wholeBy track_end
tracks-judged {es} m s (on_track (follows {m = x} {g} {k} {i} {root} y)) = whole-shown es i x g k root y.proper y.root_shown
tracks-judged m (stopped Is.Valid) (off_track h f p) = absurd f
tracks-judged m (stopped Is.Invalid) (off_track h f p) = absurd f
tracks-judged m (stopped (Is.Malformed i)) (off_track h f p) = rw (h, f)
tracks-judged m (stopped (Is.TooDeep i)) (off_track h f p) = rw (h, f)
tracks-judged m (stopped Is.TooLong) (off_track h f p) = rw (h, f)
tracks-judged m (stopped (Is.Unfinished i)) (off_track h f p) = absurd f
tracks-judged m (stopped Is.Head) (off_track h f p) = absurd f
