-- Where a byte leaves the memory: after each task the memory tracks the state after the machine's act. Assumes nothing.
use Rattle.std.specs.Prelude.{Some}
use mathlib.Core.Bool.{Bool, false}
use mathlib.Core.List.{List}
use mathlib.Core.Path.{◌≡◌, refl, sym, ap, ◌∙◌}
use Prim.Native.Nat.{ℕ, suc, ◌*◌, ◌-◌, ◌≤◌, ◌<◌}
use native.Mathlib.Omega.{arith}
use lib.ListN.{length}
use Rattle.json_text.specs.Machine.{Stack, bare, whole, in_array, in_object, depth, finish, close, Token, fault, at}
use Rattle.json_text.specs.declared.lexer.Awaited.{Awaited}
use Rattle.json_text.specs.declared.lexer.Awaited.TheVariants as P
use Rattle.json_text.specs.declared.lexer.Mode.{Mode}
use Rattle.json_text.specs.declared.lexer.Mode.TheVariants as M
use Rattle.json_text.specs.Proper.{Opened, ProperAt}
use Rattle.whole.specs.declared.Decimal.{Decimal}
use Rattle.table.specs.Table.{Table}
use Rattle.table.specs.declared.kind.Scalar.{Scalar}
use Rattle.table.specs.declared.kind.Finished.TheVariants as Done
use Rattle.table.specs.declared.kind.ValueKind.{ValueKind}
use Rattle.table.specs.declared.kind.ValueKind.TheVariants.{Rule}
use Rattle.book.specs.Entry.{Entry}
use Rattle.runs.specs.Walk.{judging, of_scalar}
use Rattle.meaning.specs.Shows.{Carries, ShowsValue}
use Rattle.meaning.proofs.CloseLaws.{shows-scalar}
use Rattle.verdict.specs.Verdict.{longest}
use Rattle.verdict.specs.declared.Verdict.TheVariants as Is
use Rattle.verdict.specs.Track.{track_to}
use Rattle.verdict.proofs.TrackLaws.{track_to-fault, track_to-deep, track_to-sound}
use Rattle.progress.specs.declared.Fault.TheVariants as F
use Rattle.progress.specs.declared.Progress.{Progress}
use Rattle.laws.specs.Count.{bump}
use Rattle.progress.specs.Progress.{faulted}
use Rattle.progress.specs.Memory.{mem, value_at, rules_at, close_at}
use Rattle.progress.proofs.MemoryLaws.{length-value_at}
use Rattle.follows.specs.Follows.{lex_at, ShowsStack, NoRoot, AnyRoot, ShowsRoot, Shown, follows, Tracks, on_track, off_track}
use Rattle.follows.proofs.StackLaws.{shows-finished, shows-rules-array, shows-rules-object, root-closed}
use Rattle.follows.proofs.MemoryLaws.{one-le-bump, bump-below}

module _ (es : List Entry) where
  -- a finished value leaves the number of open levels
  pub depth-finish : (v : ValueKind → Bool) (k : Stack (judging es)) → depth (judging es) (finish (judging es) v k) ≡ depth (judging es) k
  depth-finish v bare = refl
  depth-finish v (whole w) = refl
  depth-finish v (in_array a k) = refl
  depth-finish v (in_object o k) = refl

  -- where something is open, no root is finished
  pub no_root-of-opened : (root : Bool) (k : Stack (judging es)) → Opened (judging es) k → AnyRoot es root k → NoRoot es root k
  no_root-of-opened root bare o h = absurd o
  no_root-of-opened root (whole v) o h = absurd o
  no_root-of-opened root (in_array S k) o h = h
  no_root-of-opened root (in_object x k) o h = h

  -- a scalar fits no rule
  pub scalar-no-rule : (s : Scalar) → of_scalar s (Rule 0) ≡ false
  unfolding of_scalar
  scalar-no-rule s = refl

module _ (es : List Entry) (n : ℕ) {i : ℕ} where
  -- a byte that brings a fault
  pub lands-malformed : (x : Progress) (root : Bool) (key w : List ℕ) → x.head ≡ false → x.pos ≡ i
      → Tracks es n (mem (faulted x (F.Malformed x.pos)).progress root key w) (track_to es n fault i)
  lands-malformed x root key w h e = rw (track_to-fault es n fault i refl) (off_track {v = Is.Malformed i} h (ap (λ (p : ℕ). Some (F.Malformed p)) e) (one-le-bump x.pos))

  -- a byte that opens one level too many
  pub lands-deep : (x : Progress) (root : Bool) (key w : List ℕ) (m : Mode) (g : Token (judging es)) (k : Stack (judging es)) → x.head ≡ false → x.pos ≡ i
      → n < depth (judging es) k → Tracks es n (mem (faulted x (F.TooDeep x.pos)).progress root key w) (track_to es n (at m g k) i)
  lands-deep x root key w m g k h e l =
      rw (track_to-deep es n (at m g k) i refl l) (off_track {v = Is.TooDeep i} h (ap (λ (p : ℕ). Some (F.TooDeep p)) e) (one-le-bump x.pos))

  -- a byte that is no fault
  pub lands : {m : Mode} {g : Token (judging es)} {k : Stack (judging es)} {level bits high : ℕ} {d : Decimal} {len : ℕ} {root : Bool} {key w : List ℕ} → i < longest
      → level ≡ depth (judging es) k → bits ≡ g.bits → high ≡ g.high → Shown es n m g k (suc i) d len root key w
      → Tracks es n (mem (lex_at m level (bump i) bits high d len) root key w) (track_to es n (at m g k) i)
  lands {m} {g} {k} h e eb eh s = rw (e, eb, eh, bump-below i (omega arith), track_to-sound es n (at m g k) i refl s.room) (on_track (follows s))

module _ {t : Table} {es : List Entry} (kept : Carries t es) (n : ℕ) (few : n ≤ 64) (i : ℕ) (h : i < longest) (d : Decimal) (len : ℕ) (root : Bool) (key : List ℕ)
    (keyLong : length key ≡ 32) (g : Token (judging es)) (level bits high : ℕ) (eb : bits ≡ g.bits) (eh : high ≡ g.high) (w : List ℕ)
    (long : 96 * n ≤ length w) where
  -- a scalar is finished
  pub lands-finished : (k : Stack (judging es)) → level ≡ depth (judging es) k → depth (judging es) k ≤ n → ShowsStack es w k → (s : Scalar) (p : Awaited)
      → ProperAt (judging es) (M.At p) (finish (judging es) (of_scalar s) k) → ShowsRoot es (M.At p) root (finish (judging es) (of_scalar s) k)
      → Tracks es n (mem (lex_at (M.At p) level (bump i) bits high d len) root key (value_at t w level (Done.Scalar s)))
      (track_to es n (at (M.At p) g (finish (judging es) (of_scalar s) k)) i)
  lands-finished k e room stack s p y r =
      lands es n h (e ∙ sym (depth-finish es (of_scalar s) k)) eb eh
      record {
        short = h;
        room = rw (depth-finish es (of_scalar s) k) room;
        long = rw (length-value_at t w level (Done.Scalar s)) long;
        key_long = keyLong;
        proper = y;
        stack = rw e (shows-finished kept n few w long (Done.Scalar s) (of_scalar s) (shows-scalar s) k room stack);
        root_shown = r;
        text = tt;
        number = tt;
      }

  -- a closed value joins what it stands in
  lands-joined : (k : Stack (judging es)) → depth (judging es) k ≤ n → ShowsStack es w k → (v : ValueKind → Bool)
      → ShowsValue (Done.Rules (rules_at t w (suc (depth (judging es) k)))) v → NoRoot es root k
      → ProperAt (judging es) (M.At P.After) (finish (judging es) v k)
      → Tracks es n (close_at t (lex_at (M.At P.After) (suc (depth (judging es) k) - 1) (bump i) bits high d len) root key w (suc (depth (judging es) k)))
      (track_to es n (at (M.At P.After) g (finish (judging es) v k)) i)
  unfolding close_at
  lands-joined k room stack v s r y =
      let below : suc (depth (judging es) k) - 1 ≡ depth (judging es) k = omega arith in
      lands es n h (below ∙ sym (depth-finish es v k)) eb eh
      record {
        short = h;
        room = rw (depth-finish es v k) room;
        long = rw (length-value_at t w (suc (depth (judging es) k) - 1) (Done.Rules (rules_at t w (suc (depth (judging es) k))))) long;
        key_long = keyLong;
        proper = y;
        stack = rw below (shows-finished kept n few w long (Done.Rules (rules_at t w (suc (depth (judging es) k)))) v s k room stack);
        root_shown = root-closed es root (rules_at t w (suc (depth (judging es) k))) v s k r;
        text = tt;
        number = tt;
      }

  -- the innermost open value is closed
  pub lands-closed : (k : Stack (judging es)) → level ≡ depth (judging es) k → depth (judging es) k ≤ n → ShowsStack es w k → NoRoot es root k
      → Opened (judging es) k → ProperAt (judging es) (M.At P.After) (close (judging es) k)
      → Tracks es n (close_at t (lex_at (M.At P.After) (level - 1) (bump i) bits high d len) root key w level)
      (track_to es n (at (M.At P.After) g (close (judging es) k)) i)
  lands-closed bare e room stack r o y = absurd o
  lands-closed (whole v) e room stack r o y = absurd o
  lands-closed (in_array S k) e room stack r o y =
      rw e (lands-joined k (omega arith) stack.1 ((judging es).of_array S) (shows-rules-array kept n few w long S k stack) r y)
  lands-closed (in_object x k) e room stack r o y =
      rw e (lands-joined k (omega arith) stack.1 ((judging es).of_object x) (shows-rules-object kept n few w long x k stack) r y)
