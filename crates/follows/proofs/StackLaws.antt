-- The frames of a buffer show the machine's stack: what the innermost frame is, and what each task leaves. Work at one level leaves the frames of
-- the other levels. Assumes nothing.
use mathlib.Core.Bool.{Bool, false, cond}
use mathlib.Core.List.{List}
use mathlib.Core.Path.{◌≡◌, refl, sym, ◌∙◌}
use Prim.Native.Nat.{ℕ, suc, ◌*◌, ◌≤◌, ◌<◌}
use native.Mathlib.Omega.{arith}
use lib.Dec.{eqb, lit<}
use lib.ListN.{length}
use borrow.Author.Tests.{ne_eqb}
use Rattle.json_text.specs.Machine.{Stack, bare, whole, in_array, in_object, top_of, depth, finish}
use Rattle.table.specs.Kind.{code_of, rule_fits}
use Rattle.table.specs.Table.{Table}
use Rattle.table.specs.declared.kind.Form.TheVariants.{Object, Array}
use Rattle.table.specs.declared.kind.Finished.{Finished}
use Rattle.table.specs.declared.kind.Finished.TheVariants as Done
use Rattle.table.specs.declared.kind.ValueKind.{ValueKind}
use Rattle.table.specs.declared.kind.ValueKind.TheVariants.{Rule}
use Rattle.book.specs.Entry.{arr, Entry}
use Rattle.runs.specs.Walk.{judging, States, OpenObject, start_of, at_opening, after_key}
use Rattle.frame.specs.Frame.{frame_at, put_frame}
use Rattle.frame.specs.Ops.{opened, keyed}
use Rattle.frame.proofs.LevelLaws.{has_frame-of-le, frame_at-put_frame, frame_at-put_frame-other}
use Rattle.meaning.specs.Shows.{Carries, ShowsValue, ShowsArray, ShowsObject, ShowsKey}
use Rattle.meaning.proofs.OpenLaws.{shows-open-array, shows-open-object, shows-key}
use Rattle.meaning.proofs.ValueLaws.{shows-pair, shows-element}
use Rattle.meaning.proofs.CloseLaws.{shows-array, shows-object}
use Rattle.progress.specs.Memory.{top_at, value_at, rules_at}
use Rattle.follows.specs.Follows.{ShowsStack, NoRoot, AnyRoot}

-- the kind of the innermost open value is that of its frame
pub top_at-shows : (es : List Entry) (w : List ℕ) (k : Stack (judging es)) → ShowsStack es w k → top_at w (depth (judging es) k) ≡ top_of (judging es) k
unfolding top_at
top_at-shows es w bare h = refl
top_at-shows es w (whole v) h = refl
top_at-shows es w (in_array S k) h = rw (ne_eqb (suc (depth (judging es) k)) 0 (λ e. omega arith), h.0.array)
top_at-shows es w (in_object o k) h = rw (ne_eqb (suc (depth (judging es) k)) 0 (λ e. omega arith), h.0.object)

-- a frame that is put at a level leaves those of the levels below
shows-below : (es : List Entry) (w f : List ℕ) (l : ℕ) (k : Stack (judging es)) → length f ≡ 96 → depth (judging es) k < l → ShowsStack es w k
    → ShowsStack es (put_frame w l f) k
shows-below es w f l bare long d h = tt
shows-below es w f l (whole v) long d h = tt
shows-below es w f l (in_array S k) long d h =
    (rw (frame_at-put_frame-other w f l long (suc (depth (judging es) k)) (λ e. omega arith)) h.0, shows-below es w f l k long (omega arith) h.1)
shows-below es w f l (in_object o k) long d h =
    (rw (frame_at-put_frame-other w f l long (suc (depth (judging es) k)) (λ e. omega arith)) h.0, shows-below es w f l k long (omega arith) h.1)

module _ {t : Table} {es : List Entry} (kept : Carries t es) (n : ℕ) (few : n ≤ 64) (w : List ℕ) (long : 96 * n ≤ length w) where
  -- a frame that is put at the level above a stack stands there, and leaves the stack
  shows-put : (f : List ℕ) (k : Stack (judging es)) → depth (judging es) k < n → ShowsStack es w k → length f ≡ 96
      → (frame_at (put_frame w (suc (depth (judging es) k)) f) (suc (depth (judging es) k)) ≡ f) × ShowsStack es (put_frame w (suc (depth (judging es) k)) f) k
  shows-put f k d h l = (
    frame_at-put_frame w f (suc (depth (judging es) k)) l (has_frame-of-le n (length w) (suc (depth (judging es) k)) few long (omega arith) (omega arith)),
    shows-below es w f (suc (depth (judging es) k)) k l (omega arith) h,
  )

  shows-put-array : (f : List ℕ) {S : States} (k : Stack (judging es)) → depth (judging es) k < n → ShowsStack es w k → ShowsArray f S
      → ShowsStack es (put_frame w (suc (depth (judging es) k)) f) (in_array S k)
  shows-put-array f k d h a = let p = shows-put f k d h a.long in (rw p.0 a, p.1)

  shows-put-object : (f : List ℕ) {o : OpenObject} (k : Stack (judging es)) → depth (judging es) k < n → ShowsStack es w k → ShowsObject es f o
      → ShowsStack es (put_frame w (suc (depth (judging es) k)) f) (in_object o k)
  shows-put-object f k d h a = let p = shows-put f k d h a.long in (rw p.0 a, p.1)

  -- an array or object is opened
  pub shows-opened-array : (k : Stack (judging es)) → depth (judging es) k < n → ShowsStack es w k
      → ShowsStack es (put_frame w (suc (depth (judging es) k)) (opened t.forms Array)) (in_array (start_of es arr) k)
  shows-opened-array k d h = shows-put-array (opened t.forms Array) k d h (shows-open-array kept)

  pub shows-opened-object : (k : Stack (judging es)) → depth (judging es) k < n → ShowsStack es w k
      → ShowsStack es (put_frame w (suc (depth (judging es) k)) (opened t.forms Object)) (in_object (at_opening es) k)
  shows-opened-object k d h = shows-put-object (opened t.forms Object) k d h (shows-open-object kept)

  -- a key of the innermost object is finished
  pub shows-named : (o : OpenObject) (k : Stack (judging es)) (s : List ℕ) (c : ℕ) → depth (judging es) k < n → ShowsStack es w (in_object o k)
      → ShowsKey es s c
      → ShowsStack es (put_frame w (suc (depth (judging es) k)) (keyed c (frame_at w (suc (depth (judging es) k))))) (in_object (after_key es o s) k)
  shows-named o k s c d h y =
      shows-put-object (keyed c (frame_at w (suc (depth (judging es) k)))) k d h.1 (shows-key kept h.0 y)

  -- a finished value joins what it stands in
  pub shows-finished : (v : Finished) (u : ValueKind → Bool) → ShowsValue v u → (k : Stack (judging es)) → depth (judging es) k ≤ n → ShowsStack es w k
      → ShowsStack es (value_at t w (depth (judging es) k) v) (finish (judging es) u k)
  unfolding value_at
  shows-finished v u s bare d h = tt
  shows-finished v u s (whole x) d h = tt
  shows-finished v u s (in_array S k) d h = shows-put-array _ k d h.1 (shows-element kept h.0 s)
  shows-finished v u s (in_object o k) d h = shows-put-object _ k d h.1 (shows-pair kept h.0 s)

  -- the rules that the value of the innermost level fits
  pub shows-rules-array : (S : States) (k : Stack (judging es)) → ShowsStack es w (in_array S k)
      → ShowsValue (Done.Rules (rules_at t w (suc (depth (judging es) k)))) ((judging es).of_array S)
  unfolding rules_at
  shows-rules-array S k h = shows-array kept h.0

  pub shows-rules-object : (o : OpenObject) (k : Stack (judging es)) → ShowsStack es w (in_object o k)
      → ShowsValue (Done.Rules (rules_at t w (suc (depth (judging es) k)))) ((judging es).of_object o)
  unfolding rules_at
  shows-rules-object o k h = shows-object kept h.0

-- ---- the root

module _ (es : List Entry) where
  -- what holds of a root that is not finished holds after a value too
  pub any_root-of-no_root : (root : Bool) (k : Stack (judging es)) → NoRoot es root k → AnyRoot es root k
  any_root-of-no_root root bare h = h
  any_root-of-no_root root (whole v) h = absurd h
  any_root-of-no_root root (in_array S k) h = h
  any_root-of-no_root root (in_object o k) h = h

  -- a finished value that does not fit rule 0 leaves the root
  pub root-finished : (root : Bool) (u : ValueKind → Bool) → u (Rule 0) ≡ false → (k : Stack (judging es)) → NoRoot es root k
      → AnyRoot es root (finish (judging es) u k)
  root-finished root u e bare h = h ∙ sym e
  root-finished root u e (whole v) h = absurd h
  root-finished root u e (in_array S k) h = h
  root-finished root u e (in_object o k) h = h

  -- a closed value at level 1 is the root
  pub root-closed : (root : Bool) (rules : ℕ) (u : ValueKind → Bool) → ShowsValue (Done.Rules rules) u → (k : Stack (judging es)) → NoRoot es root k
      → AnyRoot es (cond (eqb (suc (depth (judging es) k)) 1) (rule_fits rules 0) root) (finish (judging es) u k)
  unfolding code_of
  root-closed root rules u s bare h = s (Rule 0) (lit< tt)
  root-closed root rules u s (whole v) h = absurd h
  root-closed root rules u s (in_array S k) h = rw (ne_eqb (suc (suc (depth (judging es) k))) 1 (λ e. omega arith)) h
  root-closed root rules u s (in_object o k) h = rw (ne_eqb (suc (suc (depth (judging es) k))) 1 (λ e. omega arith)) h
