-- One byte: the memory that follows a state tracks what the machine makes of the byte, mode by mode. Assumes nothing.
use mathlib.Core.Bool.{Bool, true, false, cond}
use mathlib.Core.List.{List, [], ◌∷◌, ◌++◌}
use mathlib.Core.Path.{◌≡◌, refl, sym, ◌∙◌}
use Prim.Native.Nat.{ℕ, suc, ◌+◌, ◌≤◌, ◌<◌}
use native.Mathlib.Numerals.{add-one}
use native.Mathlib.Omega.{arith}
use lib.Dec.{eqb, ltb}
use lib.ListN.{length, length-set}
use borrow.Author.Tests.{ltb-false, ltb-true}
use Rattle.laws.proofs.TestLaws.{cond-elim}
use Rattle.json_text.specs.Bytes.{is_blank}
use Rattle.json_text.specs.Lexer.{char_of, string_move, number_move, may_end, word_move, value_start, at_value, at_first_element, at_first_key, at_first, at_key, at_colon, after_value, key_step, text_step, number_step, word_step, step_of, step_to, stay, ended_before}
use Rattle.json_text.specs.Machine.{Stack, bare, whole, in_array, in_object, top_of, depth, finish, name, Token, State, at, gather, char_in, with_string, with_number, take, step}
use Rattle.json_text.specs.declared.string.StringMode.{StringMode}
use Rattle.json_text.specs.declared.string.StringMode.TheVariants as S
use Rattle.json_text.specs.declared.string.StringMove.{StringMove}
use Rattle.json_text.specs.declared.string.StringMove.TheVariants as SM
use Rattle.json_text.specs.declared.number.NumberMode.{NumberMode}
use Rattle.json_text.specs.declared.number.NumberMove.{NumberMove}
use Rattle.json_text.specs.declared.word.Word.{Word}
use Rattle.json_text.specs.declared.word.Word.TheVariants as W
use Rattle.json_text.specs.declared.word.WordMove.{WordMove}
use Rattle.json_text.specs.declared.word.WordMove.TheVariants as WM
use Rattle.json_text.specs.declared.lexer.Awaited.{Awaited}
use Rattle.json_text.specs.declared.lexer.Awaited.TheVariants as P
use Rattle.json_text.specs.declared.lexer.Mode.{Mode}
use Rattle.json_text.specs.declared.lexer.Mode.TheVariants as M
use Rattle.json_text.specs.declared.lexer.Top.{Top}
use Rattle.json_text.specs.declared.lexer.Top.TheVariants as T
use Rattle.json_text.specs.declared.lexer.Act.TheVariants as A
use Rattle.json_text.specs.declared.lexer.Step.{Step}
use Rattle.json_text.specs.Proper.{Opened, InObject, ProperAt, Proper}
use Rattle.json_text.proofs.ProperLaws.{proper-step}
use Rattle.whole.specs.declared.Decimal.{Decimal}
use Rattle.whole.specs.Fresh.{fresh}
use Rattle.whole.specs.Count.{unbounded, bounded, counted}
use Rattle.whole.specs.Read.{Read, begins, read_byte, reads_whole}
use Rattle.table.specs.Table.{Table}
use Rattle.table.specs.declared.kind.Form.{Form}
use Rattle.table.specs.declared.kind.Form.TheVariants.{Object, Array}
use Rattle.table.specs.declared.kind.Scalar.{Scalar}
use Rattle.table.specs.declared.kind.Scalar.TheVariants as K
use Rattle.book.specs.Entry.{arr, Entry}
use Rattle.runs.specs.Walk.{judging, of_scalar, word_has_kind, start_of, at_opening}
use Rattle.table.specs.declared.kind.Finished.TheVariants as Done
use Rattle.table.specs.declared.kind.ValueKind.{ValueKind}
use Rattle.table.specs.Keys.{key_found}
use Rattle.frame.specs.Frame.{frame_at, put_frame}
use Rattle.frame.specs.Ops.{opened, keyed}
use Rattle.meaning.specs.Shows.{Carries}
use Rattle.meaning.proofs.CloseLaws.{shows-scalar}
use Rattle.verdict.specs.Verdict.{longest}
use Rattle.verdict.specs.declared.Verdict.TheVariants as Is
use Rattle.verdict.specs.Track.{sound, track_to, track_byte}
use Rattle.verdict.proofs.TrackLaws.{track_byte-short, track_byte-long}
use Rattle.progress.specs.declared.Fault.TheVariants as F
use Rattle.progress.specs.declared.Progress.{Progress}
use Rattle.progress.specs.declared.Advanced.{Advanced}
use Rattle.progress.specs.Act.{open_fault, open_level, kept_key_len, key_task, kept_in, number_before, number_to}
use Rattle.laws.specs.Count.{bump}
use Rattle.progress.specs.Progress.{advance, advanced, faulted, moved, sound as sounding, bits_in, high_in, acted}
use Rattle.progress.specs.declared.Task.TheVariants as To
use Rattle.progress.specs.Memory.{Mem, mem, value_at, perform, step_mem}
use Rattle.follows.specs.Follows.{PlainKeys, all_kept, ShowsText, NumberKept, ShowsNumber, lex_at, ShowsStack, NoRoot, AnyRoot, ShowsRoot, Shown, Follows, follows, Tracks, off_track}
use Rattle.follows.proofs.StackLaws.{top_at-shows, shows-opened-array, shows-opened-object, shows-named, shows-finished, root-finished}
use Rattle.follows.proofs.KeyLaws.{key_kept-put, key_kept-high, key_kept-full, shows_key-key_found}
use Rattle.follows.proofs.NumberLaws.{kept-begun, kept-gone, kind-of-kept, number_move-elim}
use Rattle.follows.proofs.LexerLaws.{value_start-elim, after_value-elim}
use Rattle.progress.proofs.MemoryLaws.{length-opened-frame, length-keyed-frame, length-value_at}
use Rattle.follows.proofs.MemoryLaws.{one-le-bump}
use Rattle.follows.proofs.LandLaws.{depth-finish, no_root-of-opened, scalar-no-rule, lands-malformed, lands-deep, lands, lands-finished, lands-closed}

-- ---- the registers of the open token

module _ (es : List Entry) (g : Token (judging es)) (b : ℕ) where
  bits-gather : (m : Mode) → bits_in m g.bits b ≡ (gather (judging es) m g b).bits
  bits-gather (M.At p) = refl
  bits-gather (M.Key s) = refl
  bits-gather (M.Text s) = refl
  bits-gather (M.Number n) = refl
  bits-gather (M.Word w i) = refl

  high-gather : (m : Mode) → high_in m g.bits g.high b ≡ (gather (judging es) m g b).high
  high-gather (M.At p) = refl
  high-gather (M.Key s) = refl
  high-gather (M.Text s) = refl
  high-gather (M.Number n) = refl
  high-gather (M.Word w i) = refl

  string-gather : (m : Mode) → (gather (judging es) m g b).string ≡ g.string
  string-gather (M.At p) = refl
  string-gather (M.Key s) = refl
  string-gather (M.Text s) = refl
  string-gather (M.Number n) = refl
  string-gather (M.Word w i) = refl

  number-gather : (m : Mode) → (gather (judging es) m g b).number ≡ g.number
  number-gather (M.At p) = refl
  number-gather (M.Key s) = refl
  number-gather (M.Text s) = refl
  number-gather (M.Number n) = refl
  number-gather (M.Word w i) = refl

-- what a finished value joins stays open
opened-finish : (es : List Entry) (v : ValueKind → Bool) (k : Stack (judging es)) → Opened (judging es) k → Opened (judging es) (finish (judging es) v k)
opened-finish es v bare o = absurd o
opened-finish es v (whole x) o = absurd o
opened-finish es v (in_array S k) o = tt
opened-finish es v (in_object x k) o = tt

-- ---- one step of the lexer

-- the memory at mode m, the state after a step, and the claim that the one tracks the other
module _ (t : Table) (es : List Entry) (n : ℕ) (g : Token (judging es)) (k : Stack (judging es)) (i : ℕ) (d : Decimal) (len : ℕ) (root : Bool) (key w : List ℕ) (b : ℕ) (m : Mode) where
  abbrev before : Progress
  before = lex_at m (depth (judging es) k) i g.bits g.high d len

  abbrev behind : Step → State (judging es)
  behind st = take (judging es) st (char_in (judging es) m g b) b g (gather (judging es) m g b) k

  abbrev StepTracked : Step → Type 0
  StepTracked st =
      Proper (judging es) (behind st)
      → Tracks es n (perform (acted st.act st.ends before n b st.mode).task t (mem before root key w) (acted st.act st.ends before n b st.mode).progress)
      (track_to es n (behind st) i)

module _ {t : Table} {es : List Entry} (kept : Carries t es) (plain : PlainKeys es) (n : ℕ) (few : n ≤ 64) (g : Token (judging es)) (k : Stack (judging es))
    (i : ℕ) (d : Decimal) (len : ℕ) (root : Bool) (key w : List ℕ) (b : ℕ) (h : i < longest) where
  -- what is known of the state and the memory at mode m
  abbrev Known : Mode → Type 0
  Known m = Shown es n m g k i d len root key w

  abbrev Tracked : Mode → Step → Type 0
  Tracked m st = StepTracked t es n g k i d len root key w b m st

  abbrev lexer : Mode → Progress
  lexer m = before t es n g k i d len root key w b m

  -- a fault
  step-fault : (m m' : Mode) (e : Bool) → Tracked m (record { mode = m'; ends = e; act = A.Fault })
  step-fault m m' e p = lands-malformed es n (lexer m) root key w refl refl

  -- a byte that leaves the frames and the root
  step_stays : (m m' : Mode) (g' : Token (judging es)) {d' : Decimal} {len' : ℕ} {key' : List ℕ} → Known m → (gather (judging es) m g b).bits ≡ g'.bits
      → (gather (judging es) m g b).high ≡ g'.high → length key' ≡ 32 → ProperAt (judging es) m' k → ShowsRoot es m' root k
      → ShowsText m' key' len' g'.string → ShowsNumber m' d' g'.number (suc i)
      → Tracks es n (mem (lex_at m' (depth (judging es) k) (bump i) (bits_in m g.bits b) (high_in m g.bits g.high b) d' len') root key' w)
      (track_to es n (at m' g' k) i)
  step_stays m m' g' s eb eh l p r x y =
      lands es n h refl (bits-gather es g b m ∙ eb) (high-gather es g b m ∙ eh)
      record {
        short = h;
        room = s.room;
        long = s.long;
        key_long = l;
        proper = p;
        stack = s.stack;
        root_shown = r;
        text = x;
        number = y;
      }

  step-pass : (m m' : Mode) → Known m → ShowsRoot es m' root k → ShowsText m' key len g.string → ShowsNumber m' (number_to m' (number_before m m' d) b) g.number (suc i)
      → Tracked m (step_to m' A.Pass)
  step-pass m m' s r x y p =
      step_stays m m' (gather (judging es) m g b) s refl refl s.key_long p r (rw (string-gather es g b m) x) (rw (number-gather es g b m) y)

  step-key_start : (m : Mode) → Known m → NoRoot es root k → Tracked m (step_to (M.Key S.Char) A.KeyStart)
  step-key_start m s r p =
      step_stays m (M.Key S.Char) (with_string (judging es) (gather (judging es) m g b) []) s refl refl s.key_long p r (all_kept refl (omega arith) refl) tt

  step-text : (m : Mode) (c : List ℕ) → Known m → NoRoot es root k
      → Tracks es n (mem (lex_at (M.Text S.Char) (depth (judging es) k) (bump i) (bits_in m g.bits b) (high_in m g.bits g.high b) d len) root key w)
      (track_to es n (at (M.Text S.Char) (with_string (judging es) (gather (judging es) m g b) c) k) i)
  step-text m c s r =
      step_stays m (M.Text S.Char) (with_string (judging es) (gather (judging es) m g b) c) s refl refl s.key_long tt r tt tt

  step-number : (m : Mode) (x : NumberMode) (d' : Decimal) (z : Read) → Known m → NoRoot es root k → NumberKept x d' z (suc i)
      → Tracks es n (mem (lex_at (M.Number x) (depth (judging es) k) (bump i) (bits_in m g.bits b) (high_in m g.bits g.high b) d' len) root key w)
      (track_to es n (at (M.Number x) (with_number (judging es) (gather (judging es) m g b) z) k) i)
  step-number m x d' z s r y =
      step_stays m (M.Number x) (with_number (judging es) (gather (judging es) m g b) z) s refl refl s.key_long tt r tt y

  -- one level more is open
  abbrev opened_to : Mode → Progress
  opened_to m = lex_at (M.At P.First) (depth (judging es) k + 1) (bump i) (bits_in m g.bits b) (high_in m g.bits g.high b) d len

  -- an array or object is opened, where there is a frame for it; y is what the limits make of the byte
  step-opened : (m : Mode) (o : Form) (k' : Stack (judging es)) (y : Advanced) → Known m
      → (ltb (depth (judging es) k) n ≡ true → y ≡ advance (opened_to m) (To.Open o))
      → (ltb (depth (judging es) k) n ≡ false → y ≡ faulted (lexer m) (F.TooDeep i)) → suc (depth (judging es) k) ≡ depth (judging es) k'
      → (depth (judging es) k < n → ShowsStack es (put_frame w (suc (depth (judging es) k)) (opened t.forms o)) k') → NoRoot es root k'
      → Opened (judging es) k'
      → Tracks es n (perform y.task t (mem (lexer m) root key w) y.progress) (track_to es n (at (M.At P.First) (gather (judging es) m g b) k') i)
  step-opened m o k' y s fits deep d c r p = go (ltb (depth (judging es) k) n) refl
    where
      go : (v : Bool) → ltb (depth (judging es) k) n ≡ v
          → Tracks es n (perform y.task t (mem (lexer m) root key w) y.progress) (track_to es n (at (M.At P.First) (gather (judging es) m g b) k') i)
      go true e =
          let l = ltb-true (depth (judging es) k) n e in
          rw (fits e)
          (lands es n h (add-one (depth (judging es) k) ∙ d) (bits-gather es g b m) (high-gather es g b m)
          record {
            short = h;
            room = omega arith;
            long = rw (length-opened-frame t w (depth (judging es) k + 1) o) s.long;
            key_long = s.key_long;
            proper = p;
            stack = rw add-one (c l);
            root_shown = r;
            text = tt;
            number = tt;
          })
      go false e =
          let l = ltb-false (depth (judging es) k) n e in
          rw (deep e) (lands-deep es n (lexer m) root key w (M.At P.First) (gather (judging es) m g b) k' refl refl (omega arith))

  step-open_array : (m : Mode) → Known m → NoRoot es root k → Tracked m (step_to (M.At P.First) A.OpenArray)
  unfolding open_fault open_level
  step-open_array m s r p =
      step-opened m Array (in_array (start_of es arr) k) (acted A.OpenArray false (lexer m) n b (M.At P.First)) s (λ e. simp e) (λ e. simp e) refl
      (λ l. shows-opened-array kept n few w s.long k l s.stack) r tt

  step-open_object : (m : Mode) → Known m → NoRoot es root k → Tracked m (step_to (M.At P.First) A.OpenObject)
  unfolding open_fault open_level
  step-open_object m s r p =
      step-opened m Object (in_object (at_opening es) k) (acted A.OpenObject false (lexer m) n b (M.At P.First)) s (λ e. simp e) (λ e. simp e) refl
      (λ l. shows-opened-object kept n few w s.long k l s.stack) r tt

  -- a character of a key is finished
  step-key_char : (x : StringMode) → Known (M.Key x) → Tracked (M.Key x) (step_to (M.Key S.Char) A.KeyChar)
  unfolding kept_key_len key_task kept_in
  step-key_char x s p = go (ltb len 32) refl (ltb c 128) refl
    where
      c : ℕ
      c = char_of x g.bits g.high b

      g' : Token (judging es)
      g' = with_string (judging es) (gather (judging es) (M.Key x) g b) (g.string ++ (c ∷ []))

      go : (v : Bool) → ltb len 32 ≡ v → (u : Bool) → ltb c 128 ≡ u
          → Tracks es n (perform (key_task len c) t (mem (lexer (M.Key x)) root key w) (moved (lexer (M.Key x)) b (M.Key S.Char) (depth (judging es) k) (kept_key_len len c)))
          (track_to es n (at (M.Key S.Char) g' k) i)
      go true e true f =
          rw (e, f, e)
          (step_stays (M.Key x) (M.Key S.Char) g' s refl refl (length-set key len c ∙ s.key_long) p s.root_shown
          (key_kept-put c s.key_long (ltb-true len 32 e) s.text) tt)
      go true e false f = rw (e, f) (step_stays (M.Key x) (M.Key S.Char) g' s refl refl s.key_long p s.root_shown (key_kept-high key g.string c f) tt)
      go false e u f = rw e (step_stays (M.Key x) (M.Key S.Char) g' s refl refl s.key_long p s.root_shown (key_kept-full c (ltb-false len 32 e) s.text) tt)

  -- a word or a string is finished
  step-finished : (m : Mode) (x : Scalar) → Known m → NoRoot es root k → ProperAt (judging es) (M.At P.After) (finish (judging es) (of_scalar x) k)
      → Tracks es n (mem (lex_at (M.At P.After) (depth (judging es) k) (bump i) (bits_in m g.bits b) (high_in m g.bits g.high b) d len) root key (value_at t w (depth (judging es) k) (Done.Scalar x)))
      (track_to es n (at (M.At P.After) (gather (judging es) m g b) (finish (judging es) (of_scalar x) k)) i)
  step-finished m x s r p =
      lands-finished kept n few i h d len root key s.key_long (gather (judging es) m g b) (depth (judging es) k) _ _ (bits-gather es g b m) (high-gather es g b m)
      w s.long k refl s.room s.stack x P.After p (root-finished es root (of_scalar x) (scalar-no-rule es x) k r)

  -- a key is finished
  step-key_end : (x : StringMode) → Known (M.Key x) → Tracked (M.Key x) (step_to (M.At P.Colon) A.KeyEnd)
  step-key_end x s p = go k s.room s.stack s.root_shown s.proper
    where
      go : (y : Stack (judging es)) → depth (judging es) y ≤ n → ShowsStack es w y → NoRoot es root y → InObject (judging es) y
          → Tracks es n (mem (lex_at (M.At P.Colon) (depth (judging es) y) (bump i) (bits_in (M.Key x) g.bits b) (high_in (M.Key x) g.bits g.high b) d len) root key (put_frame w (depth (judging es) y) (keyed (key_found t key len) (frame_at w (depth (judging es) y)))))
          (track_to es n (at (M.At P.Colon) (gather (judging es) (M.Key x) g b) (name (judging es) g.string y)) i)
      go bare room stack r o = absurd o
      go (whole v) room stack r o = absurd o
      go (in_array S y) room stack r o = absurd o
      go (in_object a y) room stack r o =
          lands es n h refl refl refl
          record {
            short = h;
            room = room;
            long = rw (length-keyed-frame w (suc (depth (judging es) y)) (key_found t key len)) s.long;
            key_long = s.key_long;
            proper = tt;
            stack = shows-named kept n few w s.long a y g.string (key_found t key len) room stack (shows_key-key_found kept plain s.text);
            root_shown = r;
            text = tt;
            number = tt;
          }

  -- the innermost value is closed
  step-closed : (p : Awaited) → Known (M.At p) → NoRoot es root k → Opened (judging es) k → Tracked (M.At p) (step_to (M.At P.After) A.Close)
  step-closed p s r o y =
      lands-closed kept n few i h d len root key s.key_long g (depth (judging es) k) g.bits g.high refl refl w s.long k refl s.room s.stack r o y

  -- ---- a byte that ends a number

  module _ (x : NumberMode) (s : Known (M.Number x)) (e : may_end x ≡ true) where
    -- the kind of the number, and the kinds that it fits
    abbrev kind : Scalar
    kind = cond (reads_whole g.number) K.Int K.Num

    abbrev number_fits : ValueKind → Bool
    number_fits = of_scalar kind

    any_root-number : AnyRoot es root (finish (judging es) number_fits k)
    any_root-number = root-finished es root number_fits (scalar-no-rule es kind) k s.root_shown

    step-ended_pass : (p : Awaited) → ShowsRoot es (M.At p) root (finish (judging es) number_fits k) → Tracked (M.Number x) (ended_before (stay p))
    step-ended_pass p r y =
        rw (kind-of-kept x s.number e s.short)
        (lands-finished kept n few i h d len root key s.key_long g (depth (judging es) k) g.bits g.high refl refl w s.long k refl s.room s.stack
        kind p y r)

    step-ended_close : Opened (judging es) (finish (judging es) number_fits k) → Tracked (M.Number x) (ended_before (step_to (M.At P.After) A.Close))
    step-ended_close o y =
        rw (kind-of-kept x s.number e s.short)
        (lands-closed kept n few i h d len root key s.key_long g (depth (judging es) k) g.bits g.high refl refl (value_at t w (depth (judging es) k) (Done.Scalar kind))
        (rw (length-value_at t w (depth (judging es) k) (Done.Scalar kind)) s.long) (finish (judging es) number_fits k) (sym (depth-finish es number_fits k))
        (rw (depth-finish es number_fits k) s.room) (shows-finished kept n few w s.long (Done.Scalar kind) number_fits (shows-scalar kind) k s.room s.stack)
        (no_root-of-opened es root (finish (judging es) number_fits k) o any_root-number) o y)

  -- ---- mode by mode

  step-value_start : (p : Awaited) → Known (M.At p) → NoRoot es root k → Tracked (M.At p) (value_start b)
  step-value_start p s r =
      let m : Mode = M.At p in
      value_start-elim (Tracked m) b (step-fault m (M.At P.Value) false) (λ _. step-text m [] s r) (step-open_array m s r) (step-open_object m s r)
      (λ x y _. step-number m x (counted bounded x fresh b) (begins unbounded b) s r (kept-begun x b i y h)) (λ x. step-pass m (M.Word x 1) s r tt tt)

  step_value : Known (M.At P.Value) → Tracked (M.At P.Value) (at_value b)
  unfolding at_value
  step_value s =
      cond-elim (Tracked (M.At P.Value)) (is_blank b) (λ _. step-pass (M.At P.Value) (M.At P.Value) s s.root_shown tt tt)
      (λ _. step-value_start P.Value s s.root_shown)

  step-first_element : Known (M.At P.First) → Tracked (M.At P.First) (at_first_element b)
  unfolding at_first_element
  step-first_element s =
      let r = s.root_shown in
      cond-elim (Tracked (M.At P.First)) (is_blank b) (λ _. step-pass (M.At P.First) (M.At P.First) s r tt tt)
      (λ _. cond-elim (Tracked (M.At P.First)) (eqb b 0x5D) (λ _. step-closed P.First s r s.proper) (λ _. step-value_start P.First s r))

  step-first : (top : Top) → Known (M.At P.First) → Tracked (M.At P.First) (at_first top b)
  unfolding at_first_key
  step-first T.Bare s = step-first_element s
  step-first T.Array s = step-first_element s
  step-first T.Object s =
      let r = s.root_shown in
      cond-elim (Tracked (M.At P.First)) (is_blank b) (λ _. step-pass (M.At P.First) (M.At P.First) s r tt tt)
      (λ _. cond-elim (Tracked (M.At P.First)) (eqb b 0x7D) (λ _. step-closed P.First s r s.proper)
      (λ _. cond-elim (Tracked (M.At P.First)) (eqb b 0x22) (λ _. step-key_start (M.At P.First) s r) (λ _. step-fault (M.At P.First) (M.At P.Value) false)))

  step-at_key : Known (M.At P.Key) → Tracked (M.At P.Key) (at_key b)
  unfolding at_key
  step-at_key s =
      cond-elim (Tracked (M.At P.Key)) (is_blank b) (λ _. step-pass (M.At P.Key) (M.At P.Key) s s.root_shown tt tt)
      (λ _. cond-elim (Tracked (M.At P.Key)) (eqb b 0x22) (λ _. step-key_start (M.At P.Key) s s.root_shown) (λ _. step-fault (M.At P.Key) (M.At P.Value) false))

  step-colon : Known (M.At P.Colon) → Tracked (M.At P.Colon) (at_colon b)
  unfolding at_colon
  step-colon s =
      cond-elim (Tracked (M.At P.Colon)) (is_blank b) (λ _. step-pass (M.At P.Colon) (M.At P.Colon) s s.root_shown tt tt)
      (λ _. cond-elim (Tracked (M.At P.Colon)) (eqb b 0x3A) (λ _. step-pass (M.At P.Colon) (M.At P.Value) s s.root_shown tt tt) (λ _. step-fault (M.At P.Colon) (M.At P.Value) false))

  step_after : Known (M.At P.After) → Tracked (M.At P.After) (after_value (top_of (judging es) k) b)
  step_after s =
      let r : Opened (judging es) k → NoRoot es root k = λ o. no_root-of-opened es root k o s.root_shown in
      after_value-elim (Tracked (M.At P.After)) b (judging es) k (step-fault (M.At P.After) (M.At P.Value) false)
      (step-pass (M.At P.After) (M.At P.After) s s.root_shown tt tt) (λ o. step-pass (M.At P.After) (M.At P.Value) s (r o) tt tt)
      (λ o. step-pass (M.At P.After) (M.At P.Key) s (r o) tt tt) (λ o. step-closed P.After s (r o) o)

  step-key : (x : StringMode) (v : StringMove) → Known (M.Key x) → Tracked (M.Key x) (key_step v)
  step-key x SM.Fault s = step-fault (M.Key x) (M.At P.Value) false
  step-key x (SM.Go y) s = step-pass (M.Key x) (M.Key y) s s.root_shown s.text tt
  step-key x SM.Char s = step-key_char x s
  step-key x SM.Close s = step-key_end x s

  step-string : (x : StringMode) (v : StringMove) → Known (M.Text x) → Tracked (M.Text x) (text_step v)
  step-string x SM.Fault s = step-fault (M.Text x) (M.At P.Value) false
  step-string x (SM.Go y) s = step-pass (M.Text x) (M.Text y) s s.root_shown tt tt
  step-string x SM.Char s = λ _. step-text (M.Text x) (g.string ++ (char_of x g.bits g.high b ∷ [])) s s.root_shown
  step-string x SM.Close s = step-finished (M.Text x) K.Str s s.root_shown

  step-digits : (x : NumberMode) → Known (M.Number x) → Tracked (M.Number x) (number_step (number_move x b) (top_of (judging es) k) b)
  step-digits x s =
      number_move-elim (λ (y : NumberMove). Tracked (M.Number x) (number_step y (top_of (judging es) k) b)) x b (step-fault (M.Number x) (M.At P.Value) false)
      (λ e.
      let r : Opened (judging es) k → NoRoot es root (finish (judging es) (number_fits x s e) k) =
      λ o. no_root-of-opened es root (finish (judging es) (number_fits x s e) k) (opened-finish es (number_fits x s e) k o) (any_root-number x s e) in
      after_value-elim (λ (st : Step). Tracked (M.Number x) (ended_before st)) b (judging es) k (step-fault (M.Number x) (M.At P.Value) true)
      (step-ended_pass x s e P.After (any_root-number x s e)) (λ o. step-ended_pass x s e P.Value (r o)) (λ o. step-ended_pass x s e P.Key (r o))
      (λ o. step-ended_close x s e (opened-finish es (number_fits x s e) k o)))
      (λ y z _. step-number (M.Number x) y (counted bounded y d b) (read_byte unbounded g.number b) s s.root_shown (kept-gone x y b z s.number h))

  step-word : (x : Word) (j : ℕ) (v : WordMove) → Known (M.Word x j) → Tracked (M.Word x j) (word_step v x j)
  unfolding word_has_kind
  step-word x j WM.Fault s = step-fault (M.Word x j) (M.At P.Value) false
  step-word x j WM.Go s = step-pass (M.Word x j) (M.Word x (j + 1)) s s.root_shown tt tt
  step-word W.Null j WM.End s = step-finished (M.Word W.Null j) K.Null s s.root_shown
  step-word W.True j WM.End s = step-finished (M.Word W.True j) K.True s s.root_shown
  step-word W.False j WM.End s = step-finished (M.Word W.False j) K.False s s.root_shown

  step-any : (m : Mode) → Known m → Tracked m (step_of m (top_of (judging es) k) b)
  step-any (M.At P.Value) s = step_value s
  step-any (M.At P.First) s = step-first (top_of (judging es) k) s
  step-any (M.At P.Key) s = step-at_key s
  step-any (M.At P.Colon) s = step-colon s
  step-any (M.At P.After) s = step_after s
  step-any (M.Key x) s = step-key x (string_move x b) s
  step-any (M.Text x) s = step-string x (string_move x b) s
  step-any (M.Number x) s = step-digits x s
  step-any (M.Word x j) s = step-word x j (word_move x j b) s

-- ---- one byte

-- a memory that follows a state tracks what the machine makes of a byte, which is not RS
pub follows-step : {t : Table} {es : List Entry} → Carries t es → PlainKeys es → (n : ℕ) → n ≤ 64 → {m : Mem} {q : State (judging es)} {i : ℕ} (b : ℕ)
    → eqb b 0x1E ≡ false → Follows es n m q i → Tracks es n (step_mem t n m b) (track_byte es n (sound q i) b)
unfolding step_mem advanced sounding step
follows-step {t} {es} kept plain n few b e (follows {m} {g} {k} {i} {d} {len} {root} {key} {w} s) =
    rw (e, top_at-shows es w k s.stack) (go (ltb i longest) refl)
  where
    x : Progress
    x = lex_at m (depth (judging es) k) i g.bits g.high d len

    st : Step
    st = step_of m (top_of (judging es) k) b

    go : (v : Bool) → ltb i longest ≡ v
        → Tracks es n (perform (sounding x n b st).task t (mem x root key w) (sounding x n b st).progress) (track_byte es n (sound (at m g k) i) b)
    go true f =
        let h = ltb-true i longest f in
        rw (f, track_byte-short es n (at m g k) b h) (step-any kept plain n few g k i d len root key w b h m s (proper-step (judging es) (at m g k) b s.proper))
    go false f =
        rw (f, track_byte-long es n (at m g k) b (ltb-false i longest f)) (off_track {v = Is.TooLong} refl refl (one-le-bump i))
