-- What feed and close write in the lent buffer: REQUIREMENT.md, section 5, its sentences on opening, finished keys and values, closing, numbers, faulty
-- bytes, RS and close; and that nothing is written past the frames or in the frame of a level that is not open. Each sentence is about `feed_of` and
-- `close_of`, for every reader, table, buffer and byte, made-up readers and refused calls too. Stated; `lent` of `LentLaws` proves all of `Lent`.
-- Assumes nothing.
use Rattle.std.specs.Prelude.{None, Bool, true, false, cond, List, [], ◌∷◌, ◌++◌, ◌⊎◌, ◌↔◌, ◌≡◌, ℕ, ◌+◌, ◌*◌, ◌-◌, ◌<◌, ◌≤◌, eqb, length, get_or, Ok, Err, Some}
use Rattle.json_text.specs.Numbers.{Number}
use Rattle.json_text.specs.declared.string.StringMode.{StringMode}
use Rattle.json_text.specs.declared.number.NumberMode.{NumberMode}
use Rattle.json_text.specs.declared.word.Word.{Word}
use Rattle.json_text.specs.declared.word.Word.TheVariants as W
use Rattle.json_text.specs.declared.lexer.Awaited.TheVariants as P
use Rattle.json_text.specs.declared.lexer.Mode.{Mode}
use Rattle.json_text.specs.declared.lexer.Mode.TheVariants as M
use Rattle.whole.specs.Whole.{Whole}
use Rattle.table.specs.Table.{Table}
use Rattle.table.specs.Keys.{key_found}
use Rattle.table.specs.declared.kind.Form.{Form}
use Rattle.table.specs.declared.kind.Form.TheVariants.{Object, Array}
use Rattle.table.specs.declared.kind.Scalar.{Scalar}
use Rattle.table.specs.declared.kind.Scalar.TheVariants as K
use Rattle.table.specs.declared.kind.Finished.{Finished}
use Rattle.table.specs.declared.kind.Finished.TheVariants as Done
use Rattle.frame.specs.Frame.{frame_start, frame_at, put_frame}
use Rattle.frame.specs.Edges.{edges_in}
use Rattle.frame.specs.Ops.{opened, keyed, valued, closed}
use Rattle.verdict.specs.Verdict.{longest}
use Rattle.verdict.specs.declared.Verdict.{Verdict}
use Rattle.verdict.specs.declared.Verdict.TheVariants as Is
use Rattle.progress.specs.declared.Progress.{Progress}
use Rattle.progress.specs.Act.{number_kind}
use Rattle.reader.specs.declared.Reader.{Reader}
use Rattle.reader.specs.declared.Refusal.{Refusal}
use Rattle.reader.specs.Answer.{Answer}
use Rattle.reader.specs.Machine.{Outcome, feed_of, close_of}

-- ---- bytes and frames of the buffer

-- the place i is outside the frame of level l; level 0 has no frame, and every place is outside
abbrev pub Outside : ℕ → ℕ → Type 0
Outside l i = (i < frame_start l) ⊎ (96 * l ≤ i)

-- the buffer was w before a call and is v after it: it is as long, and no byte at a place of P was written
pub record Spares (P : ℕ → Type 0) (w v : List ℕ) : Type 0 where
  pub long : length v ≡ length w
  pub byte : (i : ℕ) → P i → get_or v i 0 ≡ get_or w i 0

-- the buffer with the value v finished in the open value of level l; at level 0 there is none
abbrev pub with_value : Table → List ℕ → ℕ → Finished → List ℕ
with_value t w l v = put_frame w l (valued (edges_in t) t.edge_kind t.forms v (frame_at w l))

-- the buffer with a key finished there, of which len characters are kept
abbrev pub with_key : Table → List ℕ → ℕ → List ℕ → ℕ → List ℕ
with_key t w l key len = put_frame w l (keyed (key_found t key len) (frame_at w l))

-- the rules that the open value of level l fits when it is closed
abbrev pub rules_of : Table → List ℕ → ℕ → ℕ
rules_of t w l = closed (edges_in t) t.forms t.ends (frame_at w l)

-- ---- the reader

-- how many values are open
abbrev pub level_of : Reader → ℕ
level_of r = r.progress.level

abbrev pub mode_of : Reader → Mode
mode_of r = r.progress.mode

-- a key, a string, a number or a word is open
abbrev pub is_in_token : Mode → Bool
is_in_token (M.At p) = false
is_in_token (M.Key s) = true
is_in_token (M.Text s) = true
is_in_token (M.Number n) = true
is_in_token (M.Word v i) = true

-- the kind of a word
abbrev pub word_kind : Word → Scalar
word_kind W.Null = K.Null
word_kind W.True = K.True
word_kind W.False = K.False

-- what is known of a record, and a reader, in another mode
abbrev pub at_mode : Mode → Progress → Progress
at_mode m x =
    record { mode = m; fault = x.fault; head = x.head; level = x.level; pos = x.pos; bits = x.bits; high = x.high; number = x.number; len = x.len }

abbrev pub in_mode : Mode → Reader → Reader
in_mode m r = record { frames = r.frames; progress = at_mode m r.progress; root = r.root; key = r.key; tally = r.tally }

-- a verdict for a fault that a record has before it ends: 11, 12 or 13; or for the head: 15
abbrev pub is_faulty : Verdict → Bool
is_faulty Is.Valid = false
is_faulty Is.Invalid = false
is_faulty (Is.Malformed p) = true
is_faulty (Is.TooDeep p) = true
is_faulty Is.TooLong = true
is_faulty (Is.Unfinished p) = false
is_faulty Is.Head = true

abbrev pub says_faulty : Answer → Bool
says_faulty (Ok None) = false
says_faulty (Ok (Some v)) = is_faulty v
says_faulty (Err k) = false

-- the record of a reader has a fault, or is the head: a close would say so
abbrev pub faulty_in : Reader → Table → List ℕ → Bool
faulty_in r t w = says_faulty (close_of r t w).answer

-- ---- one byte

-- the byte b alone is fed
abbrev pub byte_fed : Reader → Table → List ℕ → ℕ → Outcome
byte_fed r t w b = feed_of r t w (b ∷ [])

-- the byte b is no RS, and no token is open after it
abbrev pub EndsToken : ℕ → Outcome → Type 0
EndsToken b o = (eqb b 0x1E ≡ false) × (is_in_token (mode_of o.reader) ≡ false)

-- what an opening byte opens: an object at `{`, else an array
abbrev pub form_opened : ℕ → Form
form_opened b = cond (eqb b 0x7B) Object Array

-- what the byte b writes, where o is the outcome
pub record ByteWrites (r : Reader) (t : Table) (w : List ℕ) (b : ℕ) (o : Outcome) : Type 0 where
  -- opening writes all 96 bytes of the frame of the new level, an object's at `{`, and no byte outside
  pub opens : level_of o.reader ≡ level_of r + 1
      → (frame_at o.work (level_of r + 1) ≡ opened t.forms (form_opened b)) × Spares (Outside (level_of r + 1)) w o.work
  -- closing finishes the closed value in its parent, whose level is the open one then; it writes only there
  pub closes : is_in_token (mode_of r) ≡ false → eqb b 0x1E ≡ false → level_of r ≡ level_of o.reader + 1
      → (o.work ≡ with_value t w (level_of o.reader) (Done.Rules (rules_of t w (level_of r)))) × Spares (Outside (level_of o.reader)) w o.work
  -- the root has no parent, and closing it writes nothing
  pub closes_root : is_in_token (mode_of r) ≡ false → level_of r ≡ 1 → level_of o.reader ≡ 0 → o.work ≡ w
  -- any other byte between tokens writes nothing
  pub between : is_in_token (mode_of r) ≡ false → level_of o.reader ≡ level_of r → o.work ≡ w
  -- while a token is open nothing is written
  pub in_token : is_in_token (mode_of o.reader) ≡ true → o.work ≡ w
  -- a key is finished by the quotation mark that ends it, a string too, and a word by its last letter
  pub ends_key : (s : StringMode) → mode_of r ≡ M.Key s → EndsToken b o → o.work ≡ with_key t w (level_of r) r.key r.progress.len
  pub ends_string : (s : StringMode) → mode_of r ≡ M.Text s → EndsToken b o → o.work ≡ with_value t w (level_of r) (Done.Scalar K.Str)
  pub ends_word : (v : Word) (i : ℕ) → mode_of r ≡ M.Word v i → EndsToken b o → o.work ≡ with_value t w (level_of r) (Done.Scalar (word_kind v))
  -- a number is finished by the byte after it, before that byte's own effect: the outcome is that of the byte after a value, in the buffer where the
  -- number is finished, with the kind that the reader found
  pub ends_number : (n : NumberMode) → mode_of r ≡ M.Number n → EndsToken b o
      → o ≡ byte_fed (in_mode (M.At P.After) r) t (with_value t w (level_of r) (Done.Scalar (number_kind r.progress.number))) b
  -- a faulty byte writes nothing, even where it ends a number; nor do the bytes of the record after it, nor those of the head
  pub faulty : faulty_in o.reader t o.work ≡ true → o.work ≡ w
  pub after_fault : faulty_in r t w ≡ true → o.work ≡ w
  -- an RS writes nothing, even where it ends a number
  pub separator : b ≡ 0x1E → o.work ≡ w
  -- no byte writes outside the frames of the innermost open value, of its parent and of a value that it opens
  pub reaches : Spares (λ i. Outside (level_of r) i × Outside (level_of r - 1) i × Outside (level_of o.reader) i) w o.work

-- ---- pieces

-- a first feed answers a and has the outcome o, and a second the outcome q: after a verdict or a refusal there is no second, else the counts add up
abbrev pub then_fed : Answer → Outcome → Outcome → Outcome
then_fed (Ok None) o q = record { reader = q.reader; count = o.count + q.count; answer = q.answer; work = q.work }
then_fed (Ok (Some v)) o q = o
then_fed (Err k) o q = o

-- the first byte of a piece is fed, and then the rest
abbrev pub in_two : Table → Outcome → List ℕ → Outcome
in_two t o s = then_fed o.answer o (feed_of o.reader t o.work s)

-- level l is open neither before the piece s nor after any of its bytes
abbrev pub NotOpened : Reader → Table → List ℕ → List ℕ → ℕ → Type 0
NotOpened r t w s l = (p q : List ℕ) → p ++ q ≡ s → level_of (feed_of r t w p).reader < l

-- the call is let in, and the record is not the head, has no fault so far and awaits a value
pub record AwaitsValue (r : Reader) (t : Table) (w : List ℕ) : Type 0 where
  pub let_in : (feed_of r t w []).answer ≡ Ok None
  pub head : r.progress.head ≡ false
  pub fault : r.progress.fault ≡ None
  pub mode : mode_of r ≡ M.At P.Value

-- all that is said of the lent bytes
pub record Lent : Type 0 where
  -- a piece does what its bytes do when they are fed one by one
  pub empty : (r : Reader) (t : Table) (w : List ℕ) → ((feed_of r t w []).reader ≡ r) × ((feed_of r t w []).work ≡ w)
  pub piece : (r : Reader) (t : Table) (w : List ℕ) (b : ℕ) (s : List ℕ) → feed_of r t w (b ∷ s) ≡ in_two t (byte_fed r t w b) s
  -- each byte writes what `ByteWrites` says
  pub byte : (r : Reader) (t : Table) (w : List ℕ) (b : ℕ) → ByteWrites r t w b (byte_fed r t w b)
  -- of a number that is fed where a value is awaited, and that makes no record too long, the reader finds `int` exactly where the value is whole
  pub number : (r : Reader) (t : Table) (w ds : List ℕ) → AwaitsValue r t w → Number ds → r.progress.pos + length ds ≤ longest
      → (number_kind (feed_of r t w ds).reader.progress.number ≡ K.Int) ↔ Whole ds
  -- bytes past the frames that were counted at start are never written
  pub past : (r : Reader) (t : Table) (w s : List ℕ) → Spares (λ i. 96 * r.frames ≤ i) w (feed_of r t w s).work
  -- the frame of a level that is not opened is not written
  pub unopened : (r : Reader) (t : Table) (w s : List ℕ) (l : ℕ) → NotOpened r t w s l → frame_at (feed_of r t w s).work l ≡ frame_at w l
  -- a close writes nothing, even where it ends a number, and a refused call writes nothing
  pub close : (r : Reader) (t : Table) (w : List ℕ) → (close_of r t w).work ≡ w
  pub refused : (r : Reader) (t : Table) (w s : List ℕ) (k : Refusal) → (feed_of r t w s).answer ≡ Err k → (feed_of r t w s).work ≡ w
