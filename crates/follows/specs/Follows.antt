-- What the memory of a reader shows of the machine that finds verdicts: the frames its stack, the kept characters its key, the counts its number.
-- Derived, nothing to believe: `tracks-step` and `judged-part` in proofs/ join it to the track of crate verdict. Assumes nothing.
use Rattle.std.specs.Prelude.{Bool, true, false, not, ◌⊎◌, ◌≡◌, ℕ, suc, ◌*◌, ◌≤◌, ◌<◌, T, eqb, ltb, length, take, Some, None}
use mathlib.Core.List.{List, [], ◌∷◌, Memᴰ}
use Rattle.laws.specs.Lists.{all, any}
use Rattle.json_text.specs.Machine.{Stack, bare, whole, in_array, in_object, depth, Token, State, at}
use Rattle.json_text.specs.declared.number.NumberMode.{NumberMode}
use Rattle.json_text.specs.declared.lexer.Awaited.TheVariants as P
use Rattle.json_text.specs.declared.lexer.Mode.{Mode}
use Rattle.json_text.specs.declared.lexer.Mode.TheVariants as M
use Rattle.json_text.specs.Proper.{ProperAt}
use Rattle.whole.specs.declared.Decimal.{Decimal}
use Rattle.whole.specs.Read.{Read, reads}
use Rattle.whole.specs.Kept.{Kept}
use Rattle.table.specs.Table.{Table}
use Rattle.table.specs.declared.kind.ValueKind.TheVariants.{Rule}
use Rattle.book.specs.Entry.{Entry, keys_of}
use Rattle.runs.specs.Walk.{judging}
use Rattle.frame.specs.Frame.{frame_at}
use Rattle.meaning.specs.Shows.{ShowsArray, ShowsObject}
use Rattle.verdict.specs.Verdict.{longest}
use Rattle.verdict.specs.declared.Verdict.{Verdict}
use Rattle.verdict.specs.declared.Verdict.TheVariants as Is
use Rattle.verdict.specs.Track.{Track, sound, stopped}
use Rattle.progress.specs.declared.Fault.TheVariants as F
use Rattle.progress.specs.declared.Progress.{Progress}
use Rattle.progress.specs.Memory.{Mem, mem, step_mem}

-- ---- keys

-- the keys of a book have at most 32 characters, each below 128
pub record PlainKeys (es : List Entry) : Type 0 where
  pub short : {k : List ℕ} → Memᴰ k (keys_of es) → length k ≤ 32
  pub low : {k : List ℕ} → Memᴰ k (keys_of es) → T (all (λ (c : ℕ). ltb c 128) k)

-- characters that no key of a book begins with: more than 32, or one of them is above 127
abbrev pub NoKey : List ℕ → Type 0
NoKey s = (32 < length s) ⊎ T (any (λ (c : ℕ). not (ltb c 128)) s)

-- the characters of the open key: the first len bytes kept are they, or len is 33 and they are no key
pub data KeyKept (key : List ℕ) (len : ℕ) (s : List ℕ) : Type 0 where
  all_kept : len ≡ length s → len ≤ 32 → take len key ≡ s → KeyKept key len s
  none_kept : len ≡ 33 → NoKey s → KeyKept key len s

-- in a key its characters are kept
abbrev pub ShowsText : Mode → List ℕ → ℕ → List ℕ → Type 0
ShowsText (M.At p) key len s = T true
ShowsText (M.Key m) key len s = KeyKept key len s
ShowsText (M.Text m) key len s = T true
ShowsText (M.Number m) key len s = T true
ShowsText (M.Word x i) key len s = T true

-- ---- numbers

-- of a number in mode m, of whose record i bytes are read, its counts are kept
pub data NumberKept (m : NumberMode) (y : Decimal) (r : Read) (i : ℕ) : Type 0 where
  number_kept : {x : Decimal} → r ≡ reads m x → Kept x y i → NumberKept m y r i

-- in a number its counts are kept
abbrev pub ShowsNumber : Mode → Decimal → Read → ℕ → Type 0
ShowsNumber (M.At p) y r i = T true
ShowsNumber (M.Key m) y r i = T true
ShowsNumber (M.Text m) y r i = T true
ShowsNumber (M.Number m) y r i = NumberKept m y r i
ShowsNumber (M.Word x j) y r i = T true

-- ---- what is known of a record without a fault

abbrev pub lex_at : Mode → ℕ → ℕ → ℕ → ℕ → Decimal → ℕ → Progress
lex_at m level pos bits high d len =
    record { mode = m; fault = None; head = false; level = level; pos = pos; bits = bits; high = high; number = d; len = len }

-- ---- what is known of a record with a fault

-- the fault of a record that was stopped with a verdict
abbrev pub FaultIs : Verdict → Progress → Type 0
FaultIs Is.Valid x = ⊥
FaultIs Is.Invalid x = ⊥
FaultIs (Is.Malformed p) x = x.fault ≡ Some (F.Malformed p)
FaultIs (Is.TooDeep p) x = x.fault ≡ Some (F.TooDeep p)
FaultIs Is.TooLong x = x.fault ≡ Some F.TooLong
FaultIs (Is.Unfinished p) x = ⊥
FaultIs Is.Head x = ⊥

-- ---- the machine, over the entries of a book

module _ (es : List Entry) where
  -- the frame of each open level shows what the machine keeps of it
  abbrev pub ShowsStack : List ℕ → Stack (judging es) → Type 0
  ShowsStack w bare = T true
  ShowsStack w (whole v) = T true
  ShowsStack w (in_array S k) = ShowsArray (frame_at w (suc (depth (judging es) k))) S × ShowsStack w k
  ShowsStack w (in_object o k) = ShowsObject es (frame_at w (suc (depth (judging es) k))) o × ShowsStack w k

  -- below the open values nothing is finished, and the root fits no rule
  abbrev pub NoRoot : Bool → Stack (judging es) → Type 0
  NoRoot root bare = root ≡ false
  NoRoot root (whole v) = ⊥
  NoRoot root (in_array S k) = NoRoot root k
  NoRoot root (in_object o k) = NoRoot root k

  -- a finished root fits rule 0, or not
  abbrev pub AnyRoot : Bool → Stack (judging es) → Type 0
  AnyRoot root bare = root ≡ false
  AnyRoot root (whole v) = root ≡ v (Rule 0)
  AnyRoot root (in_array S k) = NoRoot root k
  AnyRoot root (in_object o k) = NoRoot root k

  -- a root is finished only after a value
  abbrev pub ShowsRoot : Mode → Bool → Stack (judging es) → Type 0
  ShowsRoot (M.At P.Value) root k = NoRoot root k
  ShowsRoot (M.At P.First) root k = NoRoot root k
  ShowsRoot (M.At P.Key) root k = NoRoot root k
  ShowsRoot (M.At P.Colon) root k = NoRoot root k
  ShowsRoot (M.At P.After) root k = AnyRoot root k
  ShowsRoot (M.Key m) root k = NoRoot root k
  ShowsRoot (M.Text m) root k = NoRoot root k
  ShowsRoot (M.Number m) root k = NoRoot root k
  ShowsRoot (M.Word x i) root k = NoRoot root k

  -- with n frames: the state at mode m after i bytes, beside the counts and the characters kept, the root and the buffer
  pub record Shown (n : ℕ) (m : Mode) (g : Token (judging es)) (k : Stack (judging es)) (i : ℕ) (d : Decimal) (len : ℕ) (root : Bool) (key w : List ℕ) : Type 0 where
    -- the limits on bytes and levels
    pub short : i ≤ longest
    pub room : depth (judging es) k ≤ n
    -- the sizes of the buffer and of the key
    pub long : 96 * n ≤ length w
    pub key_long : length key ≡ 32
    -- the state is one that the machine comes to
    pub proper : ProperAt (judging es) m k
    pub stack : ShowsStack w k
    pub root_shown : ShowsRoot m root k
    pub text : ShowsText m key len g.string
    pub number : ShowsNumber m d g.number i

  -- a memory follows a state after i bytes
  pub data Follows (n : ℕ) : Mem → State (judging es) → ℕ → Type 0 where
    follows : {m : Mode} {g : Token (judging es)} {k : Stack (judging es)} {i : ℕ} {d : Decimal} {len : ℕ} {root : Bool} {key w : List ℕ}
        → Shown n m g k i d len root key w
        → Follows n (mem (lex_at m (depth (judging es) k) i g.bits g.high d len) root key w) (at m g k) i

  -- ---- tracks

  -- a memory keeps a track: it follows the state, or is stopped with the verdict, after at least one byte
  pub data Tracks (n : ℕ) : Mem → Track es → Type 0 where
    on_track : {m : Mem} {q : State (judging es)} {i : ℕ} → Follows n m q i → Tracks n m (sound q i)
    off_track : {m : Mem} {v : Verdict} → m.progress.head ≡ false → FaultIs v m.progress → 1 ≤ m.progress.pos → Tracks n m (stopped v)

-- ---- a part

-- a part without RS
abbrev pub NoRS : List ℕ → Type 0
NoRS [] = T true
NoRS (b ∷ p) = (eqb b 0x1E ≡ false) × NoRS p

-- a part is a record
abbrev pub nonempty : List ℕ → Bool
nonempty [] = false
nonempty (b ∷ p) = true

-- a memory after the bytes of a part
abbrev pub read_part : Table → ℕ → Mem → List ℕ → Mem
read_part t n m [] = m
read_part t n m (b ∷ p) = read_part t n (step_mem t n m b) p
