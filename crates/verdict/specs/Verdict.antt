-- The verdict of a part: REQUIREMENT.md, section 6, and demand 2. Stated. Assumes nothing.
use Rattle.std.specs.Prelude.{List, ◌≡◌, ℕ, suc, ◌≤◌, ◌<◌, length, take}
use Rattle.json_text.specs.Tree.{Json}
use Rattle.json_text.specs.Grammar.{Text, FaultAt}
use Rattle.json_text.specs.Levels.{open_levels}
use Rattle.book.specs.Entry.{Entry}
use Rattle.runs.specs.Runs.{Valid}
use Rattle.verdict.specs.declared.Word.{Word}
use Rattle.verdict.specs.declared.Word.TheVariants as Says
use Rattle.verdict.specs.declared.Verdict.{Verdict}
use Rattle.verdict.specs.declared.Verdict.TheVariants as Is

-- ---- the words and numbers of each verdict

pub record Shown : Type 0 where
  pub word : Word
  pub number : ℕ
  pub place : ℕ

abbrev pub shows : Word → ℕ → ℕ → Shown
shows w n p = record { word = w; number = n; place = p }

-- the most bytes of a record
abbrev pub longest : ℕ
longest = 16777216

-- number and place are 0 unless refused
abbrev pub shown : Verdict → Shown
shown Is.Valid = shows Says.Valid 0 0
shown Is.Invalid = shows Says.Invalid 0 0
shown (Is.Malformed p) = shows Says.Refused 11 p
shown (Is.TooDeep p) = shows Says.Refused 12 p
shown Is.TooLong = shows Says.Refused 13 longest
shown (Is.Unfinished p) = shows Says.Refused 14 p
shown Is.Head = shows Says.Refused 15 0

-- ---- the faults of a part

-- byte i is the first opening byte that makes more levels than n
pub record DeepAt (n : ℕ) (p : List ℕ) (i : ℕ) : Type 0 where
  pub inside : i < length p
  pub before : (j : ℕ) → j ≤ i → open_levels (take j p) ≤ n
  pub behind : n < open_levels (take (suc i) p)

-- a part has up to three faults: the verdict that each brings, and its byte
pub data Fault (n : ℕ) (p : List ℕ) : Verdict → ℕ → Type 0 where
  too_long : longest < length p → Fault n p Is.TooLong longest
  malformed : {i : ℕ} → FaultAt p i → Fault n p (Is.Malformed i) i
  too_deep : {i : ℕ} → DeepAt n p i → Fault n p (Is.TooDeep i) i

-- at one byte, 13 comes before 11, and 11 before 12
abbrev pub rank : Verdict → ℕ
rank Is.TooLong = 0
rank (Is.Malformed p) = 1
rank (Is.TooDeep p) = 2
rank Is.Valid = 3
rank Is.Invalid = 3
rank (Is.Unfinished p) = 3
rank Is.Head = 3

-- a fault at byte i comes before one at byte j, or is as early: at one byte the rank decides
pub data NotLater (a : Verdict) (i : ℕ) (b : Verdict) (j : ℕ) : Type 0 where
  earlier : i < j → NotLater a i b j
  at_one_byte : i ≡ j → rank a ≤ rank b → NotLater a i b j

-- of a part's faults, the one at byte i that brings v is the earliest
abbrev pub Earliest : ℕ → List ℕ → Verdict → ℕ → Type 0
Earliest n p v i = (w : Verdict) (j : ℕ) → Fault n p w j → NotLater v i w j

-- a part with none of the three faults
abbrev pub Faultless : ℕ → List ℕ → Type 0
Faultless n p = (w : Verdict) (j : ℕ) → Fault n p w j → ⊥

-- ---- the verdict of a part after an RS, with n frames and the entries of the book

pub data Judged (es : List Entry) (n : ℕ) (p : List ℕ) : Verdict → Type 0 where
  -- the earliest of a part's faults is its first fault
  by_fault : {v : Verdict} {i : ℕ} → Fault n p v i → Earliest n p v i → Judged es n p v
  -- a part with none of the three faults that is no whole text has its first fault at its end
  by_end : Faultless n p → ((t : Json) → Text p t → ⊥) → Judged es n p (Is.Unfinished (length p))
  -- any other part is valid or invalid
  by_book : {t : Json} → Faultless n p → Text p t → Valid es t → Judged es n p Is.Valid
  not_by_book : {t : Json} → Faultless n p → Text p t → (Valid es t → ⊥) → Judged es n p Is.Invalid
