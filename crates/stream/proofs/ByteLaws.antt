-- What a byte does to the numbers of a reader, whatever table and buffer it is handed. Assumes nothing.
use Rattle.std.specs.Prelude.{Option, Some, None}
use mathlib.Core.Bool.{Bool, true, false}
use mathlib.Core.List.{List, [], ◌∷◌}
use mathlib.Core.Path.{◌≡◌, refl}
use Prim.Native.Nat.{ℕ, ◌+◌, ◌<◌, ◌≤◌}
use native.Mathlib.Omega.{arith}
use lib.Dec.{eqb, ltb, ltb→lt, nltb→le}
use borrow.Author.Tests.{lt-ltb}
use Rattle.json_text.specs.Lexer.{step_of}
use Rattle.json_text.specs.declared.lexer.Mode.{Mode}
use Rattle.json_text.specs.declared.lexer.Mode.TheVariants as M
use Rattle.json_text.specs.declared.lexer.Act.{Act}
use Rattle.json_text.specs.declared.lexer.Step.{Step}
use Rattle.whole.specs.declared.Decimal.{Decimal}
use Rattle.whole.specs.Limits.{CountsWithin}
use Rattle.whole.proofs.LimitLaws.{counts-fresh, counts-later, counts-byte}
use Rattle.table.specs.Table.{Table}
use Rattle.verdict.specs.Verdict.{longest}
use Rattle.progress.specs.declared.Fault.{Fault}
use Rattle.progress.specs.declared.Fault.TheVariants as F
use Rattle.progress.specs.declared.Progress.{Progress}
use Rattle.progress.specs.declared.Advanced.{Advanced}
use Rattle.progress.specs.Act.{first_fault, number_before, number_to}
use Rattle.progress.proofs.ActLaws.{level_after-le, len_after-le, number_before-counts}
use Rattle.laws.specs.Count.{bump}
use Rattle.progress.specs.Progress.{counted, faulted, acted_by, sound, advanced_by_fault, advanced}
use Rattle.progress.specs.Memory.{Mem, top_at, advanced_at, step_mem, ends_record, Ran, run_mem}
use Rattle.progress.proofs.MemoryLaws.{progress-perform, fresh-of-RS}
use Rattle.laws.proofs.TestLaws.{cond-elim}
use Rattle.pass.proofs.ByteLaws.{bump-below}
use Rattle.stream.proofs.LexerLaws.{DigitTo, tells-step_of}

-- no more open levels than n, and at most 33 characters of a key
pub record Within (n : ℕ) (x : Progress) : Type 0 where
  pub level : x.level ≤ n
  pub len : x.len ≤ 33

-- the counts of a number are within the bytes of the record
abbrev pub CountsIn : Progress → Type 0
CountsIn x = CountsWithin x.pos x.number

-- what a byte other than RS does: the bounds stay, it is counted, and the head stays
pub record Moves (n : ℕ) (x y : Progress) : Type 0 where
  pub within : Within n x → Within n y
  pub counts : CountsIn x → CountsIn y
  pub pos : y.pos ≡ bump x.pos
  pub head : y.head ≡ x.head

-- ---- the counts of a number

-- a count of bytes never falls
bump-above : (p : ℕ) → p ≤ bump p
unfolding bump
bump-above p = cond-elim (λ (k : ℕ). p ≤ k) (ltb p 4294967295) (λ h. omega arith) (λ h. omega arith)

counts-to : (m : Mode) (b p : ℕ) (d : Decimal) → p < longest → DigitTo m b → CountsWithin p d → CountsWithin (p + 1) (number_to m d b)
counts-to (M.At q) b p d h c f = counts-later (omega arith) f
counts-to (M.Key s) b p d h c f = counts-later (omega arith) f
counts-to (M.Text s) b p d h c f = counts-later (omega arith) f
counts-to (M.Number n) b p d h c f = counts-byte b p d h f n c
counts-to (M.Word v i) b p d h c f = counts-later (omega arith) f

-- ---- each step of the lexer

module _ (n : ℕ) (x : Progress) where
  abbrev Moved : Advanced → Type 0
  Moved a = Moves n x a.progress

  -- a byte that opens no level, adds no character to a key and is none of a number
  moves-of-le : (y : Progress) → y.level ≤ x.level → y.len ≤ x.len → y.number ≡ x.number → y.pos ≡ bump x.pos → y.head ≡ x.head → Moves n x y
  moves-of-le y h g d p e =
      record {
        within = λ (i : Within n x). record { level = omega (arith, i.level); len = omega (arith, i.len) };
        counts = λ (f : CountsIn x). rw (d, p) (counts-later (bump-above x.pos) f);
        pos = p;
        head = e;
      }

  moves-counted : Moved (counted x)
  moves-counted = moves-of-le _ (omega arith) (omega arith) refl refl refl

  moves-faulted : (f : Fault) → Moved (faulted x f)
  moves-faulted f = moves-of-le _ (omega arith) (omega arith) refl refl refl

  module _ (b : ℕ) (m : Mode) (digit : DigitTo m b) (short : x.pos < longest) where
    -- levels, key and counts stay within their bounds
    moves-acted_by : (f : Option Fault) (a : Act) (e : Bool) → Moved (acted_by f a e x n b m)
    moves-acted_by None a e =
        record {
          within = λ (i : Within n x). record { level = level_after-le a x.level n i.level; len = len_after-le a x.len _ i.len };
          counts = λ (f : CountsIn x).
              rw (bump-below x.pos short) (counts-to m b x.pos (number_before x.mode m x.number) short digit (number_before-counts x.mode m f));
          pos = refl;
          head = refl;
        }
    moves-acted_by (Some f) a e = moves-faulted f

  module _ (b : ℕ) (st : Step) (digit : DigitTo st.mode b) where
    moves-sound : Moved (sound x n b st)
    unfolding sound
    moves-sound =
        cond-elim Moved (ltb x.pos longest)
        (λ h. moves-acted_by b st.mode digit (ltb→lt x.pos longest h) (first_fault st.act x.level n x.pos) st.act st.ends)
        (λ h. moves-faulted F.TooLong)

    moves-by_fault : (f : Option Fault) → Moved (advanced_by_fault f x n b st)
    moves-by_fault None = moves-sound
    moves-by_fault (Some f) = moves-counted

    moves-advanced : eqb b 0x1E ≡ false → Moved (advanced x n b st)
    unfolding advanced
    moves-advanced e = rw e (cond-elim Moved x.head (λ h. moves-counted) (λ h. moves-by_fault x.fault))

-- ---- the memory

module _ (t : Table) (n : ℕ) (m : Mem) where
  -- a byte other than RS
  pub moves-of-byte : (b : ℕ) → eqb b 0x1E ≡ false → Moves n m.progress (step_mem t n m b).progress
  unfolding step_mem
  moves-of-byte b e =
      rw (progress-perform (advanced_at n m b).task t m (advanced_at n m b).progress)
      (moves-advanced n m.progress b (step_of m.progress.mode (top_at m.work m.progress.level) b)
      (tells-step_of b m.progress.mode (top_at m.work m.progress.level)).digit e)

  -- a byte keeps the bounds
  pub within-of-byte : (b : ℕ) → Within n m.progress → Within n (step_mem t n m b).progress
  within-of-byte b i = go (eqb b 0x1E) refl
    where
      go : (x : Bool) → eqb b 0x1E ≡ x → Within n (step_mem t n m b).progress
      go true e = rw (fresh-of-RS t n m b e) (record { level = omega arith; len = omega arith })
      go false e = (moves-of-byte b e).within i

  -- and those of the counts
  pub counts-of-byte : (b : ℕ) → CountsIn m.progress → CountsIn (step_mem t n m b).progress
  counts-of-byte b f = go (eqb b 0x1E) refl
    where
      go : (x : Bool) → eqb b 0x1E ≡ x → CountsIn (step_mem t n m b).progress
      go true e = rw (fresh-of-RS t n m b e) (counts-fresh 0)
      go false e = (moves-of-byte b e).counts f

-- a count of bytes after one more is not 0
pub bump-pos : (p : ℕ) → ltb 0 (bump p) ≡ true
unfolding bump
bump-pos p = cond-elim (λ (k : ℕ). ltb 0 k ≡ true) (ltb p 4294967295) (λ h. lt-ltb 0 (p + 1) (omega arith)) (λ h. lt-ltb 0 p (omega (arith, nltb→le p 4294967295 h)))

-- ---- pieces

module _ (x : Progress) (b : ℕ) where
  -- an RS ends a record where one is open, and no other byte does
  pub ends_record-of-RS : eqb b 0x1E ≡ true → ends_record x b ≡ ltb 0 x.pos
  unfolding ends_record
  ends_record-of-RS e = rw e

  pub ends_record-of-byte : eqb b 0x1E ≡ false → ends_record x b ≡ false
  unfolding ends_record
  ends_record-of-byte e = rw e

-- what each byte keeps, a piece keeps
piece-keeps : (t : Table) (n : ℕ) (P : Progress → Type 0) → ((m : Mem) (b : ℕ) → P m.progress → P (step_mem t n m b).progress)
    → (s : List ℕ) (m : Mem) (i : ℕ) → P m.progress → P (run_mem t n m i s).memory.progress
unfolding run_mem
piece-keeps t n P keeps [] m i p = p
piece-keeps t n P keeps (b ∷ s) m i p =
    cond-elim (λ (e : Ran). P e.memory.progress) (ends_record m.progress b) (λ h. p)
    (λ h. piece-keeps t n P keeps s (step_mem t n m b) (i + 1) (keeps m b p))

module _ (t : Table) (n : ℕ) (s : List ℕ) (m : Mem) (i : ℕ) where
  pub within-of-piece : Within n m.progress → Within n (run_mem t n m i s).memory.progress
  within-of-piece = piece-keeps t n (Within n) (λ x b. within-of-byte t n x b) s m i

  pub counts-of-piece : CountsIn m.progress → CountsIn (run_mem t n m i s).memory.progress
  counts-of-piece = piece-keeps t n CountsIn (λ x b. counts-of-byte t n x b) s m i
