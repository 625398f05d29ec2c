-- One byte that only moves a reader on. Assumes nothing.
use Rattle.std.specs.Prelude.{Option, Some, None}
use mathlib.Core.Bool.{Bool, true, false, cond}
use mathlib.Core.List.{List}
use mathlib.Core.Path.{◌≡◌, refl, sym, ap, ◌∙◌}
use Prim.Native.Nat.{ℕ, ◌+◌, ◌-◌, ◌<◌, ◌≤◌, min}
use native.Mathlib.Numerals.{add-one}
use native.Mathlib.Omega.{arith}
use lib.Dec.{eqb}
use lib.ListN.{length, get_or, drop}
use lib.Seq.{drop-cons}
use borrow.Author.Tests.{ne_eqb, lt-ltb, eqb-false}
use Rattle.json_text.specs.Lexer.{step_of}
use Rattle.json_text.specs.declared.lexer.Mode.{Mode}
use Rattle.json_text.specs.declared.lexer.Act.{Act}
use Rattle.json_text.specs.declared.lexer.Act.TheVariants as A
use Rattle.json_text.specs.declared.lexer.Step.{Step}
use Rattle.table.specs.Table.{Table}
use Rattle.progress.specs.declared.Fault.{Fault}
use Rattle.progress.specs.declared.Progress.{Progress}
use Rattle.progress.specs.declared.Advanced.{Advanced}
use Rattle.progress.specs.declared.Task.TheVariants as To
use Rattle.laws.specs.Count.{bump}
use Rattle.progress.specs.Progress.{advance, moved, acted, sound, advanced}
use Rattle.progress.specs.Memory.{Mem, mem, top_at, perform, step_mem, run_mem, ends_record}
use Rattle.pass.specs.Pass.{is_quiet, passes, is_sound, is_reading}

pub never : {X : Type 0} → false ≡ true → X
never q = let z : ◌≡◌ {A = ℕ} 0 1 = cc in absurd (omega arith)

-- ---- what the tests tell

passes-by : (a : Act) (b : ℕ) (v : Bool) → eqb b 0x1E ≡ v → cond v false (is_quiet a) ≡ true → (b ≡ 0x1E → ⊥) × (is_quiet a ≡ true)
passes-by a b true p q = never q
passes-by a b false p q = (eqb-false b 0x1E p, q)

pub passes-quiet : (a : Act) (e : Bool) (b : ℕ) → passes a e b ≡ true → (b ≡ 0x1E → ⊥) × (is_quiet a ≡ true)
unfolding passes
passes-quiet a true b h = never h
passes-quiet a false b h = passes-by a b (eqb b 0x1E) refl h

passes-open : (a : Act) (e : Bool) (b : ℕ) → passes a e b ≡ true → e ≡ false
unfolding passes
passes-open a true b h = never h
passes-open a false b h = refl

reads-by : (h : Bool) (f : Option Fault) → cond h false (is_sound f) ≡ true → (h ≡ false) × (f ≡ None)
reads-by true f e = never e
reads-by false None e = (refl, refl)
reads-by false (Some f) e = never e

pub reads-told : (x : Progress) → is_reading x ≡ true → (x.head ≡ false) × (x.fault ≡ None)
unfolding is_reading
reads-told x e = reads-by x.head x.fault e

-- ---- one byte

-- a byte that is no RS, of a record that is read and may go on
pub advanced-acted : (x : Progress) (n b : ℕ) (st : Step) → x.head ≡ false → x.fault ≡ None → x.pos < 16777216 → (b ≡ 0x1E → ⊥)
    → advanced x n b st ≡ acted st.act st.ends x n b st.mode
unfolding advanced sound
advanced-acted x n b st h f p r = rw (ne_eqb b 0x1E r, h, f, lt-ltb x.pos 16777216 p)

quiet-acted : (a : Act) (x : Progress) (n b : ℕ) (m : Mode) → is_quiet a ≡ true
    → acted a false x n b m ≡ advance (moved x b m x.level x.len) To.Idle
quiet-acted A.Fault x n b m e = never e
quiet-acted A.Pass x n b m e = refl
quiet-acted A.OpenArray x n b m e = never e
quiet-acted A.OpenObject x n b m e = never e
quiet-acted A.Close x n b m e = never e
quiet-acted A.KeyStart x n b m e = never e
quiet-acted A.KeyChar x n b m e = never e
quiet-acted A.KeyEnd x n b m e = never e
quiet-acted A.TextStart x n b m e = refl
quiet-acted A.TextChar x n b m e = refl
quiet-acted A.TextEnd x n b m e = never e
quiet-acted A.NumberStart x n b m e = refl
quiet-acted A.NumberByte x n b m e = refl
quiet-acted (A.WordEnd w) x n b m e = never e

pub bump-below : (p : ℕ) → p < 16777216 → bump p ≡ p + 1
unfolding bump
bump-below p h = rw (lt-ltb p 4294967295 (omega arith))

no_end : (x : Progress) (b : ℕ) → (b ≡ 0x1E → ⊥) → ends_record x b ≡ false
unfolding ends_record
no_end x b r = rw (ne_eqb b 0x1E r)

-- the run over a byte that ends no record
pub next-run : (t : Table) (n : ℕ) (m k : Mem) (s : List ℕ) (i : ℕ) → i < length s → (get_or s i 0 ≡ 0x1E → ⊥) → k ≡ step_mem t n m (get_or s i 0)
    → run_mem t n k (i + 1) (drop (i + 1) s) ≡ run_mem t n m i (drop i s)
unfolding run_mem
next-run t n m k s i h r q =
    rw (drop-cons s i 0, no_end m.progress (get_or s i 0) r, q)
    (ap (λ (j : ℕ). run_mem t n (step_mem t n m (get_or s i 0)) (i + 1) (drop j s)) (add-one i))

module _ (t : Table) (n : ℕ) (x : Progress) (root : Bool) (key w : List ℕ) (b : ℕ) (h : x.head ≡ false) (f : x.fault ≡ None) (p : x.pos < 16777216) where
  -- a byte with a quiet act only moves the record on
  pub quiet_step : (st : Step) → st ≡ step_of x.mode (top_at w x.level) b → passes st.act st.ends b ≡ true
      → mem (moved x b st.mode x.level x.len) root key w ≡ step_mem t n (mem x root key w) b
  unfolding step_mem
  quiet_step st e q =
      let told = passes-quiet st.act st.ends b q in
      sym
      (ap (λ (a : Advanced). perform a.task t (mem x root key w) a.progress)
      (ap (λ (z : Step). advanced x n b z) (sym e)
      ∙ advanced-acted x n b st h f p told.0
      ∙ ap (λ (v : Bool). acted st.act v x n b st.mode) (passes-open st.act st.ends b q)
      ∙ quiet-acted st.act x n b st.mode told.1))

-- ---- how far a piece is read

-- the bytes from a place in the piece to the end make no record too long
pub rest-fits : (len from pos end i : ℕ) → end ≡ from + min (len - from) (16777216 - pos) → from ≤ i → i < end → pos + (i - from) + (end - i) ≤ 16777216
rest-fits len from pos end i e h l =
    let whole : pos + (end - from) ≤ 16777216 = omega arith in
    let split : end - from ≡ i - from + (end - i) = omega arith in
    omega arith

-- the byte at a place before the end makes no record too long
pub byte_fits : (len from pos end j : ℕ) → end ≡ from + min (len - from) (16777216 - pos) → from ≤ j → j < end → pos + (j - from) < 16777216
byte_fits len from pos end j e h l = omega arith

-- one byte further
pub count-more : (pos from j : ℕ) → from ≤ j → pos + (j + 1 - from) ≡ pos + (j - from) + 1
count-more pos from j h = omega arith

-- a place before the end is in the piece
pub in-piece : (len from pos end j : ℕ) → end ≡ from + min (len - from) (16777216 - pos) → from ≤ len → j < end → j < len
in-piece len from pos end j e h l = omega arith
