-- Bytes that only move a reader on, and what passing over them means: the run over the rest of a piece is the run over the whole of it. Derived:
-- `pass_on` and `stay-on` of `PassLaws` and `keep-on` of `KeepLaws` join them to `step_mem` of crate progress. Assumes nothing.
use Rattle.std.specs.Prelude.{Bool, true, false, cond, List, ◌≡◌, ℕ, ◌+◌, ◌-◌, ◌≤◌, ◌<◌, eqb, length, get_or, drop, Option, MatchOption, None}
use Rattle.json_text.specs.Bytes.{is_blank}
use Rattle.json_text.specs.Numbers.{is_digit}
use Rattle.json_text.specs.Classes.{class_of}
use Rattle.json_text.specs.Lexer.{step_of}
use Rattle.json_text.specs.declared.class.Class.{Class}
use Rattle.json_text.specs.declared.class.Class.TheVariants as C
use Rattle.json_text.specs.declared.string.StringMode.{StringMode}
use Rattle.json_text.specs.declared.string.StringMode.TheVariants as S
use Rattle.json_text.specs.declared.number.NumberMode.{NumberMode}
use Rattle.json_text.specs.declared.number.NumberMode.TheVariants as N
use Rattle.json_text.specs.declared.lexer.Mode.{Mode}
use Rattle.json_text.specs.declared.lexer.Mode.TheVariants as M
use Rattle.json_text.specs.declared.lexer.Top.{Top}
use Rattle.json_text.specs.declared.lexer.Act.{Act}
use Rattle.json_text.specs.declared.lexer.Act.TheVariants as A
use Rattle.json_text.specs.declared.lexer.Step.{Step}
use Rattle.whole.specs.declared.Decimal.{Decimal}
use Rattle.whole.specs.Count.{bounded, counted_from}
use Rattle.table.specs.Table.{Table}
use Rattle.progress.specs.declared.Fault.{Fault}
use Rattle.progress.specs.declared.Progress.{Progress}
use Rattle.progress.specs.Act.{number_before}
use Rattle.progress.specs.Progress.{bits_in, high_in}
use Rattle.progress.specs.Memory.{mem, top_at, run_mem}
use Rattle.pass.specs.declared.Passed.{Passed}
use Rattle.pass.specs.declared.Registers.{Registers}

-- ---- bytes that leave the mode as it is

-- a byte of the class is a whole character of a string
abbrev pub plain_class : Class → Bool
plain_class C.Space = true
plain_class C.Structure = true
plain_class C.Digit = true
plain_class C.Other = true
plain_class _ = false

-- a character or the closing quotation mark is awaited
abbrev pub awaits_char : StringMode → Bool
awaits_char S.Char = true
awaits_char _ = false

-- any number of digits may follow
abbrev pub in_digits : NumberMode → Bool
in_digits N.Int = true
in_digits N.Frac = true
in_digits N.Exp = true
in_digits _ = false

-- byte b leaves the mode as it is
abbrev pub stays_in : Mode → ℕ → Bool
stays_in (M.At p) b = is_blank b
stays_in (M.Text s) b = cond (awaits_char s) (plain_class (class_of b)) false
stays_in (M.Number n) b = cond (in_digits n) (is_digit b) false
stays_in _ b = false

-- the first k bytes of s leave the mode m as it is
pub record StaysFor (m : Mode) (s : List ℕ) (k : ℕ) : Type 0 where
  pub bound : k ≤ length s
  pub stays : (j : ℕ) → j < k → (get_or s j 0 < 256) × (stays_in m (get_or s j 0) ≡ true)

-- the bytes of s from one place to another leave the mode m as it is; the other place is not past an end
pub record StayedTo (m : Mode) (s : List ℕ) (from end at : ℕ) : Type 0 where
  pub low : from ≤ at
  pub high : at ≤ end
  pub stays : (k : ℕ) → from ≤ k → k < at → (get_or s k 0 < 256) × (stays_in m (get_or s k 0) ≡ true)

-- the bits of an open character after some bytes that leave the mode as it is, or after none
unfoldable pub bits_over : Bool → Mode → ℕ → ℕ
bits_over some m bits = cond some (bits_in m bits 0x20) bits

-- what is known of a number after the k bytes of s from place i on, each of which leads to mode m
abbrev pub number_over : Mode → Decimal → List ℕ → ℕ → ℕ → Decimal
number_over (M.Number n) d s i k = counted_from bounded n d s i k
number_over _ d s i k = d

-- ---- the registers

abbrev pub registers : ℕ → ℕ → Decimal → Registers
registers bits high d = record { bits = bits; high = high; number = d }

abbrev pub registers_of : Progress → Registers
registers_of x = registers x.bits x.high x.number

-- those of a record, but for the bits
abbrev pub with_bits : Progress → ℕ → Registers
with_bits x bits = registers bits x.high x.number

-- the bytes of s from place `since` on, which lead to mode m, are still to be counted for the number: the registers at place i
abbrev pub settled : Mode → Registers → List ℕ → ℕ → ℕ → Registers
settled m g s since i = registers g.bits g.high (number_over m g.number s since (i - since))

-- after some bytes that leave a mode as it is, which is none of a number, or after none
unfoldable pub registers_over : Bool → Mode → Registers → Registers
registers_over some m g = registers (bits_over some m g.bits) g.high g.number

-- after byte b that leads from one mode to another, but that b is still to be counted for the number
unfoldable pub registers_after : Mode → Mode → Registers → ℕ → Registers
registers_after m next g b = registers (bits_in m g.bits b) (high_in m g.bits g.high b) (number_before m next g.number)

-- ---- bytes with a quiet act

-- the act changes neither levels, key nor frames
abbrev pub is_quiet : Act → Bool
is_quiet A.Pass = true
is_quiet A.TextStart = true
is_quiet A.TextChar = true
is_quiet A.NumberStart = true
is_quiet A.NumberByte = true
is_quiet _ = false

-- byte b is no RS and ends no number, and its act is quiet
unfoldable pub passes : Act → Bool → ℕ → Bool
passes a ends b = cond ends false (cond (eqb b 0x1E) false (is_quiet a))

-- ---- the record

abbrev pub is_sound : Option Fault → Bool
is_sound None = true
is_sound _ = false

-- the bytes of a record are more than counted: it is not the head, and has no fault so far
unfoldable pub is_reading : Progress → Bool
is_reading x = cond x.head false (is_sound x.fault)

abbrev pub keeps_in : Mode → Progress → Bool
keeps_in (M.Key s) x = cond (awaits_char s) (is_reading x) false
keeps_in _ x = false

-- the bytes of a record are more than counted, and a character of a key is awaited
unfoldable pub keeps_chars : Progress → Bool
keeps_chars x = keeps_in x.mode x

-- the record x at another mode, with other registers, after pos bytes, with len characters of its key
abbrev pub placed : Progress → Mode → Registers → ℕ → ℕ → Progress
placed x m g pos len =
    record {
      mode = m;
      fault = x.fault;
      head = x.head;
      level = x.level;
      pos = pos;
      bits = g.bits;
      high = g.high;
      number = g.number;
      len = len;
    }

-- the record x, whose next byte stood at one place of a piece, at another place of it
abbrev pub reached : Progress → Mode → Registers → ℕ → ℕ → Progress
reached x m g from at = placed x m g (x.pos + (at - from)) x.len

abbrev pub passed_at : Progress → Mode → Registers → ℕ → ℕ → Option Step → Passed
passed_at x m g from at st = record { progress = reached x m g from at; at = at; step = st }

-- ---- passing over

-- the bytes of s from one place to another make y of the record x, whatever else is remembered; the innermost open value is of kind top
pub record RunsTo (x : Progress) (top : Top) (s : List ℕ) (from : ℕ) (y : Progress) (at : ℕ) : Type 0 where
  pub low : from ≤ at
  pub high : at ≤ length s
  pub level : y.level ≡ x.level
  pub same : (t : Table) (n : ℕ) (root : Bool) (key w : List ℕ) → top_at w x.level ≡ top
      → run_mem t n (mem y root key w) at (drop at s) ≡ run_mem t n (mem x root key w) from (drop from s)

-- the loop stands at place i of s, not past an end: the bytes before it make of the record x one in mode m, with the registers g, where the bytes from
-- place `since` on are still to be counted for the number
pub record Stands (x : Progress) (top : Top) (s : List ℕ) (from end : ℕ) (m : Mode) (g : Registers) (since i : ℕ) : Type 0 where
  pub below : i ≤ end
  pub counted : since ≤ i
  pub runs : RunsTo x top s from (reached x m (settled m g s since i) from i) i

-- the bytes of s up to place `at` make y of the record x, and st is the step that the lexer makes of the byte there, if there is one
pub record PassedTo (x : Progress) (top : Top) (s : List ℕ) (from : ℕ) (y : Progress) (at : ℕ) (st : Option Step) : Type 0 where
  pub runs : RunsTo x top s from y at
  pub step : MatchOption st (at ≡ length s) (λ z. (at < length s) × (z ≡ step_of y.mode top (get_or s at 0)))

-- ---- the characters of a key

-- the bytes of s from one place to another make y of the record x and put to the key what it has after them
pub record KeptTo (x : Progress) (s : List ℕ) (from : ℕ) (key : List ℕ) (y : Progress) (at : ℕ) (kept : List ℕ) : Type 0 where
  pub low : from ≤ at
  pub high : at ≤ length s
  pub length : length kept ≡ length key
  pub same : (t : Table) (n : ℕ) (root : Bool) (w : List ℕ)
      → run_mem t n (mem y root kept w) at (drop at s) ≡ run_mem t n (mem x root key w) from (drop from s)
