-- How far a text is judged and its numbers are taken. Derived: the laws in proofs/ carry `Walked` over the text and end it in `Exact`. Assumes nothing.
use Rattle.std.specs.Prelude.{Bool, false, not, ◌&&◌, List, ◌≡◌, ℕ, ◌-◌, ◌≤◌, ◌<◌, T, eqb, ℤ, length, get_or, take, drop}
use Rattle.laws.specs.Lists.{all}
use Rattle.json_text.specs.Machine.{State}
use Rattle.table.specs.Table.{Table}
use Rattle.runs.specs.Walk.{judging}
use Rattle.verdict.specs.Track.{sound, track, track_start}
use Rattle.progress.specs.declared.Progress.{Progress}
use Rattle.progress.specs.Memory.{fresh_mem}
use Rattle.follows.specs.Follows.{NoRS, read_part}
use Rattle.reader.specs.declared.Reader.{Reader}
use Rattle.reader.specs.Machine.{memory_of}
use Rattle.corners.specs.Numbers.{is_number_byte, in_number, numbers_of}
use Rattle.boundary.specs.Exact.{entries, unfit_in, filled}

-- a byte between numbers: none of theirs, and no RS
unfoldable pub is_gap_byte : ℕ → Bool
is_gap_byte b = not (is_number_byte b) && not (eqb b 0x1E)

-- the bytes from place i up to j
abbrev pub part : List ℕ → ℕ → ℕ → List ℕ
part s i j = take (j - i) (drop i s)

-- what is answered for a byte is the test f
abbrev pub Tests : (ℕ → Bool → Type 0) → (ℕ → Bool) → Type 0
Tests gives f = (b : ℕ) (r : Bool) → b < 256 → gives b r → r ≡ f b

-- the bytes from place i up to j pass a test, and the next does not
pub record Stretch (f : ℕ → Bool) (s : List ℕ) (i j : ℕ) : Type 0 where
  pub low : i ≤ j
  pub high : j ≤ length s
  pub bytes : T (all f (part s i j))
  pub stop : j < length s → f (get_or s j 0) ≡ false

-- a number at level 3 is being read
unfoldable pub takes : Progress → Bool
takes x = in_number x.mode && eqb x.level 3

-- the first i bytes of the text s are fed to the reader r with the buffer w, and n numbers of them are taken into the memory l, u tells whether one of
-- them is unfit
pub record Walked (t : Table) (s : List ℕ) (i : ℕ) (r : Reader) (w : List ℕ) (n : ℕ) (u : Bool) (l : List ℤ) : Type 0 where
  pub inside : i ≤ length s
  -- none of the bytes is an RS, and the next is none of a number
  pub plain : NoRS (take i s)
  pub cut : 0 < i → i < length s → is_number_byte (get_or s i 0) ≡ false
  -- the reader has three frames, and has read the bytes as a record
  pub first : List ℕ
  pub room : length first ≡ 288
  pub frames : r.frames ≡ 3
  pub level : r.progress.level ≤ 3
  pub len : r.progress.len ≤ 33
  pub memory : memory_of r w ≡ read_part t 3 (fresh_mem false first) (take i s)
  -- where they have no fault, the numbers are those at level 3
  pub numbers : List (List ℕ)
  pub found : (q : State (judging entries)) (j : ℕ) → track entries 3 (track_start entries) (take i s) ≡ sound q j → numbers ≡ numbers_of (take i s)
  pub few : n ≤ i
  pub taken : n ≡ length numbers
  pub unfit : u ≡ unfit_in numbers
  pub placed : l ≡ filled numbers
