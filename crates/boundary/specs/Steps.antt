-- What a turn of the walk gives. Derived: the laws in proofs/ carry `Walked` over it. Assumes nothing.
use Rattle.std.specs.Prelude.{Bool, true, false, List, ◌≡◌, ℕ, ◌<◌, ℤ, length, replicate, Option, Some, None, Ok, Err}
use Rattle.table.specs.Table.{Table}
use Rattle.reader.specs.Start.{fresh_reader}
use Rattle.reader.specs.Tally.{zero_tally}
use Rattle.reader.specs.Answer.{Answer}
use Rattle.boundary.specs.Exact.{is_valid, valid_b, unfit_in, filled}
use Rattle.book.specs.Examples.{book_b}
use Rattle.load.specs.Loads.{book_table}
use Rattle.corners.specs.Numbers.{is_number_byte, numbers_of}
use Rattle.boundary.specs.Walk.{is_gap_byte, Stretch, Walked}
use Rattle.boundary.specs.declared.walk.Walk.{Walk}
use Rattle.boundary.specs.declared.walk.Numbers.{Numbers}

-- a walk that begins: the reader is behind an RS, and has read nothing of a record
abbrev pub begun : Walk
begun = record { reader = fresh_reader 3 false zero_tally; work = replicate 288 0; at = 0; numbers = record { taken = 0; unfit = false } }

-- the walk w stands in the text s, and l is the memory of its numbers
abbrev pub Stands : Table → List ℕ → Walk → List ℤ → Type 0
Stands t s w l = Walked t s w.at w.reader w.work w.numbers.taken w.numbers.unfit l

-- the walk w stands there, and the next piece goes up to the place k: bytes between numbers up to j, then bytes of numbers
pub record Piece (t : Table) (s : List ℕ) (w : Walk) (l : List ℤ) (j k : ℕ) : Type 0 where
  pub walked : Stands t s w l
  pub table : t ≡ book_table book_b
  pub gap : Stretch is_gap_byte s w.at j
  pub run : Stretch is_number_byte s j k
  pub more : k ≡ w.at → ⊥

-- the walk went on from place i
pub record WentOn (t : Table) (s : List ℕ) (i : ℕ) (w : Walk) (l : List ℤ) : Type 0 where
  pub walked : Stands t s w l
  pub further : i < w.at

-- a turn that began at place i: the walk went on, or the text is not valid
abbrev pub WalkedOn : Table → List ℕ → ℕ → Option (Unit {0}) → Walk → List ℤ → Type 0
WalkedOn t s i (Some _) w l = WentOn t s i w l
WalkedOn t s i None w l = valid_b s ≡ false

-- the walk over the whole text
abbrev pub WalkedAll : Table → List ℕ → Option (Unit {0}) → Walk → List ℤ → Type 0
WalkedAll t s (Some _) w l = Walked t s (length s) w.reader w.work w.numbers.taken w.numbers.unfit l
WalkedAll t s None w l = valid_b s ≡ false

-- an answer that gives a record the verdict valid
abbrev pub says_valid : Answer → Bool
says_valid (Ok None) = false
says_valid (Ok (Some v)) = is_valid v
says_valid (Err k) = false

-- the numbers at level 3 of the text s, which is valid, and which stand in the memory l
pub record NumbersOf (s : List ℕ) (r : Numbers) (l : List ℤ) : Type 0 where
  pub valid : valid_b s ≡ true
  pub taken : r.taken ≡ length (numbers_of s)
  pub unfit : r.unfit ≡ unfit_in (numbers_of s)
  pub memory : l ≡ filled (numbers_of s)

-- what is read of the text s: its numbers, or that it is not valid
abbrev pub ReadsAs : List ℕ → Option Numbers → List ℤ → Type 0
ReadsAs s (Some r) l = NumbersOf s r l
ReadsAs s None l = valid_b s ≡ false
