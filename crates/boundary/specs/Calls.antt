-- What the calls of this crate give and leave in lent memory. Derived: `Exact` says what is computed, and the laws in proofs/ join that to
-- `Boundary`. Assumes nothing.
use Rattle.std.specs.Prelude.{cond, ◌||◌, List, ◌≡◌, ℕ, ◌/◌, ltb, ℤ, Option, Some, None, Result, Ok, Err}
use Rattle.table.specs.Table.{Table}
use Rattle.book.specs.Examples.{book_b}
use Rattle.load.specs.Loads.{book_table, Blank}
use Rattle.geometry.specs.declared.Point.{Point}
use Rattle.geometry.specs.declared.Located.{Located}
use Rattle.boundary.specs.declared.Refusal.{Refusal}
use Rattle.boundary.specs.declared.Refusal.TheVariants as No
use Rattle.boundary.specs.declared.walk.Numbers.{Numbers}
use Rattle.boundary.specs.Exact.{boundary_of, left_corners, HeldBy, query_of}

-- a table is that of book B, and its bytes that mean nothing are 0
pub record LoadsB (t : Table) : Type 0 where
  pub table : t ≡ book_table book_b
  pub blank : Blank book_b t

-- the boundary of a text with these numbers, or of one that is not valid
abbrev pub bound_by : Option Numbers → Result ℕ Refusal
bound_by (Some x) = cond (ltb x.taken 6 || ltb 2048 x.taken) (Err No.Count) (cond x.unfit (Err No.Range) (Ok (x.taken / 2)))
bound_by None = Err No.NotValid

-- what read gives for the text s, and leaves in the lent corners and the lent table
pub record ReadOf (s : List ℕ) (r : Result ℕ Refusal) (corners : List ℤ) (table : Table) : Type 0 where
  pub boundary : r ≡ boundary_of s
  pub corners_left : corners ≡ left_corners s
  pub held : HeldBy r corners
  pub table_left : LoadsB table

-- what a query gives for the text s and the point p, and leaves
pub record QueryOf (s : List ℕ) (p : Point) (r : Result Located Refusal) (corners : List ℤ) (table : Table) : Type 0 where
  pub answer : r ≡ query_of s p
  pub corners_left : corners ≡ left_corners s
  pub table_left : LoadsB table
