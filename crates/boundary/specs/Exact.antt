-- The same, computed: the verdict that three frames give, and the numbers at level 3 of the text. Derived: `read-refuses`, `read-bounds`,
-- `leaves-left` and `answered-iff` in proofs/ join it to `Boundary`. Assumes nothing.
use Rattle.std.specs.Prelude.{Bool, true, false, cond, ◌&&◌, ◌||◌, List, [], ℕ, ◌/◌, T, ltb, leb, ℤ, pos, nat_abs, length, get_or, set, replicate, Option, Some, None, Result, Ok, Err}
use Rattle.laws.specs.Lists.{any}
use Rattle.laws.specs.Tab.{tab}
use Rattle.book.specs.Entry.{Entry}
use Rattle.book.specs.Load.{loads}
use Rattle.book.specs.Examples.{book_b}
use Rattle.verdict.specs.declared.Verdict.{Verdict}
use Rattle.verdict.specs.declared.Verdict.TheVariants as Is
use Rattle.verdict.specs.Track.{track, track_start, track_end}
use Rattle.geometry.specs.declared.Point.{Point}
use Rattle.geometry.specs.declared.Located.{Located}
use Rattle.geometry.specs.Tests.{located}
use Rattle.coordinate.specs.Exact.{coordinate_of}
use Rattle.corners.specs.Numbers.{numbers_of}
use Rattle.plane.specs.Corners.{corners_in, Held}
use Rattle.boundary.specs.declared.Refusal.TheVariants as No
use Rattle.boundary.specs.declared.Refusal.{Refusal}

-- ---- the text

-- the entries of book B
abbrev pub entries : List Entry
entries = (loads book_b).entries

abbrev pub is_valid : Verdict → Bool
is_valid Is.Valid = true
is_valid Is.Invalid = false
is_valid (Is.Malformed p) = false
is_valid (Is.TooDeep p) = false
is_valid Is.TooLong = false
is_valid (Is.Unfinished p) = false
is_valid Is.Head = false

-- the text is valid under book B
unfoldable pub valid_b : List ℕ → Bool
valid_b s = is_valid (track_end entries (track entries 3 (track_start entries) s))

-- ---- its numbers

-- the value that is kept of a number: 0 where it is unfit
abbrev pub value_of : Option ℤ → ℤ
value_of (Some z) = z
value_of None = pos 0

abbrev pub is_unfit : Option ℤ → Bool
is_unfit (Some z) = false
is_unfit None = true

-- one of the numbers is unfit
unfoldable pub unfit_in : List (List ℕ) → Bool
unfit_in ns = any (λ (ds : List ℕ). is_unfit (coordinate_of ds)) ns

-- number i, or 0 where there are fewer
unfoldable pub number_at : List (List ℕ) → ℕ → ℤ
number_at ns i = value_of (coordinate_of (get_or ns i []))

-- the memory for 2,048 numbers, with the first of the numbers in it
unfoldable pub filled : List (List ℕ) → List ℤ
filled ns = tab (number_at ns) 0 2048

-- the memory after number n is read: it is put in its place, where it has one and is fit
abbrev pub put_at : List ℤ → ℕ → Option ℤ → List ℤ
put_at l n (Some z) = cond (ltb n 2048) (set l n z) l
put_at l n None = l

-- ---- what is read of a text

-- two numbers make a corner
unfoldable pub counted : List (List ℕ) → Result ℕ Refusal
counted ns =
    cond (ltb (length ns) 6 || ltb 2048 (length ns)) (Err No.Count) (cond (unfit_in ns) (Err No.Range) (Ok (length ns / 2)))

unfoldable pub boundary_of : List ℕ → Result ℕ Refusal
boundary_of s = cond (valid_b s) (counted (numbers_of s)) (Err No.NotValid)

-- the memory for corners after a text is read: all zeros where it is refused
abbrev pub left_by : Result ℕ Refusal → List (List ℕ) → List ℤ
left_by (Ok n) ns = filled ns
left_by (Err k) ns = replicate 2048 (pos 0)

unfoldable pub left_corners : List ℕ → List ℤ
left_corners s = left_by (boundary_of s) (numbers_of s)

-- where the text has a boundary, the memory holds its corners
abbrev pub HeldBy : Result ℕ Refusal → List ℤ → Type 0
HeldBy (Ok n) l = Held l n
HeldBy (Err k) l = T true

-- ---- what is answered

unfoldable pub in_range : Point → Bool
in_range p = leb (nat_abs p.x) 1000000 && leb (nat_abs p.y) 1000000

-- for a point, to the boundary cs
unfoldable pub answer_at : List Point → Point → Result Located Refusal
answer_at cs p = cond (in_range p) (Ok (located cs p)) (Err No.Range)

-- for a point, where b was read of a text and the memory l holds its corners
abbrev pub answer_by : Result ℕ Refusal → List ℤ → Point → Result Located Refusal
answer_by (Ok n) l p = answer_at (corners_in l n) p
answer_by (Err k) l p = Err k

unfoldable pub query_of : List ℕ → Point → Result Located Refusal
query_of s p = answer_by (boundary_of s) (left_corners s) p
