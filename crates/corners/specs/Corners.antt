-- The corners that a text says, over its tree: REQUIREMENT.md, section 9. A corner is two numbers, as they are written. Stated. Assumes nothing.
use Rattle.std.specs.Prelude.{List, [], ◌∷◌, ℕ, ◌≤◌, length}
use Rattle.laws.specs.Ascii.{ascii}
use Rattle.json_text.specs.Tree.{Json, Values, Pairs, number, array, object, no_values, values}
use Rattle.json_text.specs.Grammar.{Text}
use Rattle.book.specs.Load.{loads}
use Rattle.book.specs.Examples.{book_b}
use Rattle.runs.specs.Runs.{Among, Valid}
use Rattle.verdict.specs.Verdict.{longest}

-- a text that is valid under book B, and its tree; how many levels it opens is not asked
pub record ValidB (s : List ℕ) (t : Json) : Type 0 where
  pub short : length s ≤ longest
  pub text : Text s t
  pub valid : Valid (loads book_b).entries t

-- the two numbers of a corner
pub record Corner : Type 0 where
  pub x : List ℕ
  pub y : List ℕ

-- each element is an array of two numbers, and they are a corner
pub data CornersIn : Values → List Corner → Type 0 where
  no_corner : CornersIn no_values []
  corner : {x y : List ℕ} {vs : Values} {cs : List Corner} → CornersIn vs cs
      → CornersIn (values (array (values (number x) (values (number y) no_values))) vs) (record { x = x; y = y } ∷ cs)

-- the corners stand under the key `corners`, in their order
pub data CornersOf : Json → List Corner → Type 0 where
  under_corners : {ps : Pairs} {vs : Values} {cs : List Corner} → Among (ascii "corners") (array vs) ps → CornersIn vs cs → CornersOf (object ps) cs
