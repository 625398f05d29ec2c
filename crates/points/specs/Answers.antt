-- The lines that the program of points writes: REQUIREMENT.md, section 9. Stated. Assumes nothing.
use Rattle.std.specs.Prelude.{List, ◌++◌, ℕ, Result, Ok, Err}
use Rattle.laws.specs.Ascii.{ascii}
use Rattle.std.specs.Fmt.{decimal}
use Rattle.text.specs.Text.{space, LF}
use Rattle.geometry.specs.declared.Place.{Place}
use Rattle.geometry.specs.declared.Place.TheVariants.{Outside, Inside, Edge}
use Rattle.geometry.specs.declared.Located.{Located}
use Rattle.boundary.specs.declared.Refusal.{Refusal}
use Rattle.boundary.specs.Boundary.{refusal_number}

-- the first line
abbrev pub answer_names : List ℕ
answer_names = ascii "answer corner" ++ LF

-- a word and a number
unfoldable pub word_line : List ℕ → ℕ → List ℕ
word_line w n = w ++ (space ++ (decimal n ++ LF))

-- the word of a place
abbrev pub place_word : Place → List ℕ
place_word Edge = ascii "edge"
place_word Inside = ascii "inside"
place_word Outside = ascii "outside"

-- a refusal by its number
unfoldable pub refused_line : ℕ → List ℕ
refused_line n = word_line (ascii "refused") n

-- where a point lies and the nearest corner, or the number of a refusal
unfoldable pub said_line : Result Located Refusal → List ℕ
said_line (Ok l) = word_line (place_word l.place) l.nearest
said_line (Err k) = refused_line (refusal_number k)

-- line k has no point
unfoldable pub stop_line : ℕ → List ℕ
stop_line k = ascii "line " ++ (decimal k ++ (ascii ": not two whole numbers" ++ LF))
