-- The numbers by which an answer is told: REQUIREMENT.md, section 10. Stated. Assumes nothing.
use Rattle.std.specs.Prelude.{ℕ, Result, Ok, Err}
use Rattle.geometry.specs.declared.Place.{Place}
use Rattle.geometry.specs.declared.Place.TheVariants.{Outside, Inside, Edge}
use Rattle.geometry.specs.declared.Located.{Located}
use Rattle.boundary.specs.declared.Refusal.{Refusal}
use Rattle.boundary.specs.Boundary.{refusal_number}

-- 0 outside, 1 inside, 2 on the edge
abbrev pub place_number : Place → ℕ
place_number Outside = 0
place_number Inside = 1
place_number Edge = 2

-- the number of an answer: that of the place, or of the refusal
abbrev pub answer_number : Result Located Refusal → ℕ
answer_number (Ok l) = place_number l.place
answer_number (Err k) = refusal_number k

-- the nearest corner; 0 where the answer is a refusal
abbrev pub nearest_in : Result Located Refusal → ℕ
nearest_in (Ok l) = l.nearest
nearest_in (Err k) = 0
