-- The numbers by which the library tells what is answered for a text: LIBRARY.md; those of an answer are in crate replot. Stated. Assumes nothing.
use Rattle.std.specs.Prelude.{ℕ, Result, Ok, Err}
use Rattle.boundary.specs.declared.Refusal.{Refusal}
use Rattle.boundary.specs.Boundary.{refusal_number}

-- how many corners a text has; 0 where it is refused
abbrev pub corner_count : Result ℕ Refusal → ℕ
corner_count (Ok n) = n
corner_count (Err k) = 0

-- the number of a text's refusal; 0 where it is not refused
abbrev pub text_refusal : Result ℕ Refusal → ℕ
text_refusal (Ok n) = 0
text_refusal (Err k) = refusal_number k
