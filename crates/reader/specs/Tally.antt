-- The tally: REQUIREMENT.md, section 7. It counts the valid, invalid and refused records of all streams; each count stays at 4,294,967,295 once it is
-- there (`bump`). Stated. Assumes nothing.
use Rattle.verdict.specs.declared.Verdict.{Verdict}
use Rattle.verdict.specs.declared.Verdict.TheVariants as Is
use Rattle.laws.specs.Count.{bump}
use Rattle.reader.specs.declared.Tally.{Tally}

abbrev pub zero_tally : Tally
zero_tally = record { valid = 0; invalid = 0; refused = 0 }

-- one record more
abbrev pub count_valid : Tally → Tally
count_valid y = record { valid = bump y.valid; invalid = y.invalid; refused = y.refused }

abbrev pub count_invalid : Tally → Tally
count_invalid y = record { valid = y.valid; invalid = bump y.invalid; refused = y.refused }

abbrev pub count_refused : Tally → Tally
count_refused y = record { valid = y.valid; invalid = y.invalid; refused = bump y.refused }

abbrev pub tallied : Verdict → Tally → Tally
tallied Is.Valid y = count_valid y
tallied Is.Invalid y = count_invalid y
tallied (Is.Malformed p) y = count_refused y
tallied (Is.TooDeep p) y = count_refused y
tallied Is.TooLong y = count_refused y
tallied (Is.Unfinished p) y = count_refused y
tallied Is.Head y = count_refused y
