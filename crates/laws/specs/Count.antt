-- A count of bytes or records after one more, which stays at 4,294,967,295 once it is there: REQUIREMENT.md, section 7. Stated. Assumes nothing.
use Rattle.std.specs.Prelude.{cond, ℕ, ◌+◌, ltb}

unfoldable pub bump : ℕ → ℕ
bump p = cond (ltb p 4294967295) (p + 1) p
