-- How large the counts of a number get in a record: LIMITS.md, 'The numbers of a reader'. Stated. Assumes nothing.
use Rattle.std.specs.Prelude.{ℕ, ◌≤◌, min}
use Rattle.whole.specs.declared.Decimal.{Decimal}

-- after p bytes of a record: neither zeros nor places are more than these bytes or those of the longest record, and the exponent is at most one that is
-- not past the longest record, with a 9 more
pub record CountsWithin (p : ℕ) (d : Decimal) : Type 0 where
  pub zeros : d.zeros ≤ min p 16777216
  pub places : d.places ≤ min p 16777216
  pub exponent : d.exponent ≤ 167772169
