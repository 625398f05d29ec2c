-- A number of which nothing is read, as a fresh reader has it: REQUIREMENT.md, section 7. Stated. Assumes nothing.
use Rattle.std.specs.Prelude.{false}
use Rattle.whole.specs.declared.Decimal.{Decimal}

abbrev pub fresh : Decimal
fresh = record { zeros = 0; places = 0; exponent = 0; negative = false; nonzero = false }
