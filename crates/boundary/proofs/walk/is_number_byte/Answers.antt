-- `walk::is_number_byte` meets its contract: the tests are those of the definition. Assumes nothing.
use Rattle.std.proofs.Common.{rules, arith}
use Rattle.std.proofs.lemmas.Bool.Decides.{nat_tests}
use Rattle.json_text.specs.Bytes.{within}
use Rattle.json_text.specs.Numbers.{is_digit, is_e}
use Rattle.corners.specs.Numbers.{is_number_byte}
use Rattle.boundary.proofs.walk.is_number_byte.Goals as goal

pub returns-in_default : goal.returns-in_default
unfolding is_number_byte is_digit within is_e
returns-in_default c = grind (arith, nat_tests)

pub returns-in-48-to-57 : goal.returns-in-48-to-57
unfolding is_number_byte is_digit within is_e
returns-in-48-to-57 c = search rules

pub returns-in_default-2 : goal.returns-in_default-2
unfolding is_number_byte is_digit within is_e
returns-in_default-2 c = grind (arith, nat_tests)

pub returns-in-48-to-57-2 : goal.returns-in-48-to-57-2
unfolding is_number_byte is_digit within is_e
returns-in-48-to-57-2 c = search rules

pub returns-in_default-3 : goal.returns-in_default-3
unfolding is_number_byte is_digit within is_e
returns-in_default-3 c = grind (arith, nat_tests)

pub returns-in-48-to-57-3 : goal.returns-in-48-to-57-3
unfolding is_number_byte is_digit within is_e
returns-in-48-to-57-3 c = search rules
