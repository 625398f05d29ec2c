-- `walk::is_gap_byte` meets its contract. Assumes nothing.
use Rattle.std.proofs.Common.{refl, sym, ◌∙◌}
use Rattle.boundary.specs.Walk.{is_gap_byte}
use Rattle.boundary.proofs.walk.is_gap_byte.Goals as goal

pub returns-then-not-is_number_byte : goal.returns-then-not-is_number_byte
unfolding is_gap_byte
returns-then-not-is_number_byte c = rw (sym c.is_number_byte.ensures ∙ c.if-not-is_number_byte.true) refl

pub returns-else-not-is_number_byte : goal.returns-else-not-is_number_byte
unfolding is_gap_byte
returns-else-not-is_number_byte c = rw (← c.is_number_byte.ensures, c.if-not-is_number_byte.false) refl
