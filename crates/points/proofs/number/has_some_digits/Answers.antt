-- `number::has_some_digits` meets its contract. Assumes nothing.
use Rattle.std.proofs.Common.{◌≡◌, rules, length, ◌∙◌}
use Rattle.points.proofs.NumberLaws.{digits-none, digits-some}
use Rattle.points.proofs.number.has_some_digits.Goals as goal

pub returns-then-not-is_empty : goal.returns-then-not-is_empty
returns-then-not-is_empty c = let some : length c.args.s.now ≡ 0 → ⊥ = search rules in c.all_digits.ensures ∙ digits-some c.args.s.now some

pub returns-else-not-is_empty : goal.returns-else-not-is_empty
returns-else-not-is_empty c = let none : length c.args.s.now ≡ 0 = search rules in rw c.if-not-is_empty.false (digits-none c.args.s.now none)
