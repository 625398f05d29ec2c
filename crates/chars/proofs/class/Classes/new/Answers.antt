-- `Classes::new` meets its contract: the literal is compared with the rule, entry by entry, by computation. Assumes nothing.
use Rattle.std.proofs.Common.{refl}
use Rattle.json_text.specs.Bytes.{within}
use Rattle.json_text.specs.Classes.{class_of, is_break, is_structure, high_class}
use Rattle.chars.specs.Table.{class_table}
use Rattle.chars.proofs.class.Classes.new.Goals as goal

pub invariant_of-result : goal.invariant_of-result
unfolding class_table class_of is_break is_structure within high_class
invariant_of-result c = record { told = refl }
