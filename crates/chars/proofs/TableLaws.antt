-- The table of classes gives each byte its class. Assumes nothing.
use mathlib.Core.Path.{◌≡◌}
use Prim.Native.Nat.{ℕ, ◌<◌}
use Rattle.laws.proofs.TabLaws.{get_d-tab}
use Rattle.json_text.specs.Classes.{class_of}
use Rattle.json_text.specs.declared.class.Class.TheVariants.{Control}
use Rattle.chars.specs.Table.{class_table, class_at}

pub class_at-class_table : (b : ℕ) → b < 256 → class_at class_table b ≡ class_of b
unfolding class_table
class_at-class_table b h = get_d-tab class_of Control 256 b h
